-- what the check says, as it is told
use Rattle.std.proofs.Common.{inr, subst}
use Rattle.abstract_state.specs.Tables.{sets_of}
use Rattle.flow_check.specs.Verdicts.{IsVerdict}
use Rattle.commands.specs.{Checking.{IsSaid}, Due.{agreed, denied}}
use Rattle.commands.proofs.VerdictPlaces.{place_of}
use Rattle.commands.proofs.checking.judge.Goals as goal

pub denial-requires : goal.denial-requires
denial-requires c = place_of c.args.image.now (sets_of c.args.table.now) c.in-Ok.verdict c.in-Ok.ensures.verdict

pub returns-in-Ok-None : goal.returns-in-Ok-None
returns-in-Ok-None c =
    let i = c.args.image.now in
    let table = sets_of c.args.table.now in
    let yes = subst (IsSaid i.app c.in-Ok.verdict) c.in-Ok-None.field-0-is c.in-Ok-None.ensures in
    inr (agreed (subst (IsVerdict i table) yes c.in-Ok.ensures.verdict))

pub returns-in-Ok-Some : goal.returns-in-Ok-Some
returns-in-Ok-Some c =
    let told = subst (IsSaid c.args.image.now.app c.in-Ok.verdict) c.in-Ok-Some.field-0-is c.in-Ok-Some.ensures in
    inr (denied c.in-Ok-Some.denial (record { verdict = c.in-Ok.verdict; is = c.in-Ok.ensures.verdict; told = told }))
