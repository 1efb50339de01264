use Rattle.flow_model.specs.declared.case.Decision.TheVariants as decision
use Rattle.point_exits.specs.Deciding.{IsAny}
use Rattle.point_exits.proofs.{ExitLaws.{adds_group}, WholeLaws.{unasked_group}}
use Rattle.point_exits.proofs.after_effect.AfterEffect.push_unasked.Goals as goal

pub invariant_of-decided : goal.invariant_of-decided
invariant_of-decided c = (let x = c.args.self in record { decided = record { stay = x.decidable.stay; known = tt; levels = x.decidable.levels; whole = x.decidable.whole } })

pub returns : goal.returns
returns c =
    let x = c.args.self in
    adds_group x.app.now x.pool.now x.leaving x.after IsAny decision.Keep c.args.groups.now.items x.decidable.stay tt x.after c.push.new.groups.items x.decidable.whole
    (unasked_group x.app.now x.pool.now x.leaving x.after c.requires) c.in_ok-push.ensures
