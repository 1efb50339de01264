use Rattle.std.proofs.Common.{Bool, ap₂, subst, Some, IfSome, IfNone}
use Rattle.std.specs.declared.option.Option.{Option}
use Rattle.osek_values.specs.declared.numbers.TaskNo.{TaskNo}
use Rattle.flow_model.specs.declared.case.Decision.TheVariants as decision
use Rattle.numbered_sets.specs.declared.numbered_entry.NumberedEntry.{NumberedEntry}
use Rattle.flow_exits.specs.declared.claim.Claim.{Claim}
use Rattle.flow_exits.specs.declared.claim.Claim.TheVariants as claim
use Rattle.point_exits.specs.Deciding.{IsAtLevel, IsCut, NeverAt}
use Rattle.point_exits.proofs.{ExitLaws.{adds_group}, ClaimedGroups.{gets_free, winner_group, no_winner}}
use Rattle.point_exits.proofs.contest.Contender.push_winner.Goals as goal

pub left_by-requires : goal.left_by-requires
left_by-requires c = gets_free c.args.self.now.task c.args.self.now.level.now.priority c.over.result c.may_tie.result

pub returns-in_default : goal.returns-in_default
returns-in_default c =
    let x = c.args.self.now.contest.now.values.now in
    let w = c.args.self.now.task in
    let level = c.args.self.now.level.now in
    let gets = claim.Gets w level.priority c.over.result c.may_tie.result in
    let none = subst (λ (o : Option NumberedEntry). IfNone o (NeverAt x.app.now gets x.pool.now x.after w.0 level)) c.in_default.is c.in_ok-entry.ensures.none in
    let same = ap₂ (λ (o : Option TaskNo) (b : Bool). claim.Gets w level.priority o b) c.over.ensures c.may_tie.ensures in
    let never = subst (λ (k : Claim). NeverAt x.app.now k x.pool.now x.after w.0 level) same none in
    no_winner x.app.now x.pool.now x.levels.now x.decidable.levels x.leaving w c.args.self.now.known c.requires level c.args.self.now.has_level x.after never c.args.groups.now.items

pub invariant_of-decided : goal.invariant_of-decided
invariant_of-decided c =
    let x = c.args.self.now.contest.now.values.now in
    let w = c.args.self.now.task in
    let level = c.args.self.now.level.now in
    let gets = claim.Gets w level.priority c.over.result c.may_tie.result in
    let left : IsCut x.app.now x.pool.now gets w.0 level x.after c.in-Some.entry
    = subst (λ (o : Option NumberedEntry). IfSome o (IsCut x.app.now x.pool.now gets w.0 level x.after)) c.in-Some.is c.in_ok-entry.ensures.some in
    record { decided = record { stay = x.decidable.stay; known = c.args.self.now.known; levels = x.decidable.levels; whole = left.whole } }

pub returns : goal.returns
returns c =
    let x = c.args.self.now.contest.now.values.now in
    let w = c.args.self.now.task in
    let level = c.args.self.now.level.now in
    let d = decision.To (Some w) in
    let gets = claim.Gets w level.priority c.over.result c.may_tie.result in
    let its : IsCut x.app.now x.pool.now gets w.0 level x.after c.in-Some.entry
    = subst (λ (o : Option NumberedEntry). IfSome o (IsCut x.app.now x.pool.now gets w.0 level x.after)) c.in-Some.is c.in_ok-entry.ensures.some in
    let same = ap₂ (λ (o : Option TaskNo) (b : Bool). claim.Gets w level.priority o b) c.over.ensures c.may_tie.ensures in
    let left = subst (λ (k : Claim). IsCut x.app.now x.pool.now k w.0 level x.after c.in-Some.entry) same its in
    adds_group x.app.now x.pool.now x.leaving x.after (IsAtLevel x.pool.now x.after w.0 level d) d c.args.groups.now.items x.decidable.stay c.args.self.now.known c.in-Some.entry c.push.new.groups.items left.whole
    (winner_group x.app.now x.pool.now x.levels.now x.decidable.levels x.leaving w c.args.self.now.known c.requires level c.args.self.now.has_level x.after c.in-Some.entry c.args.self.now.contest.now.asked left.claimed) c.in_ok-push.ensures
