use Rattle.std.proofs.Common.{length, sym, subst, IfSome, IfNone}
use Rattle.std.specs.declared.option.Option.{Option}
use Rattle.flow_model.specs.declared.case.Decision.{Decision}
use Rattle.numbered_sets.specs.{declared.numbered_entry.NumberedEntry.{NumberedEntry}, NumberedEntries.{AreFilled}}
use Rattle.flow_exits.specs.declared.claim.Claim.TheVariants as claim
use Rattle.flow_exits.specs.Outcomes.{idle_decision}
use Rattle.point_exits.specs.{Narrowing.{NeverUnder}, Deciding.{AddsOne, IsIt, IsKnownDecision}, AfterEffect.{IsLeftBy}}
use Rattle.point_exits.proofs.{ExitLaws.{adds_group}, ClaimedGroups.{idle_known, left_whole, nobody_group, nobody_never}}
use Rattle.point_exits.proofs.contest.Contest.push_nobody.Goals as goal

pub invariant_of-decided : goal.invariant_of-decided
invariant_of-decided c =
    let x = c.args.self.now.values.now in
    let left = subst (λ (o : Option NumberedEntry). IfSome o (IsLeftBy x claim.Nobody (length x.app.now.tasks))) c.in-Some.is c.in_ok-entry.ensures.left in
    let filled = subst (λ (o : Option NumberedEntry). IfSome o AreFilled) c.in-Some.is c.in_ok-entry.ensures.filled in
    record {
      decided = record {
        stay = x.decidable.stay;
        known = subst (IsKnownDecision x.app.now) (sym c.idle_decision.ensures) (idle_known x.app.now x.leaving.asked c.requires);
        levels = x.decidable.levels;
        whole = left_whole x.app.now x.pool.now claim.Nobody x.after c.in-Some.entry left x.decidable.whole filled;
      };
    }

pub returns-in_default : goal.returns-in_default
returns-in_default c =
    let x = c.args.self.now.values.now in
    let never = subst (λ (o : Option NumberedEntry). IfNone o (NeverUnder x.app.now claim.Nobody x.pool.now x.after)) c.in_default.is c.in_ok-entry.ensures.none in
    nobody_never x.app.now x.pool.now x.leaving c.requires x.after never c.args.groups.now.items

pub returns : goal.returns
returns c =
    let x = c.args.self.now.values.now in
    let d = idle_decision x.leaving.asked in
    let entry = c.in-Some.entry in
    let left = subst (λ (o : Option NumberedEntry). IfSome o (IsLeftBy x claim.Nobody (length x.app.now.tasks))) c.in-Some.is c.in_ok-entry.ensures.left in
    let filled = subst (λ (o : Option NumberedEntry). IfSome o AreFilled) c.in-Some.is c.in_ok-entry.ensures.filled in
    let one = subst (λ (e : Decision). AddsOne x.pool.now x.leaving e entry c.args.groups.now.items c.push.new.groups.items) c.idle_decision.ensures c.in_ok-push.ensures in
    adds_group x.app.now x.pool.now x.leaving x.after (IsIt d) d c.args.groups.now.items x.decidable.stay (idle_known x.app.now x.leaving.asked c.requires) entry c.push.new.groups.items
    (left_whole x.app.now x.pool.now claim.Nobody x.after entry left x.decidable.whole filled)
    (nobody_group x.app.now x.pool.now x.leaving c.requires x.after entry left) one
