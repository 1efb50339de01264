use Rattle.std.proofs.Common.{subst, IfSome, IfNone}
use Rattle.std.specs.declared.option.Option.{Option}
use Rattle.flow_model.specs.declared.case.Decision.TheVariants as decision
use Rattle.numbered_sets.specs.declared.numbered_entry.NumberedEntry.{NumberedEntry}
use Rattle.flow_exits.specs.declared.claim.Claim.TheVariants as claim
use Rattle.point_exits.specs.Deciding.{IsAtLevel, IsCut, NeverAt}
use Rattle.point_exits.proofs.{ExitLaws.{adds_group}, ClaimedGroups.{keeps_free, keeper_group, no_keeper}}
use Rattle.point_exits.proofs.contest.Contender.push_keeper.Goals as goal

pub left_by-requires : goal.left_by-requires
left_by-requires c = keeps_free c.args.self.now.task c.args.self.now.level.now.priority

pub returns-in_default : goal.returns-in_default
returns-in_default c =
    let x = c.args.self.now.contest.now.values.now in
    let t = c.args.self.now.task in
    let level = c.args.self.now.level.now in
    let never = subst (λ (o : Option NumberedEntry). IfNone o (NeverAt x.app.now (claim.Keeps t level.priority) x.pool.now x.after t.0 level)) c.in_default.is c.in_ok-entry.ensures.none in
    no_keeper x.app.now x.pool.now x.levels.now x.decidable.levels x.leaving t c.requires c.args.self.now.known level c.args.self.now.has_level x.after never c.args.groups.now.items

pub invariant_of-decided : goal.invariant_of-decided
invariant_of-decided c =
    let x = c.args.self.now.contest.now.values.now in
    let t = c.args.self.now.task in
    let level = c.args.self.now.level.now in
    let left : IsCut x.app.now x.pool.now (claim.Keeps t level.priority) t.0 level x.after c.in-Some.entry
    = subst (λ (o : Option NumberedEntry). IfSome o (IsCut x.app.now x.pool.now (claim.Keeps t level.priority) t.0 level x.after)) c.in-Some.is c.in_ok-entry.ensures.some in
    record { decided = record { stay = x.decidable.stay; known = tt; levels = x.decidable.levels; whole = left.whole } }

pub returns : goal.returns
returns c =
    let x = c.args.self.now.contest.now.values.now in
    let t = c.args.self.now.task in
    let level = c.args.self.now.level.now in
    let left : IsCut x.app.now x.pool.now (claim.Keeps t level.priority) t.0 level x.after c.in-Some.entry
    = subst (λ (o : Option NumberedEntry). IfSome o (IsCut x.app.now x.pool.now (claim.Keeps t level.priority) t.0 level x.after)) c.in-Some.is c.in_ok-entry.ensures.some in
    adds_group x.app.now x.pool.now x.leaving x.after (IsAtLevel x.pool.now x.after t.0 level decision.Keep) decision.Keep c.args.groups.now.items x.decidable.stay tt c.in-Some.entry c.push.new.groups.items left.whole
    (keeper_group x.app.now x.pool.now x.levels.now x.decidable.levels x.leaving t c.requires c.args.self.now.known level c.args.self.now.has_level x.after c.in-Some.entry left.claimed) c.in_ok-push.ensures
