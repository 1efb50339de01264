use Rattle.std.proofs.Common.{true, false, subst, arith, IfNone}
use Rattle.std.specs.declared.option.Option.{Option}
use Rattle.numbered_sets.specs.declared.numbered_entry.NumberedEntry.{NumberedEntry}
use Rattle.point_exits.specs.Narrowing.{NeverUnder}
use Rattle.point_exits.proofs.{LeftLaws.{tasks_counted}, ClaimedGroups.{met_at, left_there, never_met, cut}}
use Rattle.point_exits.proofs.contest.Contender.left_by.Goals as goal

pub meets-requires : goal.meets-requires
meets-requires c = omega (arith, tasks_counted c.args.self.now.contest.now.values.now.app.now, c.args.self.now.contest.now.values.now.decidable.whole.size, c.args.self.now.known, c.index-component.ensures)

pub keep-requires : goal.keep-requires
keep-requires c =
    let x = c.args.self.now.contest.now.values.now in
    left_there x.app.now x.pool.now c.args.claim c.args.self.now.task.0 x.after c.args.self.now.known x.decidable.whole.size c.in_ok-left.field-0 c.in-Some.left c.in-Some.is c.in_ok-left.ensures.left
    c.index-component.result c.index-component.ensures

pub returns-then-not-meets-clause-none : goal.returns-then-not-meets-clause-none
returns-then-not-meets-clause-none c =
    let x = c.args.self.now.contest.now.values.now in
    let none = met_at x.after c.args.self.now.level.now.numbers c.args.self.now.task.0 c.index-component.result false c.meets.result c.index-component.ensures c.meets.ensures c.if-not-meets.true in
    never_met x.app.now c.args.claim x.pool.now x.after c.args.self.now.task.0 c.args.self.now.level.now none

pub returns-in_default-clause-none : goal.returns-in_default-clause-none
returns-in_default-clause-none c =
    let x = c.args.self.now.contest.now.values.now in
    let never = subst (λ (o : Option NumberedEntry). IfNone o (NeverUnder x.app.now c.args.claim x.pool.now x.after)) c.in_default.is c.in_ok-left.ensures.none in
    λ value within under at. never value within under

pub returns-clause-some : goal.returns-clause-some
returns-clause-some c =
    let x = c.args.self.now.contest.now.values.now in
    let level = c.args.self.now.level.now in
    let met = met_at x.after level.numbers c.args.self.now.task.0 c.index-component.result true c.meets.result c.index-component.ensures c.meets.ensures c.if-not-meets.false in
    cut x.app.now x.pool.now c.args.claim c.args.self.now.task.0 level x.after c.args.self.now.known x.decidable.whole c.requires met c.in_ok-left.field-0 c.in-Some.left c.in-Some.is c.in_ok-left.ensures.left c.in_ok-left.ensures.filled
    c.index-component.result c.keep.new.self c.index-component.ensures c.in_ok-keep.ensures.sets
