use Rattle.std.proofs.Common.{◌<◌, Bool, length, sym, subst, arith}
use Rattle.std.specs.Bool.{OnTrue, OnFalse}
use Rattle.numbered_sets.specs.NumberedEntries.{AreFilled, HasEmptySet}
use Rattle.point_exits.specs.Deciding.{IsAsked}
use Rattle.point_exits.proofs.{LeftLaws.{tasks_counted}, OwnLevels.{own_known}}
use Rattle.point_exits.proofs.WholeLaws.{narrowed_live, whole_live, all_alive, unknown_task, never_runs, running_adds, live_adds}
use Rattle.point_exits.proofs.after_effect.AfterEffect.push_over.Goals as goal

pub returns-then-index-len : goal.returns-then-index-len
returns-then-index-len c = (let x = c.args.self in unknown_task x.app.now x.pool.now x.leaving x.after c.args.task c.requires (omega arith) c.args.groups.now.items)

pub of-requires : goal.of-requires
of-requires c = (let x = c.args.self in own_known x.app.now x.pool.now x.levels.now c.args.task.0 (omega arith) c.args.self.decidable.levels)

pub keep_live-requires : goal.keep_live-requires
keep_live-requires c =
    let app = c.args.self.app.now in
    let known : c.args.task.0 < length app.tasks = omega arith in
    let counted = tasks_counted app in
    let size = c.args.self.decidable.whole.size in
    omega (arith, known, counted, size)

pub returns-then-not-is_filled : goal.returns-then-not-is_filled
returns-then-not-is_filled c =
    let x = c.args.self in
    let t = c.args.task in
    let live = c.keep_live.new.entry in
    let known : t.0 < length x.app.now.tasks = omega arith in
    let narrowed = narrowed_live x.app.now x.pool.now x.levels.now t.0 known c.args.self.decidable.levels c.of.result.now c.of.ensures x.after live c.args.self.decidable.whole.numbers c.in_ok-keep_live.ensures in
    let empty = subst (λ (b : Bool). OnFalse b (HasEmptySet live)) c.if-not-is_filled.true c.is_filled.ensures.none in
    never_runs x.app.now x.pool.now x.leaving x.after t c.requires live known narrowed c.args.self.decidable.whole.filled empty c.args.groups.now.items

pub invariant_of-running : goal.invariant_of-running
invariant_of-running c =
    let x = c.args.self in
    let t = c.args.task in
    let live = c.keep_live.new.entry in
    let known : t.0 < length x.app.now.tasks = omega arith in
    let narrowed = narrowed_live x.app.now x.pool.now x.levels.now t.0 known c.args.self.decidable.levels c.of.result.now c.of.ensures x.after live c.args.self.decidable.whole.numbers c.in_ok-keep_live.ensures in
    let filled = subst (λ (b : Bool). OnTrue b (AreFilled live)) c.if-not-is_filled.false c.is_filled.ensures.filled in
    record {
      decidable = record {
        stay = x.decidable.stay;
        levels = x.decidable.levels;
        whole = whole_live x.app.now x.pool.now x.after live t.0 known narrowed x.decidable.whole filled;
      };
    }

pub invariant_of-contest : goal.invariant_of-contest
invariant_of-contest c =
    let x = c.args.self in
    let t = c.args.task in
    let live = c.keep_live.new.entry in
    let known : t.0 < length x.app.now.tasks = omega arith in
    let narrowed = narrowed_live x.app.now x.pool.now x.levels.now t.0 known c.args.self.decidable.levels c.of.result.now c.of.ensures x.after live c.args.self.decidable.whole.numbers c.in_ok-keep_live.ensures in
    record {
      needed = c.in_ok-needs.ensures;
      asked = subst (IsAsked x.app.now x.pool.now live) (sym c.requires) (all_alive x.app.now x.pool.now x.after live t.0 known narrowed);
    }

pub returns : goal.returns
returns c =
    let x = c.args.self in
    let t = c.args.task in
    let live = c.keep_live.new.entry in
    let known : t.0 < length x.app.now.tasks = omega arith in
    let narrowed = narrowed_live x.app.now x.pool.now x.levels.now t.0 known c.args.self.decidable.levels c.of.result.now c.of.ensures x.after live c.args.self.decidable.whole.numbers c.in_ok-keep_live.ensures in
    let adds =
    running_adds x.app.now x.pool.now x.leaving live t c.requires c.args.groups.now.items c.push_keepers.new.groups.items c.push_winners.new.groups.items c.in_ok-push_keepers.ensures c.in_ok-push_winners.ensures in
    live_adds x.app.now x.pool.now x.leaving x.after t c.requires live known narrowed c.args.groups.now.items c.push_winners.new.groups.items adds
