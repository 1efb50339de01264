use Rattle.std.proofs.Common.{List, length, sym, ap, subst, arith}
use Rattle.flow_model.specs.declared.case.Decision.TheVariants as decision
use Rattle.point_exits.specs.{declared.task_levels.Level.{Level}, Deciding.{IsAtFirst}, AfterEffect.{Adds}}
use Rattle.point_exits.proofs.{OwnLevels.{own_known, level_of_own, level_listed}, AddingLaws.{no_level, one_level_more, all_levels}, ClaimedGroups.{running_known, keeper_live}}
use Rattle.point_exits.proofs.contest.Contest.push_keepers.Goals as goal

pub of-requires : goal.of-requires
of-requires c =
    let x = c.args.self.now.values.now in
    let known = running_known x.app.now x.pool.now x.after x.leaving.asked c.args.task c.requires c.args.self.now.asked in
    own_known x.app.now x.pool.now x.levels.now c.args.task.0 known x.decidable.levels

pub loop-level-init : goal.loop-level-init
loop-level-init c = (let x = c.args.self.now.values.now in no_level x.app.now x.pool.now x.leaving x.after c.args.task.0 c.as_slice-level-items.result.now decision.Keep c.args.groups.now.items)

pub invariant_of-contender : goal.invariant_of-contender
invariant_of-contender c =
    let x = c.args.self.now.values.now in
    let own = c.of.result.now in
    let known = running_known x.app.now x.pool.now x.after x.leaving.asked c.args.task c.requires c.args.self.now.asked in
    record {
      known = known;
      has_level = level_of_own x.app.now x.pool.now x.levels.now c.args.task.0 known x.decidable.levels own c.of.ensures c.level-item.result
          (level_listed own c.as_slice-level-items.result.now c.loop-level.level-index c.level-item.result c.as_slice-level-items.ensures c.loop-level-test.true c.level-item.is);
    }

pub loop-level-preserved : goal.loop-level-preserved
loop-level-preserved c =
    let x = c.args.self.now.values.now in
    one_level_more x.app.now x.pool.now x.leaving x.after c.args.task.0 c.as_slice-level-items.result.now decision.Keep c.loop-level.level-index c.level-item.result (sym c.level-item.is)
    c.args.groups.now.items c.loop-level.groups.items c.push_keeper.new.groups.items c.loop-level.invariant c.in_ok-push_keeper.ensures

pub returns : goal.returns
returns c =
    let x = c.args.self.now.values.now in
    let t = c.args.task in
    let k = c.loop-level.level-index in
    let known = running_known x.app.now x.pool.now x.after x.leaving.asked t c.requires c.args.self.now.asked in
    let same = c.as_slice-level-items.ensures in
    let done = subst (λ (items : List Level). Adds x (IsAtFirst x.pool.now x.after t.0 items k decision.Keep) c.args.groups.now.items c.loop-level.groups.items) same c.loop-level.invariant in
    all_levels x.app.now x.pool.now x.leaving x.after t.0 x.levels.now known x.decidable.whole.numbers x.decidable.levels c.of.result.now c.of.ensures decision.Keep k
    (omega (arith, ap length same, c.loop-level-test.false)) (λ value within h. keeper_live x.app.now x.leaving t value c.requires h) c.args.groups.now.items c.loop-level.groups.items done
