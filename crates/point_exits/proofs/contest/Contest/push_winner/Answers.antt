use Rattle.std.proofs.Common.{List, Some, length, sym, ap, subst, ◌∙◌, arith}
use Rattle.std.specs.declared.option.Option.{Option}
use Rattle.osek_values.specs.declared.numbers.TaskNo.{TaskNo}
use Rattle.osek_standard.specs.States.{is_that_task}
use Rattle.flow_model.specs.declared.case.Decision.TheVariants as decision
use Rattle.point_exits.specs.{declared.task_levels.Level.{Level}, Deciding.{IsAtFirst}, AfterEffect.{Adds}}
use Rattle.point_exits.proofs.{OwnLevels.{own_known, level_of_own, level_listed}, AddingLaws.{no_level, one_level_more, all_levels}, ClaimedGroups.{winner_live, no_running_winner}}
use Rattle.point_exits.proofs.contest.Contest.push_winner.Goals as goal

pub returns-then-is_running : goal.returns-then-is_running
returns-then-is_running c =
    let x = c.args.self.now.values.now in
    no_running_winner x.app.now x.pool.now x.leaving c.args.task x.after c.args.groups.now.items (ap (λ (o : Option TaskNo). is_that_task o c.args.task.0) (sym c.over.ensures) ∙ sym c.is_running.ensures ∙ c.if-is_running.true)

pub of-requires : goal.of-requires
of-requires c = (let x = c.args.self.now.values.now in own_known x.app.now x.pool.now x.levels.now c.args.task.0 c.requires x.decidable.levels)

pub loop-level-init : goal.loop-level-init
loop-level-init c = (let x = c.args.self.now.values.now in no_level x.app.now x.pool.now x.leaving x.after c.args.task.0 c.as_slice-level-items.result.now (decision.To (Some c.args.task)) c.args.groups.now.items)

pub push_winner-requires : goal.push_winner-requires
push_winner-requires c = ap (λ (o : Option TaskNo). is_that_task o c.args.task.0) (sym c.over.ensures) ∙ sym c.is_running.ensures ∙ c.if-is_running.false

pub invariant_of-contender : goal.invariant_of-contender
invariant_of-contender c =
    let x = c.args.self.now.values.now in
    let own = c.of.result.now in
    record {
      known = c.requires;
      has_level = level_of_own x.app.now x.pool.now x.levels.now c.args.task.0 c.requires x.decidable.levels own c.of.ensures c.level-item.result
          (level_listed own c.as_slice-level-items.result.now c.loop-level.level-index c.level-item.result c.as_slice-level-items.ensures c.loop-level-test.true c.level-item.is);
    }

pub loop-level-preserved : goal.loop-level-preserved
loop-level-preserved c =
    let x = c.args.self.now.values.now in
    one_level_more x.app.now x.pool.now x.leaving x.after c.args.task.0 c.as_slice-level-items.result.now (decision.To (Some c.args.task)) c.loop-level.level-index c.level-item.result (sym c.level-item.is)
    c.args.groups.now.items c.loop-level.groups.items c.push_winner.new.groups.items c.loop-level.invariant c.in_ok-push_winner.ensures

pub returns : goal.returns
returns c =
    let x = c.args.self.now.values.now in
    let t = c.args.task in
    let d = decision.To (Some t) in
    let k = c.loop-level.level-index in
    let same = c.as_slice-level-items.ensures in
    let done = subst (λ (items : List Level). Adds x (IsAtFirst x.pool.now x.after t.0 items k d) c.args.groups.now.items c.loop-level.groups.items) same c.loop-level.invariant in
    all_levels x.app.now x.pool.now x.leaving x.after t.0 x.levels.now c.requires x.decidable.whole.numbers x.decidable.levels c.of.result.now c.of.ensures d k
    (omega (arith, ap length same, c.loop-level-test.false)) (λ value within h. winner_live x.app.now x.leaving t value h) c.args.groups.now.items c.loop-level.groups.items done
