use Rattle.std.proofs.{Common.{sym}, lemmas.Bool.{OnFalse_at}}
use Rattle.point_exits.proofs.SiftedSets.{leaves_among}
use Rattle.point_exits.proofs.changes.NumberedValues.may_pass.Goals as goal

pub returns-then-not-has_wanted : goal.returns-then-not-has_wanted
returns-then-not-has_wanted c =
    leaves_among c.args.self.now.pool.now c.args.conditions.now c.loop-condition.condition-index c.condition-item.result c.args.self.now.entry.now c.loop-condition-test.true (sym c.condition-item.is)
    (OnFalse_at c.if-not-has_wanted.true c.has_wanted.ensures)
