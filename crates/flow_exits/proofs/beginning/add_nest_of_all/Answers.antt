use Rattle.std.proofs.Common.{◌∙◌}
use Rattle.abstract_state.proofs.RangeLaws.{flat_mapped_more}
use Rattle.flow_exits.specs.Arrivals.{nest_condition}
use Rattle.flow_exits.proofs.beginning.add_nest_of_all.Goals as goal

pub loop-other-preserved : goal.loop-other-preserved
loop-other-preserved c =
    c.in_ok-add_nest_condition.ensures
    ∙ flat_mapped_more c.args.conditions.now c.loop-other.conditions (nest_condition c.args.app.now c.args.source.0) c.loop-other.other c.loop-other.invariant
