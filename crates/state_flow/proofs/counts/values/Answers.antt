use Rattle.state_flow.proofs.Sizes.{values_fit}
use Rattle.state_flow.proofs.counts.values.Goals as goal

pub values-requires : goal.values-requires
values-requires c = values_fit c.args.app.now c.masks_are_few.ensures c.args.table.now c.requires
