use Rattle.numbered_sets.proofs.SourceSlots.{load_known}
use Rattle.numbered_sets.proofs.slot_values.source_at.Goals as goal

pub at-load-requires : goal.at-load-requires
at-load-requires c = load_known c.args.first.0 c.args.count c.args.loads.now c.args.slot c.if-slot-eq0.false c.requires
