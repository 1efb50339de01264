use Rattle.std.proofs.Common.{refl}
use Rattle.osek_standard.proofs.app.App.points.Goals as goal

pub returns : goal.returns
returns c = rw (c.blocks_of_tasks.ensures, c.as_slice-3.ensures, c.blocks_of_isrs.ensures, c.as_slice.ensures, c.blocks_of_counters.ensures, c.as_slice-2.ensures, c.len.ensures) refl
