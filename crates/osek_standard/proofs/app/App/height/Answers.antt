use Rattle.std.proofs.Common.{refl}
use Rattle.osek_standard.proofs.app.App.height.Goals as goal

pub returns : goal.returns
returns c = rw (
  c.heights_of_tasks.ensures.value,
  c.heights_of_counters.ensures,
  c.heights_of_isrs.ensures.value,
  c.stacks-stacks.ensures.value,
  c.takable_of.ensures,
  c.as_slice.ensures,
  c.as_slice-2.ensures,
  c.as_slice-3.ensures,
  c.events_of_tasks.ensures,
  c.as_slice-tasks.ensures,
  c.len.ensures,
) refl
