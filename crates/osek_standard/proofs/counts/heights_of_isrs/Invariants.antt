-- the heights so far
use Rattle.std.proofs.Common.{◌≡◌, ◌≤◌, ◌*◌, take}
use Rattle.std.specs.List.{sum_by}
use Rattle.osek_standard.specs.{Counts.{isr_height}, declared.counts.TheConstants.{MAX_ISR_HEIGHT}}
use Rattle.osek_standard.proofs.counts.heights_of_isrs.Given as goal

abbrev pub invariant-loop-isr : goal.invariant-loop-isr
invariant-loop-isr l = record {
  value : l.height ≡ sum_by (isr_height l.stacks) (take l.isr-index l.isrs);
  few : l.height ≤ l.isr-index * MAX_ISR_HEIGHT;
}
