-- the first so far
use Rattle.osek_standard.specs.States.{is_in, source_state}
use Rattle.generic_kernel.specs.Nests.{IsFirstBelow}
use Rattle.generic_kernel.proofs.nests.next_routine.Given as goal

abbrev pub invariant-loop-index : goal.invariant-loop-index
invariant-loop-index l = IsFirstBelow l.app (λ k. is_in (source_state l.state k)) l.index l.found
