-- the first so far
use Rattle.osek_standard.specs.States.{is_latched}
use Rattle.generic_kernel.specs.Nests.{IsFirstBelow}
use Rattle.generic_kernel.proofs.arrivals.first_latched.Given as goal

abbrev pub invariant-loop-index : goal.invariant-loop-index
invariant-loop-index l = IsFirstBelow l.app (is_latched l.state) l.index l.found
