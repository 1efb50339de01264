-- what was made, and what is to be made of the rest, is the whole
use Rattle.std.proofs.Common.{◌≡◌, ◌++◌, drop, map}
use Rattle.generic_kernel.proofs.startup.zeros.Given as goal

abbrev pub invariant-loop-counter : goal.invariant-loop-counter
invariant-loop-counter l = l.counters.items ++ map (λ _. 0) (drop l._counter-index l._counter-items) ≡ map (λ _. 0) l.app.counters
