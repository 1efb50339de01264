use Rattle.std.proofs.Common.{◌≡◌, ℕ, ◌∷◌, length}
use Rattle.task_code.specs.Expect.{Stack, scan, a_name, mask_rest}
use Rattle.task_code.proofs.Operands.{Joins}
use Rattle.task_code.proofs.calls.mask.Given as goal

abbrev pub invariant-loop-events : goal.invariant-loop-events
invariant-loop-events l = record {
  joins : Joins l.events.items l.tokens l.rest;
  takes : (d : ℕ) (stack : Stack) → scan d (a_name ∷ (mask_rest ∷ stack)) l.tokens ≡ scan d (a_name ∷ (mask_rest ∷ stack)) l.rest;
}

abbrev pub decreases-loop-events : goal.decreases-loop-events
decreases-loop-events l = length l.rest
