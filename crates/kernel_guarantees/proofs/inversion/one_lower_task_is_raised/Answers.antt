use Rattle.std.proofs.{Common.{inl, inr}, lemmas.Bool.{cases_eq}}
use Rattle.kernel_guarantees.proofs.{Stacked.{one_raised}, StackedSteps.{reached_is_stacked}}
use Rattle.kernel_guarantees.proofs.inversion.one_lower_task_is_raised.Goals as goal

pub returns : goal.returns
returns c = λ app s p t u reached live also low high low_too high_too. elim (cases_eq t u) [
  | inl same ↦ same
  | inr other ↦ absurd (one_raised app s (reached_is_stacked app s reached) p t u other live also low high low_too high_too)
]
