use Rattle.std.proofs.Common.{◌≡◌, false, true, refl, inl, inr, sym, ◌∙◌}
use Rattle.flow_report.proofs.reached.Reached.is_held_in.Goals as goal

pub returns-then-is_held_by_task : goal.returns-then-is_held_by_task
returns-then-is_held_by_task c = (
  λ e. inl (c.is_held_by_task.ensures.0 c.if-is_held_by_task.true),
  λ h. refl,
)

pub returns : goal.returns
returns c = (
  λ e. inr (c.is_held_by_routine.ensures.0 e),
  λ h. elim h [
    | inl x ↦ (let wrong : false ≡ true = sym c.if-is_held_by_task.false ∙ c.is_held_by_task.ensures.1 x in absurd (cc))
    | inr x ↦ c.is_held_by_routine.ensures.1 x
  ],
)
