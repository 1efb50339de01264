-- No resource is held by two, and each holder is under the ceilings of what it holds, in each state that a run comes to.
use Rattle.std.proofs.Common.{ℕ, ◌≤◌, sym, ◌∙◌, subst, inl, inr}
use Rattle.osek_standard.specs.declared.{app.App.{App}, state.State.{State}}
use Rattle.kernel_guarantees.specs.{Reached.{IsReached}, Resources.{Holder, Holds, IsCeiled, IsHeldOnce, ceiling_for, own_rank}}
use Rattle.kernel_guarantees.proofs.{Reaching.{reached_has}, StackSteps.{IsKeptByStacks, free_everywhere, stacks_keep, start_holds_none}}

module _ (app : App) where
  held_once_stays : IsKeptByStacks app IsHeldOnce
  held_once_stays = record {
    shrinks = λ s r less once x y p h g. once x y p (less x p h) (less y p g);
    takes = λ s r by once x y p h g. elim (by.grows x p h) [
      | inl old ↦ elim (by.grows y p g) [
        | inl also ↦ once x y p old also
        | inr new ↦ absurd (free_everywhere s by.resource by.free x (subst (λ (n : ℕ). Holds s x n) new.1 old))
      ]
      | inr new ↦ elim (by.grows y p g) [
        | inl also ↦ absurd (free_everywhere s by.resource by.free y (subst (λ (n : ℕ). Holds s y n) new.1 also))
        | inr next ↦ new.0 ∙ sym next.0
      ]
    ];
  }

  ceiled_stays : IsKeptByStacks app (IsCeiled app)
  ceiled_stays = record {
    shrinks = λ s r less under x p h. under x p (less x p h);
    takes = λ s r by under x p h. elim (by.grows x p h) [
      | inl old ↦ under x p old
      | inr new ↦ subst (λ (n : ℕ). own_rank app x ≤ ceiling_for app x n) (sym new.1) (subst (λ (z : Holder). own_rank app z ≤ ceiling_for app z by.resource) (sym new.0) by.allowed)
    ];
  }

  pub reached_is_held_once : (s : State) → IsReached app s → IsHeldOnce s
  reached_is_held_once s r = reached_has app IsHeldOnce (λ mode known x y p h g. absurd (start_holds_none app mode x p h)) (stacks_keep app IsHeldOnce held_once_stays) s r

  pub reached_is_ceiled : (s : State) → IsReached app s → IsCeiled app s
  reached_is_ceiled s r = reached_has app (IsCeiled app) (λ mode known x p h. absurd (start_holds_none app mode x p h)) (stacks_keep app (IsCeiled app) ceiled_stays) s r
