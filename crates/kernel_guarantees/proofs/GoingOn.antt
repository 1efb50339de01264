-- The routine that goes on, as the one with the property.
use Rattle.std.proofs.{Common.{◌≡◌, ℕ, true, false, sym, subst, ap, inl, inr, Some, None}, lemmas.Bool.{cases_eq}}
use Rattle.std.specs.{Prelude.{option_map}}
use Rattle.osek_values.specs.{declared.numbers.SourceNo.{SourceNo}, Numbers.{source_no}}
use Rattle.osek_standard.specs.declared.{app.App.{App}, state.State.{State}}
use Rattle.osek_standard.specs.{Apps.{source_priority}, States.{is_in, source_state}, Levels.{comes_before, entered_sources, next_routine}}
use Rattle.osek_standard.proofs.{AheadLaws.{ahead_apart, ahead_of_itself, apart_ahead}, FirstLaws.{none_first}, Members.{Among, passing_among}}
use Rattle.osek_standard.proofs.{NestLaws.{is_next, next_is, none_next}}
use Rattle.kernel_guarantees.specs.Properties.{GoesOn}

module _ (app : App) (s : State) where
  pub next_goes_on : (k : SourceNo) → next_routine app s ≡ Some k → GoesOn app s k.0
  next_goes_on k e = let h = next_is app s k e in record {
    began = h.began;
    others = λ l in_too other. ahead_apart (source_priority app k.0) k.0 (source_priority app l) l (h.before_each l in_too) other;
  }

  pub goes_on_next : (k : ℕ) → GoesOn app s k → next_routine app s ≡ Some (source_no k)
  goes_on_next k h = is_next app s k (record {
    began = h.began;
    before_each = λ l in_too. elim (cases_eq l k) [
      | inl e ↦ subst (λ (m : ℕ). comes_before app k m ≡ true) (sym e) (ahead_of_itself (source_priority app k) k)
      | inr other ↦ apart_ahead (source_priority app k) k (source_priority app l) l (h.others l in_too other)
    ];
  })

  pub none_goes_on : next_routine app s ≡ None → (k : ℕ) → is_in (source_state s k) ≡ false
  none_goes_on e k = ap is_in (none_next app s e k)

  pub nothing_goes_on : ((k : ℕ) → is_in (source_state s k) ≡ false) → next_routine app s ≡ None
  nothing_goes_on none = ap (option_map source_no) (none_first (comes_before app) (entered_sources app s) (λ k m. entered k m)) where
    entered : (k : ℕ) → Among k (entered_sources app s) → ⊥
    entered k m = let e = (passing_among (λ l. is_in (source_state s l)) _ k m).0 in let f = none k in absurd (cc)
