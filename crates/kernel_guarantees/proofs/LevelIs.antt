-- The current priority and the interrupt level are the greatest of what makes them.
use Rattle.std.proofs.{Common.{◌≡◌, ℕ, ◌≤◌, true, length, refl, sym, subst, ap, ◌∙◌, ◌⊎◌, inl, inr, arith, Some, None}}
use Rattle.std.proofs.{lemmas.Bool.{eq-eqb, eqb-true, false≢true}}
use Rattle.std.specs.{List.{range_with_len}, declared.option.Option.{Option}}
use Rattle.osek_values.specs.declared.numbers.TaskNo.{TaskNo}
use Rattle.osek_standard.specs.declared.{app.App.{App}, state.{State.{State}, Source.{Source}}}
use Rattle.osek_standard.specs.{TaskStates.{holds}, States.{held_by_source, is_in, is_that_task, source_state, task_of, task_state}, Internal.{occupied}}
use Rattle.osek_standard.specs.{Priority.{base_priority, current_priority}}
use Rattle.osek_standard.specs.Levels.{interrupt_ceiling, level, own_level, routine_level, task_level}
use Rattle.osek_standard.specs.declared.state.Source.TheVariants as source
use Rattle.kernel_guarantees.specs.{Nesting.{level_of}, Properties.{HadByTask, HeldByRoutine, IsCurrentPriority, IsLevel, KeepsOut, Routine}}
use Rattle.kernel_guarantees.proofs.{Greatest.{greatest_is, highest_is, highest_level_is}, Nesting.{own_in_level, routine_in_level, task_in_level}}

module _ (app : App) (s : State) where
  pub priority_is : (t : ℕ) → IsCurrentPriority app s t (current_priority app s t)
  priority_is t = let h = highest_is app (base_priority app t) (occupied app t (task_state s t)) in record { own = h.from; ceilings = h.each; one_is = h.one_is }

  below : (t n m : ℕ) → IsCurrentPriority app s t n → IsCurrentPriority app s t m → n ≤ m
  below t n m h k = elim h.one_is [
    | inl e ↦ omega (arith, k.own, e)
    | inr d ↦ omega (arith, k.ceilings d.0 d.1, d.2)
  ]

  pub priority_found : (t n : ℕ) → IsCurrentPriority app s t n → n ≡ current_priority app s t
  priority_found t n h = let m = current_priority app s t in omega (arith, below t n m h (priority_is t), below t m n (priority_is t) h)

  -- what keeps routines out is within the level
  held_within : (k r : ℕ) (x : Source) → source_state s k ≡ x → holds (held_by_source x) r ≡ true → interrupt_ceiling app r ≤ level app s
  held_within k r source.Out e h = absurd (false≢true h)
  held_within k r (source.In x) e h =
      let there = routine_in_level app s k (ap is_in e) in
      let own : level_of app s k ≡ routine_level app k (source.In x) = ap (routine_level app k) e in
      omega (arith, there, own, (highest_level_is app (own_level app k) x.held).each r h)

  had_within : (o : Option TaskNo) → task_of s.processor ≡ o → (t r : ℕ) → is_that_task o t ≡ true → holds (occupied app t (task_state s t)) r ≡ true → interrupt_ceiling app r ≤ level app s
  had_within None e t r c h = absurd (false≢true c)
  had_within (Some u) e t r c h =
      let own : task_level app s (task_of s.processor) ≡ task_level app s (Some u) = ap (task_level app s) e in
      let has = subst (λ (v : ℕ). holds (occupied app v (task_state s v)) r ≡ true) (sym (eqb-true u.0 t c)) h in
      omega (arith, task_in_level app s, own, (highest_level_is app 0 (occupied app u.0 (task_state s u.0))).each r has)

  within : (m : ℕ) → KeepsOut app s m → m ≤ level app s
  within _ (Routine k h) = omega (arith, own_in_level app k (source_state s k) h, routine_in_level app s k h)
  within _ (HeldByRoutine k r h) = held_within k r (source_state s k) refl h
  within _ (HadByTask t r c h) = had_within (task_of s.processor) refl t r c h

  -- and it is one of these, or 0
  of_routine : (k : ℕ) (x : Source) → source_state s k ≡ x → (routine_level app k x ≡ 0) ⊎ KeepsOut app s (routine_level app k x)
  of_routine k source.Out e = inl refl
  of_routine k (source.In x) e = elim (highest_level_is app (own_level app k) x.held).one_is [
    | inl own ↦ inr (subst (KeepsOut app s) (sym own) (Routine k (ap is_in e)))
    | inr d ↦ inr (subst (KeepsOut app s) (sym d.2) (HeldByRoutine k d.0 (subst (λ (y : Source). holds (held_by_source y) d.0 ≡ true) (sym e) d.1)))
  ]

  of_task : (o : Option TaskNo) → task_of s.processor ≡ o → (task_level app s o ≡ 0) ⊎ KeepsOut app s (task_level app s o)
  of_task None e = inl refl
  of_task (Some u) e = elim (highest_level_is app 0 (occupied app u.0 (task_state s u.0))).one_is [
    | inl none ↦ inl none
    | inr d ↦ inr (subst (KeepsOut app s) (sym d.2) (HadByTask u.0 d.0 (subst (λ (o : Option TaskNo). is_that_task o u.0 ≡ true) (sym e) (eq-eqb u.0 u.0 refl)) d.1))
  ]

  one_of : (n : ℕ) → (n ≡ 0) ⊎ KeepsOut app s n → level app s ≡ n → (level app s ≡ 0) ⊎ KeepsOut app s (level app s)
  one_of n (inl e) same = inl (same ∙ e)
  one_of n (inr h) same = inr (subst (KeepsOut app s) (sym same) h)

  is_one : (level app s ≡ 0) ⊎ KeepsOut app s (level app s)
  unfolding level
  is_one = elim (greatest_is (λ (k : ℕ). routine_level app k (source_state s k)) (task_level app s (task_of s.processor)) (range_with_len 0 (length s.sources))) [
    | inl e ↦ one_of (task_level app s (task_of s.processor)) (of_task (task_of s.processor) refl) e
    | inr d ↦ one_of (routine_level app d.0 (source_state s d.0)) (of_routine d.0 (source_state s d.0) refl) d.2
  ]

  pub level_is : IsLevel app s (level app s)
  level_is = record { each = within; one_is = is_one }

  under : (n m : ℕ) → IsLevel app s n → IsLevel app s m → n ≤ m
  under n m h k = elim h.one_is [
    | inl e ↦ omega (arith, e)
    | inr d ↦ k.each n d
  ]

  pub level_found : (n : ℕ) → IsLevel app s n → n ≡ level app s
  level_found n h = omega (arith, under n (level app s) h level_is, under (level app s) n level_is h)
