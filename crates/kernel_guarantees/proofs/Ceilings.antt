-- What follows from the stack of the tasks that are underway for the resources that they have.
use Rattle.std.proofs.Common.{◌≡◌, ◌≢◌, ℕ, ◌<◌, ◌≤◌, Bool, true, false, not, ◌&&◌, ◌||◌, suc, List, [], ◌∷◌, length, refl, sym, subst, ap, ◌∙◌, inl, inr, arith, nat_eq, nat_lt, Some, None}
use Rattle.std.proofs.lemmas.Bool.{cases_Bool, cases_eq, eq-eqb, false≢true, ne_eqb, Decides.{nat_tests}}
use Rattle.std.specs.{Prelude.{if◌then◌else◌, slice_index_or}, List.{cons_option, list_any}, declared.option.Option.{Option}}
use Rattle.osek_values.specs.declared.numbers.{ResNo.{ResNo}, TaskNo.{TaskNo}}
use Rattle.osek_values.specs.declared.status.Status.TheVariants as status
use Rattle.osek_standard.specs.declared.{app.App.{App}, state.{State.{State}, Source.{Source}, Processor.{Processor}}, task_state.{TaskState.{TaskState}, Activity.{Activity, TheVariants.{Suspended, Live, Waiting}}}}
use Rattle.osek_standard.specs.{Apps.{is_extended}, TaskStates.{held, holds, is_inside, is_live, is_live_activity, suspended}, States.{held_by_source, is_taken, is_that_task, source_state, task_of, task_of, task_state}}
use Rattle.osek_standard.specs.{Internal.{internal_of, occupied}, Priority.{base_priority, ceiling, current_priority, highest}, Services.{Answer, get_resource}, Well.{Well}}
use Rattle.osek_standard.specs.declared.state.Processor.TheVariants as processor
use Rattle.osek_standard.specs.declared.state.Source.TheVariants as source
use Rattle.osek_standard.proofs.{Callers.{task_level_of}, Greatest.{greatest_of}}
use Rattle.kernel_guarantees.specs.{Resources.{Holds, Occupies, OfTask}, Underway.{IsStacked, has_begun, is_current, is_first, is_underway}}
use Rattle.kernel_guarantees.specs.Scheduling.{IsSettled}
use Rattle.kernel_guarantees.proofs.{Greatest.{held_among}, Serving.{either_by}, StackSteps.{or_cases, or_rest}}

-- an entry passes where some entry passes
pub some_entry : {X : Type 0} (p : X → Bool) (d : X) (xs : List X) → list_any p xs ≡ true → (k : ℕ) × (p (slice_index_or xs k d) ≡ true)
some_entry p d [] e = absurd (false≢true e)
some_entry p d (x ∷ xs) e = elim (or_cases (p x) (list_any p xs) e) [
  | inl f ↦ (0, f)
  | inr f ↦ (let h = some_entry p d xs f in (suc h.0, h.1))
]

both : (b c : Bool) → b ≡ true → c ≡ true → (b && c) ≡ true
both true c e f = f
both false c e f = absurd (false≢true e)

pub either_false : (b c : Bool) → b ≡ false → c ≡ false → (b || c) ≡ false
either_false true c e f = absurd (false≢true (sym e))
either_false false c e f = f

module _ (app : App) where
  -- what a task has is at most its current priority
  ceiling_within : (p r : ℕ) (xs : List ResNo) → holds xs r ≡ true → ceiling app r ≤ highest app p xs
  unfolding highest
  ceiling_within p r xs e =
      let (q, among, is) = held_among xs r e in
      subst (λ (n : ℕ). ceiling app n ≤ highest app p xs) is (greatest_of (λ (q : ResNo). ceiling app q.0) p xs q among)

  -- who has a resource is underway
  some_held : (xs : List ResNo) (r : ℕ) (b : Bool) → holds xs r ≡ true → (not (nat_eq (length xs) 0) || b) ≡ true
  some_held [] r b h = absurd (false≢true h)
  some_held (x ∷ xs) r b h = let some : nat_eq (length (x ∷ xs)) 0 ≡ false = ne_eqb (length (x ∷ xs)) 0 (λ f. omega (arith, f)) in rw some refl

  occupies_live : (t r : ℕ) (x : TaskState) (a : Activity) → x.activity ≡ a → holds (occupied app t x) r ≡ true → is_live_activity a ≡ true
  occupies_live t r x Suspended e h = absurd (false≢true (subst (λ (a : Activity). holds (occupied app t (record x { activity = a })) r ≡ true) e h))
  occupies_live t r x (Live y) e h = refl
  occupies_live t r x (Waiting b) e h = absurd (false≢true (subst (λ (a : Activity). holds (occupied app t (record x { activity = a })) r ≡ true) e h))

  module _ (s : State) where
    pub occupies_underway : (t r : ℕ) → Occupies app s t r → is_underway app s t ≡ true
    occupies_underway t r h =
        let x = task_state s t in
        both (is_live x) (has_begun app t x) (occupies_live t r x x.activity refl h) (some_held (occupied app t x) r (not (is_extended app t) && not (is_first app t x)) h)

    holds_occupies : (o : Option ResNo) (xs : List ResNo) (r : ℕ) → holds xs r ≡ true → holds (cons_option o xs) r ≡ true
    holds_occupies None xs r h = h
    holds_occupies (Some q) xs r h = or_rest (nat_eq q.0 r) (holds xs r) h

    pub held_occupies : (t r : ℕ) → Holds s (OfTask t) r → Occupies app s t r
    held_occupies t r h = holds_occupies (if is_inside (task_state s t) then internal_of app t else None) (held (task_state s t)) r h

    pub ceiling_below : (t r : ℕ) → Occupies app s t r → ceiling app r ≤ current_priority app s t
    ceiling_below t r h = ceiling_within (base_priority app t) r (occupied app t (task_state s t)) h

    module _ (stacked : IsStacked app s) where
      -- who runs or is interrupted beside a task that has a resource has a base above its ceiling
      pub only_above : (c u r : ℕ) → is_current s c ≡ true → u ≢ c → Occupies app s u r → ceiling app r < base_priority app c
      only_above c u r mine other h = let low = stacked.below c u mine other (occupies_underway u r h) in omega (arith, low, ceiling_below u r h)

      -- two tasks that are at or under what they have don't have resources of one ceiling
      pub ceilings_apart : (t u r q : ℕ) → t ≢ u → Occupies app s t r → Occupies app s u q → base_priority app t ≤ ceiling app r → base_priority app u ≤ ceiling app q → ceiling app r ≢ ceiling app q
      ceilings_apart t u r q ne h k low also same = elim (stacked.apart t u ne (occupies_underway t r h) (occupies_underway u q k)) [
        | inl f ↦ omega (arith, f, ceiling_below t r h, also, same)
        | inr f ↦ omega (arith, f, ceiling_below u q k, low, same)
      ]

      -- who has a resource whose ceiling is at least each task's priority runs or is interrupted
      pub keeps_processor : IsSettled app s → (s.processor ≡ processor.Halted → ⊥) → (u r : ℕ) → Occupies app s u r → ((t : ℕ) → base_priority app t ≤ ceiling app r) → is_current s u ≡ true
      keeps_processor settled going u r h top = by (task_of s.processor) refl where
        by : (o : Option TaskNo) → task_of s.processor ≡ o → is_current s u ≡ true
        by None e = absurd (false≢true (sym (settled.bare e going u) ∙ occupies_underway u r h))
        by (Some c) e = elim (cases_eq u c.0) [
          | inl same ↦ ap (λ (o : Option TaskNo). is_that_task o u) e ∙ eq-eqb c.0 u (sym same)
          | inr other ↦ absurd (let now : is_current s c.0 ≡ true = ap (λ (o : Option TaskNo). is_that_task o c.0) e ∙ eq-eqb c.0 c.0 refl in
              omega (arith, only_above c.0 u r now other h, top c.0))
        ]

      -- what the running task has not, and is at or under, nobody has
      module _ (w : Well app s) (c : TaskNo) (runs : s.processor ≡ processor.Running c) (r : ℕ) (low : base_priority app c.0 ≤ ceiling app r) (mine : holds (held (task_state s c.0)) r ≡ false) where
        no_task : (u : ℕ) → holds (held (task_state s u)) r ≡ true → ⊥
        no_task u h = elim (cases_eq u c.0) [
          | inl same ↦ false≢true (sym mine ∙ subst (λ (v : ℕ). holds (held (task_state s v)) r ≡ true) same h)
          | inr other ↦ (let now : is_current s c.0 ≡ true = ap (λ (p : Processor). is_that_task (task_of p) c.0) runs ∙ eq-eqb c.0 c.0 refl in
              let above = only_above c.0 u r now other (held_occupies u r h) in omega (arith, above, low))
        ]

        no_routine : (k : ℕ) → holds (held_by_source (source_state s k)) r ≡ true → ⊥
        no_routine k h = false≢true (subst (λ (x : Source). holds (held_by_source x) r ≡ true) ((task_level_of app s c w runs).out k) h)

        abbrev by_tasks : Bool
        by_tasks = list_any (λ (x : TaskState). holds (held x) r) s.tasks

        abbrev by_routines : Bool
        by_routines = list_any (λ (x : Source). holds (held_by_source x) r) s.sources

        not_by_tasks : by_tasks ≡ false
        not_by_tasks = elim (cases_Bool by_tasks) [
          | inl e ↦ absurd (let h = some_entry (λ (x : TaskState). holds (held x) r) suspended s.tasks e in no_task h.0 h.1)
          | inr e ↦ e
        ]

        not_by_routines : by_routines ≡ false
        not_by_routines = elim (cases_Bool by_routines) [
          | inl e ↦ absurd (let h = some_entry (λ (x : Source). holds (held_by_source x) r) source.Out s.sources e in no_routine h.0 h.1)
          | inr e ↦ e
        ]

        pub nobody_has : is_taken s r ≡ false
        nobody_has = either_false by_tasks by_routines not_by_tasks not_by_routines

        pub is_given : (q : ResNo) → q.0 ≡ r → (get_resource app s c.0 q).status ≡ Some status.Ok
        unfolding get_resource
        is_given q same = either_by (λ (a : Answer). a.status ≡ Some status.Ok) (is_taken s q.0 || nat_lt (ceiling app q.0) (base_priority app c.0)) _ _
            (λ e. absurd (false≢true (sym refused ∙ e))) (λ _. refl) where
              refused : (is_taken s q.0 || nat_lt (ceiling app q.0) (base_priority app c.0)) ≡ false
              refused = either_false (is_taken s q.0) (nat_lt (ceiling app q.0) (base_priority app c.0)) (subst (λ (n : ℕ). is_taken s n ≡ false) (sym same) nobody_has)
                  (subst (λ (n : ℕ). nat_lt (ceiling app n) (base_priority app c.0) ≡ false) (sym same) (grind (arith, nat_tests)))
