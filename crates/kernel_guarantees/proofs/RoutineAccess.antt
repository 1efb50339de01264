-- What routines may take, and when one may begin beside what others have.
use Rattle.std.proofs.Common.{◌≡◌, ◌≢◌, ℕ, ◌<◌, ◌≤◌, Bool, true, false, ◌||◌, nat_lt, refl, sym, subst, ap, ◌∙◌, inl, inr, arith, Some, None}
use Rattle.std.proofs.lemmas.Bool.{cases_Bool, cases_eq, cases_lt, eq-eqb, false≢true, Decides.{nat_tests}}
use Rattle.std.specs.{List.{list_any}, declared.option.Option.{Option}}
use Rattle.osek_values.specs.declared.numbers.{BlockNo.{BlockNo}, ResNo.{ResNo}, SourceNo.{SourceNo}, TaskNo.{TaskNo}}
use Rattle.osek_values.specs.declared.status.Status.TheVariants as status
use Rattle.osek_standard.specs.declared.{app.App.{App}, block.Kind.{Kind}, state.{State.{State}, Source.{Source}, Processor.{Processor}}, task_state.TaskState.{TaskState}}
use Rattle.osek_standard.specs.{Apps.{source_priority, the_block}, TaskStates.{held, holds, suspended}, States.{caller, held_by_source, here, is_in, is_taken, is_that_task, source_state, task_of, task_state}}
use Rattle.osek_standard.specs.{Arrivals.{arrival, takes_none_by}, Levels.{interrupt_ceiling, own_level, routine_level, task_level}, Internal.{occupied}}
use Rattle.osek_standard.specs.{Effects.{effect, effect_at, effect_by, moved_to, place_at}, Services.{Answer, get_resource_by, get_resource_isr}, Well.{Well}}
use Rattle.osek_standard.specs.declared.state.Processor.TheVariants as processor
use Rattle.osek_standard.specs.declared.state.Source.TheVariants as source
use Rattle.osek_standard.proofs.{ArrivalLaws.{arrival_is}, Callers.{routine_level_of}, SourceKeeps.{runs_began}}
use Rattle.kernel_guarantees.specs.{Conditions.{HasTops}, Nesting.{IsIn, IsNested}, Resources.{Holder, Holds, IsAtGetResource, Occupies, OfRoutine, OfTask}, Scheduling.{IsSettled}, Underway.{IsStacked, is_current}}
use Rattle.kernel_guarantees.proofs.{Ceilings.{either_false, held_occupies, occupies_underway, only_above, some_entry}, Nesting.{ceiling_in_level, own_in_level, routine_in_level, task_in_level, top}}
use Rattle.kernel_guarantees.proofs.{Serving.{either_by}, StackSteps.{moved_shrinks}}

-- what nobody holds isn't taken
free_of_all : (s : State) (r : ℕ) → ((x : Holder) → Holds s x r → ⊥) → is_taken s r ≡ false
free_of_all s r none = either_false by_tasks by_routines not_by_tasks not_by_routines where
  by_tasks : Bool
  by_tasks = list_any (λ (x : TaskState). holds (held x) r) s.tasks

  by_routines : Bool
  by_routines = list_any (λ (x : Source). holds (held_by_source x) r) s.sources

  not_by_tasks : by_tasks ≡ false
  not_by_tasks = elim (cases_Bool by_tasks) [
    | inl e ↦ absurd (let h = some_entry (λ (x : TaskState). holds (held x) r) suspended s.tasks e in none (OfTask h.0) h.1)
    | inr e ↦ e
  ]

  not_by_routines : by_routines ≡ false
  not_by_routines = elim (cases_Bool by_routines) [
    | inl e ↦ absurd (let h = some_entry (λ (x : Source). holds (held_by_source x) r) source.Out s.sources e in none (OfRoutine h.0) h.1)
    | inr e ↦ e
  ]

holds_in : (x : Source) (r : ℕ) → holds (held_by_source x) r ≡ true → is_in x ≡ true
holds_in source.Out r h = absurd (false≢true h)
holds_in (source.In x) r h = refl

module _ (app : App) where
  held_in_level : (k r : ℕ) (x : Source) → holds (held_by_source x) r ≡ true → interrupt_ceiling app r ≤ routine_level app k x
  held_in_level k r source.Out h = absurd (false≢true h)
  held_in_level k r (source.In x) h = ceiling_in_level app (own_level app k) r x.held h

  module _ (s : State) where
    -- the current task's resources are in its level
    in_task_level : (c : TaskNo) (r : ℕ) → task_of s.processor ≡ Some c → Occupies app s c.0 r → interrupt_ceiling app r ≤ task_level app s (task_of s.processor)
    in_task_level c r e h = subst (λ (o : Option TaskNo). interrupt_ceiling app r ≤ task_level app s o) (sym e) (ceiling_in_level app 0 r (occupied app c.0 (task_state s c.0)) h)

    now : (c : TaskNo) → task_of s.processor ≡ Some c → is_current s c.0 ≡ true
    now c e = ap (λ (o : Option TaskNo). is_that_task o c.0) e ∙ eq-eqb c.0 c.0 refl

    module _ (stacked : IsStacked app s) (settled : IsSettled app s) (tops : HasTops app) where
      -- a task that has a resource of routines is the current one
      only_current : (u r : ℕ) → (s.processor ≡ processor.Halted → ⊥) → 0 < interrupt_ceiling app r → Occupies app s u r → interrupt_ceiling app r ≤ task_level app s (task_of s.processor)
      only_current u r going some h = by (task_of s.processor) refl where
        by : (o : Option TaskNo) → task_of s.processor ≡ o → interrupt_ceiling app r ≤ task_level app s (task_of s.processor)
        by None e = absurd (false≢true (sym (settled.bare e going u) ∙ occupies_underway app s u r h))
        by (Some c) e = elim (cases_eq u c.0) [
          | inl same ↦ in_task_level c r e (subst (λ (v : ℕ). Occupies app s v r) same h)
          | inr other ↦ absurd (let above = only_above app s stacked c.0 u r (now c e) other h in let high = tops r c.0 some in omega (arith, above, high))
        ]

    -- where a routine begins, its priority is at least the interrupt ceiling of what others have
    module _ (k : SourceNo) (a : arrival app s ≡ Some k) where
      pub begins_above_routine : (l r : ℕ) → Holds s (OfRoutine l) r → interrupt_ceiling app r ≤ source_priority app k.0
      begins_above_routine l r h =
          let low = routine_in_level app s l (holds_in (source_state s l) r h) in
          let above = (arrival_is app s k a).above in
          omega (arith, low, above, held_in_level l r (source_state s l) h)

      pub begins_above_current : (c : TaskNo) (r : ℕ) → task_of s.processor ≡ Some c → Occupies app s c.0 r → interrupt_ceiling app r ≤ source_priority app k.0
      begins_above_current c r e h =
          let above = (arrival_is app s k a).above in
          omega (arith, in_task_level c r e h, task_in_level app s, above)

      pub begins_above_task : IsStacked app s → IsSettled app s → HasTops app → (u r : ℕ) → Occupies app s u r → interrupt_ceiling app r ≤ source_priority app k.0
      begins_above_task stacked settled tops u r h = elim (cases_lt 0 (interrupt_ceiling app r)) [
        | inl some ↦ (let above = (arrival_is app s k a).above in
            let going : s.processor ≡ processor.Halted → ⊥ = λ e. false≢true (sym (arrival_is app s k a).allowed ∙ ap (takes_none_by app s) e) in
            omega (arith, only_current stacked settled tops u r going some h, task_in_level app s, above))
        | inr none ↦ omega (arith, none)
      ]

    -- what a routine may take by its level and doesn't hold, nobody has
    module _ (w : Well app s) (stacked : IsStacked app s) (settled : IsSettled app s) (nested : IsNested app s) (tops : HasTops app) (k : SourceNo) (over : Option TaskNo) (runs : s.processor ≡ processor.Interrupted k over)
        (r : ℕ) (low : own_level app k.0 ≤ interrupt_ceiling app r) (mine : Holds s (OfRoutine k.0) r → ⊥) where
      began : IsIn s k.0
      began = runs_began app k.0 (source_state s k.0) (routine_level_of app s k over w runs).runs

      pub nobody_holds : (x : Holder) → Holds s x r → ⊥
      nobody_holds (OfTask u) h =
          let high = only_current stacked settled tops u r (λ e. cc (runs, e)) (omega (arith, low)) (held_occupies app s u r h) in
          let task = nested.task k.0 began in
          omega (arith, low, high, task)
      nobody_holds (OfRoutine l) h = elim (cases_eq l k.0) [
        | inl same ↦ mine (subst (λ (v : ℕ). Holds s (OfRoutine v) r) same h)
        | inr other ↦ (let under = top app s nested k over l runs began (holds_in (source_state s l) r h) other in omega (arith, low, under, held_in_level l r (source_state s l) h))
      ]

  -- so a call of GetResource is answered E_OK
  module _ (s : State) (w : Well app s) (stacked : IsStacked app s) (settled : IsSettled app s) (nested : IsNested app s) (tops : HasTops app) (k : SourceNo) (over : Option TaskNo)
      (runs : s.processor ≡ processor.Interrupted k over) (r : ResNo) (calls : IsAtGetResource app s r) (low : own_level app k.0 ≤ interrupt_ceiling app r.0) (mine : Holds s (OfRoutine k.0) r.0 → ⊥) (choice : Bool) where
    abbrev next : BlockNo
    next = (the_block app (here s).block.0).next

    abbrev on : State
    on = moved_to s next

    free_there : is_taken on r.0 ≡ false
    free_there = free_of_all on r.0 (λ x h. nobody_holds s w stacked settled nested tops k over runs r.0 low mine x (moved_shrinks s (place_at next 0) s.processor x r.0 h))

    given : (get_resource_isr app on k.0 r).status ≡ Some status.Ok
    unfolding get_resource_isr
    given = either_by (λ (a : Answer). a.status ≡ Some status.Ok) (is_taken on r.0 || nat_lt (interrupt_ceiling app r.0) (own_level app k.0)) _ _
        (λ e. absurd (false≢true (sym (either_false (is_taken on r.0) (nat_lt (interrupt_ceiling app r.0) (own_level app k.0)) free_there (grind (arith, nat_tests))) ∙ e))) (λ _. refl)

    pub routine_access_is_given : (effect app s choice).notes.status ≡ Some status.Ok
    unfolding effect
    routine_access_is_given =
        let called : (get_resource_by app on (caller s.processor) r).status ≡ Some status.Ok
        = subst (λ (p : Processor). (get_resource_by app on (caller p) r).status ≡ Some status.Ok) (sym runs) given in
        let at_kind : (effect_at app s choice (here s) (the_block app (here s).block.0) (the_block app (here s).block.0).kind).notes.status ≡ Some status.Ok
        = subst (λ (k : Kind). (effect_at app s choice (here s) (the_block app (here s).block.0) k).notes.status ≡ Some status.Ok) (sym calls) called in
        subst (λ (p : Processor). (effect_by app s choice p).notes.status ≡ Some status.Ok) (sym runs) at_kind

  -- two routines that are in are of different priorities
  pub priorities_differ : (s : State) → IsNested app s → (k l : ℕ) → k ≢ l → IsIn s k → IsIn s l → source_priority app k ≢ source_priority app l
  priorities_differ s nested k l ne h g same = elim (nested.apart k l ne h g) [
    | inl low ↦ omega (arith, low, same, own_in_level app k (source_state s k) h)
    | inr low ↦ omega (arith, low, same, own_in_level app l (source_state s l) g)
  ]
