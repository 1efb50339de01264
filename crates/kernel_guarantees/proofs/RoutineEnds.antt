-- To whom the end of a routine gives the processor: to what it interrupted, or to a task that is above the interrupted one.
use Rattle.std.proofs.Common.{◌≡◌, ◌≢◌, ◌⊎◌, ℕ, ◌<◌, Bool, true, nat_lt, refl, sym, subst, ap, ◌∙◌, inl, inr, arith, Some, None, get_or-set_other}
use Rattle.std.proofs.lemmas.Bool.{cases_eq, false≢true, Decides.{nat_tests}}
use Rattle.std.specs.declared.option.Option.{Option}
use Rattle.osek_values.specs.declared.{numbers.{SourceNo.{SourceNo}, TaskNo.{TaskNo}}}
use Rattle.oil_system.specs.declared.objects.Schedule.{Schedule, TheVariants.{Full, Non}}
use Rattle.osek_standard.specs.declared.{app.App.{App}, block.Kind.{Kind}, state.{State.{State}, Source.{Source}, Processor.{Processor}}}
use Rattle.osek_standard.specs.{Apps.{source_priority, the_block, the_task}, States.{here, is_in, source_state, task_of, with_processor, with_source}, Levels.{comes_before, next_routine}, Priority.{best, current_priority}}
use Rattle.osek_standard.specs.{Arrivals.{arrival}, Dispatch.{Outcome, if_above, if_any, instruction, outcome_by, outcome_of, processor_for, settled}, Well.{AreOut, IsActive, IsProcessor, Well}}
use Rattle.osek_standard.specs.{Effects.{Effect, asked_over, effect, effect_at, noted, returned_by, returned_to}, Services.{Answer}}
use Rattle.osek_standard.specs.declared.block.Kind.TheVariants as kind
use Rattle.osek_standard.specs.declared.state.Processor.TheVariants as processor
use Rattle.osek_standard.specs.declared.state.Source.TheVariants as source
use Rattle.osek_standard.proofs.{AheadLaws.{ahead_of_itself, apart_ahead}, NestLaws.{is_next, next_is}}
use Rattle.kernel_guarantees.specs.{Nesting.{GoesBackTo, IsIn, IsNested}, Scheduling.{kind_at}}
use Rattle.kernel_guarantees.proofs.{LastIn.{IsUnder, arrives_out}, LockedSteps.{effect_is}, Lookups.{put_out, put_source}, RoutineAccess.{priorities_differ}, Serving.{either_by}, Unlocked.{out_in, runs_in}}

module _ (app : App) (m : State) (k : SourceNo) (over : Option TaskNo) (is : m.processor ≡ processor.Interrupted k over) where
  -- routine k is out
  abbrev ended : State
  ended = with_source m k.0 source.Out

  left_in : (l : ℕ) → IsIn ended l → IsIn m l × (l ≢ k.0)
  left_in l inside = (
    put_source m k.0 source.Out (λ v y. is_in y ≡ true → IsIn m v) (λ h. absurd (false≢true h)) (λ v h. h) l inside,
    λ e. out_in (source_state ended k.0) (put_out m k.0) (subst (IsIn ended) e inside),
  )

  abbrev after_end : Option SourceNo → State
  after_end o = let a = returned_to app ended over o in settled app a.state (outcome_by app a.state a.ask)

  end_is : (choice : Bool) → kind_at app m ≡ kind.IsrEnd → (o : Option SourceNo) → next_routine app ended ≡ o → (instruction app m choice).state ≡ after_end o
  unfolding instruction
  end_is choice ends o next =
      let e : effect app m choice ≡ noted app (returned_to app ended over o)
      = effect_is app m choice (subst IsActive (sym is) tt)
      ∙ ap (λ (x : Kind). effect_at app m choice (here m) (the_block app (here m).block.0) x) ends
      ∙ ap (λ (p : Processor). noted app (returned_by app m p)) is
      ∙ ap (λ (x : Option SourceNo). noted app (returned_to app ended over x)) next in
      ap (λ (x : Effect). settled app x.state (outcome_of app x)) e

  none_next : (o : Option SourceNo) → next_routine app ended ≡ o → ((l : ℕ) → IsIn ended l → ⊥) → next_routine app ended ≡ None
  none_next None e none = e
  none_next (Some j) e none = absurd (none j.0 (next_is app ended j e).began)

module _ (app : App) (n : State) where
  abbrev goes : Answer → Processor
  goes a = (settled app a.state (outcome_by app a.state a.ask)).processor

  lower : (p q : ℕ) → nat_lt p q ≡ true → p < q
  lower p q e = grind (arith, nat_tests)

  module _ (u : TaskNo) where
    abbrev resumed : State
    resumed = with_processor n (processor.Running u)

    by_best : (full : (the_task app u.0).schedule ≡ Full) (o : Option TaskNo) → GoesBackTo app n u (settled app resumed (if_above app resumed u o)).processor
    by_best full None = inl refl
    by_best full (Some x) = either_by (λ (o : Outcome). GoesBackTo app n u (settled app resumed o).processor) (nat_lt (current_priority app resumed u.0) (current_priority app resumed x.0)) _ _
        (λ e. inr (full, x, refl, lower (current_priority app n u.0) (current_priority app n x.0) e)) (λ _. inl refl)

    by_schedule : (x : Schedule) → (the_task app u.0).schedule ≡ x → GoesBackTo app n u (settled app resumed (outcome_by app resumed (asked_over x))).processor
    by_schedule Non e = inl refl
    by_schedule Full e = by_best e (best app resumed)

  given_to : (t : TaskNo) (o : Option TaskNo) → o ≡ Some t → GoesBackTo app n t (goes (returned_to app n o None))
  given_to t None e = absurd (cc (e))
  given_to t (Some u) e = subst (λ (x : TaskNo). GoesBackTo app n x (goes (returned_to app n (Some u) None))) (cc (e)) (by_schedule u (the_task app u.0).schedule refl)

  none_best : (o : Option TaskNo) → (settled app (with_processor n processor.Idle) (if_any o)).processor ≡ processor_for o
  none_best None = refl
  none_best (Some x) = refl

  given_to_none : (o : Option TaskNo) → o ≡ None → goes (returned_to app n o None) ≡ processor_for (best app (with_processor n processor.Idle))
  given_to_none None e = none_best (best app (with_processor n processor.Idle))
  given_to_none (Some u) e = absurd (cc (e))

module _ (app : App) (s : State) (k : SourceNo) (a : arrival app s ≡ Some k) (before : IsNested app s) (v : Well app s) where
  module _ (m : State) (nested : IsNested app m) (h : IsUnder app s k a m) (over : Option TaskNo) (is : m.processor ≡ processor.Interrupted k over) where
    abbrev left : State
    left = ended app m k over is

    -- those that are left were in before k
    were_in : (l : ℕ) → IsIn left l → IsIn s l
    were_in l inside = let p = left_in app m k over is l inside in elim (h.above l p.0 p.1) [
      | inl was ↦ was
      | inr above ↦ absurd (let great = nested.greatest k over l is p.0 in omega (arith, above, great))
    ]

    still_in : (l : ℕ) → IsIn s l → IsIn left l
    still_in l was = subst (λ (x : Source). is_in x ≡ true) (sym (same l was)) was where
      same : (l : ℕ) → IsIn s l → source_state left l ≡ source_state s l
      same l was = get_or-set_other m.sources k.0 l source.Out source.Out (arrives_out app s k a l was) ∙ h.below l was

    module _ (choice : Bool) (ends : kind_at app m ≡ kind.IsrEnd) where
      abbrev r : State
      r = (instruction app m choice).state

      first_before : (j l : ℕ) → (l ≢ j → source_priority app l < source_priority app j) → comes_before app j l ≡ true
      first_before j l below = elim (cases_eq l j) [
        | inl same ↦ subst (λ (i : ℕ). comes_before app j i ≡ true) (sym same) (ahead_of_itself (source_priority app j) j)
        | inr other ↦ apart_ahead (source_priority app j) j (source_priority app l) l (inl (below other))
      ]

      pub to_routine : (j : SourceNo) (o : Option TaskNo) → s.processor ≡ processor.Interrupted j o → r.processor ≡ s.processor
      to_routine j o e =
          let here = runs_in app s v j o e in
          let next : next_routine app left ≡ Some j = is_next app left j.0 (record {
            began = still_in j.0 here;
            before_each = λ l inside. first_before j.0 l (λ other.
                let was = were_in l inside in
                let great = before.greatest j o l e was in
                let differ = priorities_differ app s before l j.0 other was here in
                omega (arith, great, differ));
          }) in
          let same : over ≡ o = sym (ap task_of is) ∙ h.current ∙ ap task_of e in
          ap (λ (x : State). x.processor) (end_is app m k over is choice ends (Some j) next) ∙ ap (processor.Interrupted j) same ∙ sym e

      all_out : AreOut app s → (l : ℕ) → IsIn left l → ⊥
      all_out out l inside = out_in (source_state s l) (out l) (were_in l inside)

      ended_so : AreOut app s → r ≡ after_end app m k over is None
      ended_so out = end_is app m k over is choice ends None (none_next app m k over is (next_routine app left) refl (all_out out))

      pub to_task : (t : TaskNo) → s.processor ≡ processor.Running t → GoesBackTo app m t r.processor
      to_task t e =
          let out : AreOut app s = (subst (IsProcessor app s) e v.processor).out in
          let same : over ≡ Some t = sym (ap task_of is) ∙ h.current ∙ ap task_of e in
          subst (λ (x : State). GoesBackTo app m t x.processor) (sym (ended_so out)) (given_to app left t over same)

      pub to_idle : s.processor ≡ processor.Idle → (r.processor ≡ processor.Idle) ⊎ ((x : TaskNo) × (r.processor ≡ processor.Running x))
      to_idle e =
          let out : AreOut app s = subst (IsProcessor app s) e v.processor in
          let same : over ≡ None = sym (ap task_of is) ∙ h.current ∙ ap task_of e in
          idle_or (best app (with_processor left processor.Idle)) (ap (λ (x : State). x.processor) (ended_so out) ∙ given_to_none app left over same) where
            idle_or : (o : Option TaskNo) → r.processor ≡ processor_for o → (r.processor ≡ processor.Idle) ⊎ ((x : TaskNo) × (r.processor ≡ processor.Running x))
            idle_or None f = inl f
            idle_or (Some x) f = inr (x, f)
