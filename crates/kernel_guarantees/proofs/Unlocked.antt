-- What is interrupted stands at a block without a lock, since no routine begins elsewhere.
use Rattle.std.proofs.Common.{◌≡◌, ◌≢◌, ℕ, ◌<◌, Bool, true, false, length, refl, sym, subst, ap, ◌∙◌, inl, inr, Some, None, get_or-set_other}
use Rattle.std.proofs.lemmas.Bool.{cases_Bool, eqb-false, eqb-true, eq-eqb, false≢true}
use Rattle.std.specs.declared.option.Option.{Option}
use Rattle.osek_values.specs.declared.{event.Event.{Event}, numbers.{ModeNo.{ModeNo}, SourceNo.{SourceNo}, TaskNo.{TaskNo}}}
use Rattle.osek_values.specs.Numbers.{source_no}
use Rattle.osek_standard.specs.declared.{app.App.{App}, state.{State.{State}, Source.{Source}, Processor.{Processor}}}
use Rattle.osek_standard.specs.declared.task_state.{Place.{Place}, Activity.{Activity, TheVariants.{Suspended, Live, Waiting}}}
use Rattle.osek_standard.specs.{TaskStates.{is_live_activity}, States.{here, is_in, is_source_at, place_by, place_in, place_of_source, source_state, task_of, task_state}}
use Rattle.osek_standard.specs.{Arrivals.{arrival, begun, entered, takes_none, takes_none_by}, Dispatch.{if_any, instruction, settled}, Kernel.{initial, start, step}, Priority.{best}, Well.{AreOut, IsActive, IsProcessor, IsRunningAt, Well}}
use Rattle.osek_standard.specs.declared.state.Processor.TheVariants as processor
use Rattle.osek_standard.specs.declared.state.Source.TheVariants as source
use Rattle.osek_standard.proofs.{ArrivalLaws.{arrival_is}, Callers.{routine_level_of, task_level_of}, StepKeeps.{instruction_keeps, start_is_well}}
use Rattle.kernel_guarantees.specs.{Locks.{IsInterruptedUnlocked, is_locked_at}, Nesting.{IsIn}, Reached.{IsReached}, TaskModel.{MayBecome}}
use Rattle.kernel_guarantees.proofs.{OtherRoutines.{instruction_leaves}, Reaching.{reached_has, step_goes}, RoutineMoves.{IsOver, begins_none, keeps_or_ends}, TaskMoves.{instruction_stands}}

pub out_in : (x : Source) → x ≡ source.Out → is_in x ≡ true → ⊥
out_in x e h = false≢true (sym (ap is_in e) ∙ h)

module _ (app : App) where
  -- a Live task that others left stands where it stood
  same_place : (t : ℕ) (a b : Activity) → is_live_activity a ≡ true → MayBecome app t a b → place_in b ≡ place_in a
  same_place t Suspended b live h = absurd (false≢true live)
  same_place t (Live x) Suspended live h = absurd h
  same_place t (Live x) (Live y) live h = h.0
  same_place t (Live x) (Waiting c) live h = absurd h
  same_place t (Waiting c) b live h = absurd (false≢true live)

  -- where no routine has the processor
  none_interrupted : (r : State) → AreOut app r → ((k : SourceNo) (over : Option TaskNo) → r.processor ≡ processor.Interrupted k over → ⊥) → IsInterruptedUnlocked app r
  none_interrupted r out level = record {
    routines = λ k h at. absurd (out_in (source_state r k) (out k) h);
    task = λ k t e. absurd (level k (Some t) e);
  }

  -- the routine at the processor is in
  in_by : (k : ℕ) (x : Source) → IsRunningAt app k x → is_in x ≡ true
  in_by k source.Out h = absurd h
  in_by k (source.In x) h = refl

  pub runs_in : (s : State) → Well app s → (k : SourceNo) (over : Option TaskNo) → s.processor ≡ processor.Interrupted k over → IsIn s k.0
  runs_in s w k over e = in_by k.0 (source_state s k.0) (routine_level_of app s k over w e).runs

  pub out_unless : (r : State) (p : Processor) → IsProcessor app r p → ((k : SourceNo) (over : Option TaskNo) → p ≡ processor.Interrupted k over → ⊥) → AreOut app r
  out_unless r processor.Halted h level = h
  out_unless r processor.Idle h level = h
  out_unless r (processor.Running t) h level = h.out
  out_unless r (processor.Interrupted k over) h level = absurd (level k over refl)

  module _ (s : State) (w : Well app s) where
    -- who has the processor where a routine begins
    module _ (allowed : takes_none app s ≡ false) where
      here_is : (p : Processor) → s.processor ≡ p → takes_none_by app s p ≡ false
      here_is p e = subst (λ (q : Processor). takes_none_by app s q ≡ false) e allowed

      at_place : (p : Processor) (to : Place) → s.processor ≡ p → place_by s p ≡ to → is_locked_at app (here s) ≡ false → is_locked_at app to ≡ false
      at_place p to e f h = subst (λ (q : Place). is_locked_at app q ≡ false) (ap (place_by s) e ∙ f) h

      routine_here : (l : ℕ) (p : Processor) → s.processor ≡ p → is_source_at p l ≡ true → is_locked_at app (place_of_source (source_state s l)) ≡ false
      routine_here l processor.Halted e at = absurd (false≢true at)
      routine_here l processor.Idle e at = absurd (false≢true at)
      routine_here l (processor.Running t) e at = absurd (false≢true at)
      routine_here l (processor.Interrupted k over) e at =
          at_place (processor.Interrupted k over) (place_of_source (source_state s l)) e (ap (λ (n : ℕ). place_of_source (source_state s n)) (eqb-true k.0 l at)) (here_is (processor.Interrupted k over) e)

      task_here : IsInterruptedUnlocked app s → (t : TaskNo) (p : Processor) → s.processor ≡ p → task_of p ≡ Some t → is_locked_at app (place_in (task_state s t.0).activity) ≡ false
      task_here h t processor.Halted e f = absurd (cc (f))
      task_here h t processor.Idle e f = absurd (cc (f))
      task_here h t (processor.Running c) e f =
          at_place (processor.Running c) (place_in (task_state s t.0).activity) e (ap (λ (n : ℕ). place_in (task_state s n).activity) (cc (f))) (here_is (processor.Running c) e)
      task_here h t (processor.Interrupted k over) e f = h.task k t (e ∙ ap (processor.Interrupted k) f)

    module _ (h : IsInterruptedUnlocked app s) where
      entered_unlocked : (k : SourceNo) → arrival app s ≡ Some k → IsInterruptedUnlocked app (entered app s k)
      entered_unlocked k a = record {
        routines = λ l inside beside.
            let other : l ≢ k.0 = λ e. eqb-false k.0 l beside (sym e) in
            let same : source_state (entered app s k) l ≡ source_state s l = get_or-set_other s.sources k.0 l (source.In (begun app k.0)) source.Out other in
            subst (λ (x : Source). is_locked_at app (place_of_source x) ≡ false) (sym same)
            (elim (cases_Bool (is_source_at s.processor l)) [
              | inl at ↦ routine_here (arrival_is app s k a).allowed l s.processor refl at
              | inr not_at ↦ h.routines l (subst (λ (x : Source). is_in x ≡ true) same inside) not_at
            ]);
        task = λ j t e. task_here (arrival_is app s k a).allowed h t s.processor refl (cc (e));
      }

      module _ (choice : Bool) (active : IsActive s.processor) where
        abbrev r : State
        r = (instruction app s choice).state

        v : Well app r
        v = instruction_keeps app s choice w

        halts_out : (l : ℕ) → r.processor ≡ processor.Halted → AreOut app r
        halts_out l e = subst (IsProcessor app r) e v.processor

        beside_it : (l : ℕ) → IsIn r l → is_source_at s.processor l ≡ false → is_locked_at app (place_of_source (source_state r l)) ≡ false
        beside_it l inside beside =
            let was = begins_none app s choice w active l inside in
            elim (instruction_leaves app s (source_no l) (λ over e. false≢true (sym beside ∙ ap (λ (p : Processor). is_source_at p l) e ∙ eq-eqb l l refl)) was choice w active) [
              | inl same ↦ subst (λ (x : Source). is_locked_at app (place_of_source x) ≡ false) (sym same) (h.routines l was beside)
              | inr off ↦ absurd (out_in (source_state r l) (halts_out l off l) inside)
            ]

        at_it : (l : ℕ) (p : Processor) → s.processor ≡ p → is_source_at p l ≡ true → IsIn r l → is_source_at r.processor l ≡ true
        at_it l processor.Halted e at inside = absurd (false≢true at)
        at_it l processor.Idle e at inside = absurd (false≢true at)
        at_it l (processor.Running t) e at inside = absurd (false≢true at)
        at_it l (processor.Interrupted k over) e at inside = elim (keeps_or_ends app s k over e choice w) [
          | inl still ↦ ap (λ (p : Processor). is_source_at p l) still ∙ at
          | inr ended ↦ absurd (out_in (source_state r l) (subst (λ (n : ℕ). source_state r n ≡ source.Out) (eqb-true k.0 l at) ended.0) inside)
        ]

        task_stands : (k : SourceNo) (t : TaskNo) → s.processor ≡ processor.Interrupted k (Some t) → is_locked_at app (place_in (task_state r t.0).activity) ≡ false
        task_stands k t e = subst (λ (to : Place). is_locked_at app to ≡ false)
            (sym (same_place t.0 (task_state s t.0).activity (task_state r t.0).activity (routine_level_of app s k (Some t) w e).over.1 (instruction_stands app s t (λ f. cc (e, f)) choice w active)))
            (h.task k t e)

        over_it : (p : Processor) → s.processor ≡ p → (j : SourceNo) (t : TaskNo) → r.processor ≡ processor.Interrupted j (Some t) → is_locked_at app (place_in (task_state r t.0).activity) ≡ false
        over_it processor.Halted e j t f = absurd (subst IsActive e active)
        over_it processor.Idle e j t f = absurd (subst IsActive e active)
        over_it (processor.Running c) e j t f = absurd (out_in (source_state s j.0) ((task_level_of app s c w e).out j.0) (begins_none app s choice w active j.0 (runs_in r v j (Some t) f)))
        over_it (processor.Interrupted k over) e j t f = elim (keeps_or_ends app s k over e choice w) [
          | inl still ↦ task_stands k t (e ∙ ap (processor.Interrupted k) (cc (still, f)))
          | inr ended ↦ task_stands k t (e ∙ ap (processor.Interrupted k) (sym (subst (IsOver over) f ended.1)))
        ]

        instructed_unlocked : IsInterruptedUnlocked app r
        instructed_unlocked = record {
          routines = λ l inside beside. elim (cases_Bool (is_source_at s.processor l)) [
            | inl at ↦ absurd (false≢true (sym beside ∙ at_it l s.processor refl at inside))
            | inr not_at ↦ beside_it l inside not_at
          ];
          task = λ j t f. over_it s.processor refl j t f;
        }

  start_level : (mode : ModeNo) (o : Option TaskNo) (k : SourceNo) (over : Option TaskNo) → (settled app (initial app mode) (if_any o)).processor ≡ processor.Interrupted k over → ⊥
  start_level mode None k over e = cc (e)
  start_level mode (Some t) k over e = cc (e)

  start_unlocked : (mode : ModeNo) → mode.0 < length app.modes → IsInterruptedUnlocked app (start app mode).state
  unfolding start
  start_unlocked mode known =
      let level = start_level mode (best app (initial app mode)) in
      none_interrupted (start app mode).state (out_unless (start app mode).state (start app mode).state.processor (start_is_well app mode known).processor level) level

  step_unlocked : (s : State) (e : Event) → Well app s → IsInterruptedUnlocked app s → IsInterruptedUnlocked app (step app s e).state
  step_unlocked s e w h = step_goes app (IsInterruptedUnlocked app) (λ n k g. record { routines = g.routines; task = g.task }) (λ n k v g a. entered_unlocked n v g k a)
      (λ n choice v active g. instructed_unlocked n v g choice active) s e w h

  pub reached_is_unlocked : (s : State) → IsReached app s → IsInterruptedUnlocked app s
  reached_is_unlocked s r = reached_has app (IsInterruptedUnlocked app) start_unlocked step_unlocked s r
