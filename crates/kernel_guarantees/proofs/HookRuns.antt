-- PreTaskHook and PostTaskHook along runs, and the hooks of the start.
use Rattle.std.proofs.Common.{◌≡◌, ◌⊎◌, ◌<◌, Bool, true, false, ◌||◌, List, [], ◌∷◌, length, map, cond, refl, sym, subst, ap, ◌∙◌, inl, inr, Some, None}
use Rattle.std.proofs.lemmas.Bool.{false≢true}
use Rattle.std.specs.{Prelude.{bit_and, is_some}, declared.option.Option.{Option}}
use Rattle.osek_values.specs.declared.{event.Event.{Event}, notes.Notes.{Notes}, numbers.{ModeNo.{ModeNo}, TaskNo.{TaskNo}}}
use Rattle.osek_values.specs.Hooks.{error, post_task, pre_task, shutdown, startup, when}
use Rattle.osek_values.specs.declared.status.Ask.TheVariants as ask
use Rattle.osek_standard.specs.declared.{app.App.{App}, state.{State.{State}}}
use Rattle.osek_standard.specs.{States.{task_of}, Priority.{best}, Well.{IsActive, Well}, Effects.{Effect, effect, effected, is_error, wanted}, Kernel.{initial, run, start, step, steps}}
use Rattle.osek_standard.specs.Dispatch.{Outcome, Stepped, concluded, if_any, instruction, nothing_noted, outcome_hooks, outcome_of, silent, with_hooks}
use Rattle.osek_standard.specs.declared.state.Processor.TheVariants as processor
use Rattle.osek_standard.proofs.StepKeeps.{start_is_well, step_keeps}
use Rattle.kernel_guarantees.specs.HookNotes.{Alternate, ErrorHook, Hook, PostTaskHook, PreTaskHook, ShutdownHook, StartupHook, is_in_set, is_set_true, is_within_after, runs}
use Rattle.kernel_guarantees.specs.Scheduling.{is_shutdown, kind_at}
use Rattle.kernel_guarantees.proofs.{HookBits.{concluded_runs, dispatch_runs_no, in_either, in_wanted, in_when, or_false, post_due, post_runs, pre_due, pre_runs}, Rescheduling.{effect_asks}, Stopped.{halted_stays}}
use Rattle.kernel_guarantees.proofs.HookSteps.{IsTurned, effect_runs, step_notes, turns}

module _ (app : App) where
  none_in : (h : Hook) → is_in_set h 0 ≡ false
  none_in StartupHook = refl
  none_in ShutdownHook = refl
  none_in ErrorHook = refl
  none_in PreTaskHook = refl
  none_in PostTaskHook = refl

  -- no effect runs PreTaskHook or PostTaskHook
  no_post : (s : State) (choice : Bool) → IsActive s.processor → is_set_true app PostTaskHook ≡ true → runs PostTaskHook (effect app s choice).notes ≡ false
  no_post s choice active t = effect_runs app s choice active PostTaskHook t ∙ by (is_shutdown (kind_at app s)) where
    by : (b : Bool) → is_in_set PostTaskHook (cond b shutdown (when (is_error (effect app s choice).notes.status) error)) ≡ false
    by true = refl
    by false = in_when PostTaskHook (is_error (effect app s choice).notes.status) error refl

  no_pre : (s : State) (choice : Bool) → IsActive s.processor → is_set_true app PreTaskHook ≡ true → runs PreTaskHook (effect app s choice).notes ≡ false
  no_pre s choice active t = effect_runs app s choice active PreTaskHook t ∙ by (is_shutdown (kind_at app s)) where
    by : (b : Bool) → is_in_set PreTaskHook (cond b shutdown (when (is_error (effect app s choice).notes.status) error)) ≡ false
    by true = refl
    by false = in_when PreTaskHook (is_error (effect app s choice).notes.status) error refl

  -- the start runs StartupHook, whatever the dispatch
  abbrev begun : (mode : ModeNo) → Effect
  begun mode = effected (initial app mode) (with_hooks nothing_noted (wanted app startup)) ask.No

  abbrev first : (mode : ModeNo) → Outcome
  first mode = if_any (best app (initial app mode))

  start_is : (mode : ModeNo) → start app mode ≡ concluded app (begun mode) (first mode)
  unfolding start
  start_is mode = refl

  start_runs : (h : Hook) (mode : ModeNo) → is_set_true app h ≡ true → runs h (begun mode).notes ≡ is_in_set h startup
  start_runs h mode t = in_either h 0 (bit_and app.hooks.0 startup) ∙ ap (λ (x : Bool). x || is_in_set h (bit_and app.hooks.0 startup)) (none_in h) ∙ in_wanted app h startup t

  -- a hook that no dispatch runs
  pub start_plain : (h : Hook) (mode : ModeNo) → is_in_set h post_task ≡ false → is_in_set h pre_task ≡ false → is_set_true app h ≡ true → runs h (start app mode).notes ≡ is_in_set h startup
  start_plain h mode p q t = ap (λ (n : Stepped). runs h n.notes) (start_is mode) ∙ concluded_runs app h (begun mode) (first mode) t
      ∙ ap (λ (x : Bool). runs h (begun mode).notes || x) (dispatch_runs_no h (begun mode).state (begun mode).ask (first mode) p q) ∙ or_false (runs h (begun mode).notes) ∙ start_runs h mode t

  module _ (post_true : is_set_true app PostTaskHook ≡ true) (pre_true : is_set_true app PreTaskHook ≡ true) where
    abbrev TurnsTo : State → Stepped → Type 0
    TurnsTo s n = IsTurned app s n.state (runs PostTaskHook n.notes) (runs PreTaskHook n.notes)

    same_turned : (s r : State) → task_of r.processor ≡ task_of s.processor → TurnsTo s (silent r)
    same_turned s r same = record { closes = λ e. absurd (false≢true e); opens = λ e. absurd (false≢true e); stays = λ e f. inl same; within = inl (ap is_some same) }

    instruction_turns : (s : State) → Well app s → IsActive s.processor → (choice : Bool) → TurnsTo s (instruction app s choice)
    unfolding instruction
    instruction_turns s w active choice =
        let e = effect app s choice in
        let o = outcome_of app e in
        let post : runs PostTaskHook (concluded app e o).notes ≡ post_due e.state e.ask o
        = concluded_runs app PostTaskHook e o post_true ∙ ap (λ (x : Bool). x || is_in_set PostTaskHook (outcome_hooks e.state e.ask o)) (no_post s choice active post_true) ∙ post_runs e.state e.ask o in
        let pre : runs PreTaskHook (concluded app e o).notes ≡ pre_due o
        = concluded_runs app PreTaskHook e o pre_true ∙ ap (λ (x : Bool). x || is_in_set PreTaskHook (outcome_hooks e.state e.ask o)) (no_pre s choice active pre_true) ∙ pre_runs e.state e.ask o in
        subst (λ (x : Bool). IsTurned app s (concluded app e o).state x (runs PreTaskHook (concluded app e o).notes)) (sym post)
        (subst (λ (x : Bool). IsTurned app s (concluded app e o).state (post_due e.state e.ask o) x) (sym pre) (turns app s e.state e.ask (effect_asks app s w active choice)))

    pub step_turns : (s : State) → Well app s → (e : Event) → TurnsTo s (step app s e)
    step_turns s w e = step_notes app s (TurnsTo s) (same_turned s s refl) (λ k. same_turned s _ refl) (λ k a. same_turned s _ refl) (λ choice active. instruction_turns s w active choice) e

    -- whether a task is within its hooks: exactly where one runs or is interrupted
    abbrev IsWithin : State → Bool → Type 0
    IsWithin s within = (is_some (task_of s.processor) ≡ within) ⊎ (s.processor ≡ processor.Halted)

    abbrev notes_of : List Stepped → List Notes
    notes_of xs = map (λ (x : Stepped). x.notes) xs

    alternate_from : (s : State) (within : Bool) → Well app s → IsWithin s within → (es : List Event) → Alternate within (notes_of (steps app s es))
    alternate_from s within w h [] = tt
    alternate_from s within w (inl is) (e ∷ es) =
        let t = step_turns s w e in
        let n = step app s e in (
          λ f. sym is ∙ t.closes f,
          λ f. elim (t.opens f) [
            | inl none ↦ inl (sym is ∙ none)
            | inr post ↦ inr post
          ],
          alternate_from n.state (is_within_after within n.notes) (step_keeps app s e w) (elim t.within [
            | inl on ↦ inl (on ∙ ap (λ (b : Bool). is_within_after b n.notes) is)
            | inr off ↦ inr off
          ]) es,
        )
    alternate_from s within w (inr off) (e ∷ es) =
        let quiet = halted_stays app s off e in
        let n = step app s e in
        let post : runs PostTaskHook n.notes ≡ false = ap (λ (x : Stepped). runs PostTaskHook x.notes) quiet.1 in
        let pre : runs PreTaskHook n.notes ≡ false = ap (λ (x : Stepped). runs PreTaskHook x.notes) quiet.1 in (
          λ f. absurd (false≢true (sym post ∙ f)),
          λ f. absurd (false≢true (sym pre ∙ f)),
          alternate_from n.state (is_within_after within n.notes) (step_keeps app s e w) (inr (ap (λ (x : Stepped). x.state.processor) quiet.1 ∙ off)) es,
        )

    -- the start
    start_post : (mode : ModeNo) → runs PostTaskHook (start app mode).notes ≡ false
    start_post mode = ap (λ (n : Stepped). runs PostTaskHook n.notes) (start_is mode) ∙ concluded_runs app PostTaskHook (begun mode) (first mode) post_true
        ∙ ap (λ (x : Bool). x || is_in_set PostTaskHook (outcome_hooks (begun mode).state (begun mode).ask (first mode))) (start_runs PostTaskHook mode post_true)
        ∙ post_runs (begun mode).state (begun mode).ask (first mode) ∙ none_due (best app (initial app mode)) where
          none_due : (o : Option TaskNo) → post_due (begun mode).state (begun mode).ask (if_any o) ≡ false
          none_due None = refl
          none_due (Some x) = refl

    start_pre : (mode : ModeNo) → runs PreTaskHook (start app mode).notes ≡ pre_due (first mode)
    start_pre mode = ap (λ (n : Stepped). runs PreTaskHook n.notes) (start_is mode) ∙ concluded_runs app PreTaskHook (begun mode) (first mode) pre_true
        ∙ ap (λ (x : Bool). x || is_in_set PreTaskHook (outcome_hooks (begun mode).state (begun mode).ask (first mode))) (start_runs PreTaskHook mode pre_true)
        ∙ pre_runs (begun mode).state (begun mode).ask (first mode)

    start_current : (mode : ModeNo) → is_some (task_of (start app mode).state.processor) ≡ pre_due (first mode)
    start_current mode = ap (λ (n : Stepped). is_some (task_of n.state.processor)) (start_is mode) ∙ given (best app (initial app mode)) where
      given : (o : Option TaskNo) → is_some (task_of (concluded app (begun mode) (if_any o)).state.processor) ≡ pre_due (if_any o)
      given None = refl
      given (Some x) = refl

    pub hooks_alternate : (mode : ModeNo) (es : List Event) → mode.0 < length app.modes → Alternate false (notes_of (run app mode es))
    unfolding run
    hooks_alternate mode es known =
        let n = start app mode in
        let post = start_post mode in
        let within : is_some (task_of n.state.processor) ≡ is_within_after false n.notes
        = start_current mode ∙ sym (both (pre_due (first mode))) ∙ sym (ap (λ (x : Bool). cond x true (cond false false false)) (start_pre mode)) ∙ sym (ap (λ (x : Bool). cond (runs PreTaskHook n.notes) true (cond x false false)) post) in
        (λ f. absurd (false≢true (sym post ∙ f)), λ f. inl refl, alternate_from n.state (is_within_after false n.notes) (start_is_well app mode known) (inl within) es) where
          both : (x : Bool) → cond x true false ≡ x
          both true = refl
          both false = refl
