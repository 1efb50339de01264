-- The start of the kernel, and its mode.
use Rattle.std.proofs.Common.{◌≡◌, ℕ, ◌<◌, Bool, true, false, cond, List, length, refl, sym, ap, ◌∙◌, Some, None}
use Rattle.std.proofs.lemmas.List.{get_or-map}
use Rattle.std.specs.{Prelude.{slice_index_or}, declared.option.Option.{Option}}
use Rattle.osek_values.specs.{Bits.{has_bit}, declared.{event.Event.{Event}, numbers.{ModeNo.{ModeNo}, SourceNo.{SourceNo}, TaskNo.{TaskNo}}}}
use Rattle.osek_standard.specs.declared.{app.App.{App}, state.{State.{State}, AlarmState.{AlarmState, TheVariants.{Armed, Idle}}, Processor.{Processor}}, task_state.{Place.{Place}, TaskState.{TaskState}}}
use Rattle.osek_standard.specs.{Apps.{no_alarm, no_task, the_alarm, the_task}, TaskStates.{is_live, suspended}, States.{alarm_state, task_of, task_state, with_processor, with_source}, Internal.{kept_by, put_inside}, Line.{first_in_line, out_of_line}}
use Rattle.osek_standard.specs.{Priority.{IsBest, best}, Services.{count_up}, Effects.{effect, halted_by, moved_by, returned_to}, Kernel.{initial, start, started_alarm, started_task, step}, Well.{IsActive, Well}}
use Rattle.osek_standard.specs.Dispatch.{Keep, Outcome, To, if_any, instruction, outcome_of, processor_for, settled}
use Rattle.osek_standard.specs.declared.state.Processor.TheVariants as processor
use Rattle.osek_standard.specs.declared.state.Source.TheVariants as source
use Rattle.osek_standard.proofs.PriorityLaws.{best_is, none_live}
use Rattle.kernel_guarantees.specs.Scheduling.{kind_at}
use Rattle.kernel_guarantees.proofs.{ClockMoves.{settled_same}, Deeds.{AreDeeds}, Effecting.{effect_does}, Reaching.{step_has}}

module _ (app : App) (s : State) where
  abbrev SameMode : State → Type 0
  SameMode r = r.mode ≡ s.mode

  counting : (m : State) (c : ℕ) → SameMode m → SameMode (count_up app m c)
  unfolding count_up
  counting m c q = q

  returning : (m : State) (k : SourceNo) (over : Option TaskNo) (o : Option SourceNo) → SameMode m → SameMode (returned_to app (with_source m k.0 source.Out) over o).state
  returning m k None None q = q
  returning m k (Some t) None q = q
  returning m k over (Some j) q = q

  halting : (m : State) (p : Processor) → SameMode m → SameMode (halted_by m p)
  halting m processor.Halted q = q
  halting m processor.Idle q = q
  halting m (processor.Running t) q = q
  halting m (processor.Interrupted k None) q = q
  halting m (processor.Interrupted k (Some t)) q = q

  moving : (to : Place) (p : Processor) → SameMode (moved_by s p to)
  moving to processor.Halted = refl
  moving to processor.Idle = refl
  moving to (processor.Running t) = refl
  moving to (processor.Interrupted k over) = refl

  mode_deeds : AreDeeds app (kind_at app s) SameMode (λ r a. SameMode r)
  mode_deeds = record {
    counts = λ m c q up. counting m c q;
    arms = λ m a x q sets. q;
    rests = λ m v q. q;
    takes = λ m c r v q e free low. q;
    gives = λ m c n v q e goes. q;
    routine_takes = λ m l r v q e free low. q;
    routine_gives = λ m l n v q e. q;
    activates = λ m t v q known room goes. q;
    wakes = λ m t e v q known ext waits goes. q;
    sets = λ m t e v q known waits sent. q;
    clears = λ m c e v q r goes. q;
    ends = λ m c v q e goes. q;
    chains = λ m c t v q e known room goes chained. q;
    waits = λ m c v q e ext none goes. q;
    lets_out = λ m c v q e none goes. q;
    returns = λ m l over o v q e f goes. returning m l over o q;
    halts = λ m v q goes. halting m m.processor q;
  }

  keeping : (r : State) (p : Processor) → SameMode r → SameMode (kept_by app r p)
  keeping r processor.Halted q = q
  keeping r processor.Idle q = q
  keeping r (processor.Running t) q = q
  keeping r (processor.Interrupted k over) q = q

  dispatching : (r : State) (c o : Option TaskNo) → SameMode r → SameMode (with_processor (put_inside app (out_of_line (first_in_line r c) o) o) (processor_for o))
  dispatching r None None q = q
  dispatching r (Some d) None q = q
  dispatching r None (Some t) q = q
  dispatching r (Some d) (Some t) q = q

  settling : (r : State) (o : Outcome) → SameMode r → SameMode (settled app r o)
  settling r Keep q = keeping r r.processor q
  settling r (To o) q = dispatching r (task_of r.processor) o q

  instruction_leaves : (choice : Bool) → Well app s → IsActive s.processor → SameMode (instruction app s choice).state
  unfolding instruction
  instruction_leaves choice w active =
      let e = effect app s choice in
      settling e.state (outcome_of app e) (effect_does app SameMode (λ r a. SameMode r) s mode_deeds w active refl (λ to. moving to s.processor) choice)

  pub step_mode : (e : Event) → Well app s → SameMode (step app s e).state
  step_mode e w = step_has app s SameMode refl (λ k. refl) (λ k a. refl) (λ choice active. instruction_leaves choice w active) e

module _ (app : App) (mode : ModeNo) where
  abbrev before : State
  before = initial app mode

  start_is : (start app mode).state ≡ settled app before (if_any (best app before))
  unfolding start
  start_is = refl

  pub start_mode : (start app mode).state.mode ≡ mode
  start_mode = ap (λ (s : State). s.mode) start_is ∙ by (best app before) where
    by : (o : Option TaskNo) → (settled app before (if_any o)).mode ≡ mode
    by None = refl
    by (Some t) = refl

  pub start_processor : (start app mode).state.processor ≡ processor_for (best app before)
  start_processor = ap (λ (s : State). s.processor) start_is ∙ by (best app before) where
    by : (o : Option TaskNo) → (settled app before (if_any o)).processor ≡ processor_for o
    by None = refl
    by (Some t) = refl

  live_by : (b : Bool) (x : TaskState) → is_live x ≡ true → is_live (cond b x suspended) ≡ b
  live_by true x e = e
  live_by false x e = refl

  pub initial_live : (t : ℕ) → t < length app.tasks → is_live (task_state before t) ≡ has_bit (the_task app t).autostart mode.0
  initial_live t known = ap is_live (get_or-map (started_task mode.0) app.tasks t no_task suspended known) ∙ live_by (has_bit (the_task app t).autostart mode.0) _ refl

  pub start_alarms : (a : ℕ) → a < length app.alarms → alarm_state (start app mode).state a ≡ (cond (has_bit (the_alarm app a).autostart mode.0) (Armed (the_alarm app a).time (the_alarm app a).cycle) Idle)
  start_alarms a known = ap (λ (s : State). alarm_state s a) start_is ∙ ap (λ (xs : List AlarmState). slice_index_or xs a Idle) (settled_same app before before (if_any (best app before))).0
      ∙ get_or-map (started_alarm mode.0) app.alarms a no_alarm Idle known

  pub start_runs : (t : TaskNo) → (start app mode).state.processor ≡ processor.Running t → IsBest app before t.0
  start_runs t e = best_is app before t (by (best app before) refl (sym start_processor ∙ e)) where
    by : (o : Option TaskNo) → best app before ≡ o → processor_for (best app before) ≡ processor.Running t → best app before ≡ Some t
    by None is f = absurd (let g = sym (ap processor_for is) ∙ f in cc (g))
    by (Some u) is f = is ∙ (let g : processor.Running u ≡ processor.Running t = sym (ap processor_for is) ∙ f in cc (g))

  pub start_idle : (start app mode).state.processor ≡ processor.Idle → (t : ℕ) → t < length app.tasks → has_bit (the_task app t).autostart mode.0 ≡ false
  start_idle e t known = sym (initial_live t known) ∙ none_live app before (by (best app before) refl (sym start_processor ∙ e)) t where
    by : (o : Option TaskNo) → best app before ≡ o → processor_for (best app before) ≡ processor.Idle → best app before ≡ None
    by None is f = is
    by (Some u) is f = absurd (let g : processor.Running u ≡ processor.Idle = sym (ap processor_for is) ∙ f in cc (g))
