-- Accepted activations of a task are its ends and what is alive, in each step.
use Rattle.std.proofs.Common.{◌≡◌, ℕ, ◌+◌, ◌<◌, Bool, true, false, not, ◌&&◌, List, [], ◌∷◌, length, refl, sym, subst, ap, ◌∙◌, arith, nat_eq, inl, inr, Some, None}
use Rattle.std.proofs.lemmas.{Bool.{false≢true}, List.{get_or-map}}
use Rattle.std.specs.{Prelude.{if◌then◌else◌, is_some, slice_index_or}, declared.option.Option.{Option}}
use Rattle.osek_values.specs.{Bits.{has_bit}, Numbers.{mask}, declared.{event.Event.{Event}, numbers.{BlockNo.{BlockNo}, ModeNo.{ModeNo}, TaskNo.{TaskNo}}, status.Status.{Status}}}
use Rattle.oil_system.specs.declared.objects.Action.{Action}
use Rattle.oil_system.specs.declared.objects.Action.TheVariants as action
use Rattle.osek_standard.specs.declared.{app.App.{App}, block.Kind.{Kind}, state.{State.{State}, Processor.{Processor}, Caller.{Caller, TheVariants.{Nobody, Task, Routine}}}}
use Rattle.osek_standard.specs.declared.task_state.{TaskState.{TaskState}}
use Rattle.osek_standard.specs.{Apps.{is_extended, no_alarm, no_task, tables, the_alarm, the_block, the_task}, TaskStates.{is_suspended, suspended}, States.{alarm_state, caller, here, task_of, task_state, with_alarm, with_processor}, Validity.{IsAction}}
use Rattle.osek_standard.specs.Services.{Answer, acted, activate_task, chain_task, due, ended, expire, holds_some, is_due_at, is_full, left, live_at, rearmed, set_event, terminate_task, value_of, waits_for}
use Rattle.osek_standard.specs.{Effects.{Effect, effect, end_task, is_error, place_at}, Well.{IsActive, Well}, Internal.{kept_by, put_inside, with_inside}, Line.{first_in_line, out_of_line}, Priority.{best}}
use Rattle.osek_standard.specs.{Dispatch.{Outcome, Keep, To, if_any, instruction, outcome_of, processor_for, settled}, Kernel.{initial, start, started_task, step}, Outcomes.{Mark, Silent, Arrived, Did, did, shows}}
use Rattle.osek_standard.specs.declared.block.Kind.TheVariants as kind
use Rattle.osek_standard.specs.declared.state.Processor.TheVariants as processor
use Rattle.osek_standard.proofs.{TaskServiceKeeps.{ended_keeps, room_to_chain}}
use Rattle.kernel_guarantees.specs.{Activations.{activations_along, activations_by, activations_in, alive, alive_in, autostarts, ends_along, ends_by, ends_in, is_accepted, of_instruction, one_if}, Instructions.{action_activates, is_end, may_activate}, Reached.{IsReached, after}, Scheduling.{kind_at}}
use Rattle.kernel_guarantees.proofs.Onward.{effect_as, effect_is, onward, onward_caller, onward_well, operands_of}
use Rattle.kernel_guarantees.proofs.{Accounts.{activation_counts, as_many, calm_deeds, end_counts, inside_same, moved_same, released_same}, Effecting.{effect_does}, Serving.{either_by, running}}
use Rattle.kernel_guarantees.proofs.{Reaching.{reached_is_well, step_is_reached}, Stepping.{is_did, step_goes_by}}
use Rattle.kernel_guarantees.proofs.CallNames as call

abbrev is_ok : Option Status → Bool
is_ok x = is_some x && not (is_error x)

none_if : (b : Bool) → one_if (b && false) ≡ 0
none_if true = refl
none_if false = refl

pub no_end : (c : Caller) (k : Kind) (t : ℕ) (x : Option Status) → is_end k ≡ false → ends_by c k t x ≡ 0
no_end Nobody k t x e = refl
no_end (Routine r) k t x e = refl
no_end (Task c) k t x e = ap (λ (b : Bool). one_if (b && (is_accepted k x && nat_eq c.0 t))) e

not_nobody : (p : Processor) → IsActive p → caller p ≡ Nobody → ⊥
not_nobody processor.Halted active e = active
not_nobody processor.Idle active e = active
not_nobody (processor.Running t) active e = cc (e)
not_nobody (processor.Interrupted k over) active e = cc (e)

module _ (app : App) (t : ℕ) where
  activate_counts : (m : State) (u : ℕ) → length m.tasks ≡ length app.tasks → u < length app.tasks → alive (activate_task app m u).state t ≡ alive m t + one_if (is_ok (activate_task app m u).status && nat_eq u t)
  unfolding activate_task
  activate_counts m u same known = either_by (λ (a : Answer). alive a.state t ≡ alive m t + one_if (is_ok a.status && nat_eq u t)) (is_full app m u) _ _
      (λ _. omega arith) (λ room. activation_counts app m u t same known room)

  set_event_counts : (m : State) (u e : ℕ) → alive (set_event app m u e).state t ≡ alive m t
  unfolding set_event
  set_event_counts m u e =
      let D : Answer → Type 0 = λ a. alive a.state t ≡ alive m t in
      either_by D (not (is_extended app u)) _ _ (λ _. refl) (λ _. either_by D (is_suspended (task_state m u)) _ _ (λ _. refl)
      (λ _. either_by D (waits_for app m u e) _ _ (λ waits. as_many m u _ t (released_same app (task_state m u).activity _ waits)) (λ _. as_many m u _ t refl)))

  acted_counts : (m : State) (x : Action) → length m.tasks ≡ length app.tasks → IsAction (tables app) x → alive (acted app m x).state t ≡ alive m t + one_if (is_ok (acted app m x).status && action_activates x t)
  acted_counts m (action.ActivateTask u) same h = activate_counts m u.0 same h
  acted_counts m (action.SetEvent u e) same h = omega (arith, set_event_counts m u.0 e.0, none_if (is_ok (acted app m (action.SetEvent u e)).status))

  expire_counts : (m : State) (a : ℕ) → length m.tasks ≡ length app.tasks → a < length app.alarms
      → alive (expire app m a).state t ≡ alive m t + one_if (is_ok (expire app m a).status && action_activates (the_alarm app a).action t)
  unfolding expire
  expire_counts m a same known = either_by (λ (b : Answer). alive b.state t ≡ alive m t + one_if (is_ok b.status && action_activates (the_alarm app a).action t)) (is_due_at (due (alarm_state m a)) (value_of app m a)) _ _
      (λ _. acted_counts (with_alarm m a (rearmed app a (alarm_state m a))) (the_alarm app a).action same (app.valid.each_alarm a no_alarm known).action) (λ _. omega arith)

  terminate_counts : (m : State) (d : Caller) → Well app m → caller m.processor ≡ d
      → alive (terminate_task app m d).state t + ends_by d (kind.Call (call.Plain call.TerminateTask)) t (terminate_task app m d).status ≡ alive m t
  unfolding terminate_task
  terminate_counts m Nobody w e = omega arith
  terminate_counts m (Routine k) w e = omega arith
  terminate_counts m (Task c) w e = either_by (λ (a : Answer). alive a.state t + ends_by (Task c) (kind.Call (call.Plain call.TerminateTask)) t a.status ≡ alive m t) (holds_some m c.0) _ _
      (λ _. omega arith) (λ _. end_counts app m c t w (running m c e))

  chain_counts : (m : State) (d : Caller) (u : TaskNo) → Well app m → caller m.processor ≡ d → (d ≡ Nobody → ⊥) → u.0 < length app.tasks
      → alive (chain_task app m d u.0).state t + ends_by d (kind.Call (call.Task call.ChainTask u)) t (chain_task app m d u.0).status
      ≡ alive m t + activations_by app (kind.Call (call.Task call.ChainTask u)) t (chain_task app m d u.0).status
  unfolding chain_task
  chain_counts m Nobody u w e some known = absurd (some refl)
  chain_counts m (Routine k) u w e some known = omega arith
  chain_counts m (Task c) u w e some known =
      let K : Kind = kind.Call (call.Task call.ChainTask u) in
      let D : Answer → Type 0 = λ a. alive a.state t + ends_by (Task c) K t a.status ≡ alive m t + activations_by app K t a.status in
      let runs = running m c e in
      either_by D (holds_some m c.0) _ _ (λ _. omega arith) (λ _. either_by D (not (nat_eq u.0 c.0) && is_full app m u.0) _ _ (λ _. omega arith)
      (λ room. let more = activation_counts app (left (ended app m c.0)) u.0 t (ended_keeps app m c w runs).tasks_len known (room_to_chain app m c u.0 w runs room) in
      omega (arith, more, end_counts app m c t w runs)))

  task_end_counts : (m : State) (d : Caller) → Well app m → caller m.processor ≡ d → alive (end_task app m d).state t + ends_by d kind.TaskEnd t (end_task app m d).status ≡ alive m t
  task_end_counts m Nobody w e = omega arith
  task_end_counts m (Routine k) w e = omega arith
  task_end_counts m (Task c) w e = end_counts app m c t w (running m c e)

  module _ (s : State) (w : Well app s) (active : IsActive s.processor) (choice : Bool) where
    abbrev who : Caller
    who = caller s.processor

    abbrev Fits : Kind → Effect → Type 0
    Fits k e = alive e.state t + ends_by who k t e.notes.status ≡ alive s t + activations_by app k t e.notes.status

    onward_same : alive (onward app s) t ≡ alive s t
    onward_same = moved_same s (place_at (the_block app (here s).block.0).next 0) s.processor t

    -- by an instruction that neither activates nor ends a task
    calm : (k : Kind) → kind_at app s ≡ k → ((u : ℕ) → may_activate app k u ≡ false) → is_end k ≡ false → Fits k (effect_as app s choice k)
    calm k e none stays =
        let same : alive (effect app s choice).state t ≡ alive s t = effect_does app _ _ s (calm_deeds app s t (kind_at app s) (λ u. ap (λ (n : Kind). may_activate app n u) e ∙ none u) (ap is_end e ∙ stays)) w active refl
        (λ to. moved_same s to s.processor t) choice in
        let is : effect app s choice ≡ effect_as app s choice k = effect_is app s w active choice ∙ ap (effect_as app s choice) e in
        subst (Fits k) is (omega (arith, same, no_end who k t (effect app s choice).notes.status stays, no_activation (effect app s choice).notes.status)) where
          no_activation : (x : Option Status) → activations_by app k t x ≡ 0
          no_activation x = ap (λ (b : Bool). one_if (is_accepted k x && b)) (none t) ∙ none_if (is_accepted k x)

    fits_at : (k : Kind) → kind_at app s ≡ k → Fits k (effect_as app s choice k)
    fits_at (kind.Call (call.Task call.ActivateTask u)) e =
        let k : Kind = kind.Call (call.Task call.ActivateTask u) in
        omega (arith, activate_counts (onward app s) u.0 (onward_well app s w active).tasks_len (operands_of app s w active k e), onward_same, no_end who k t (activate_task app (onward app s) u.0).status refl)
    fits_at (kind.Call (call.Task call.ChainTask u)) e =
        let k : Kind = kind.Call (call.Task call.ChainTask u) in
        omega (arith, chain_counts (onward app s) who u (onward_well app s w active) (onward_caller app s) (not_nobody s.processor active) (operands_of app s w active k e), onward_same)
    fits_at (kind.Call (call.Plain call.TerminateTask)) e = omega (arith, terminate_counts (onward app s) who (onward_well app s w active) (onward_caller app s), onward_same, none_if (is_accepted (kind.Call (call.Plain call.TerminateTask)) (terminate_task app (onward app s) who).status))
    fits_at kind.TaskEnd e = omega (arith, task_end_counts s who w refl)
    fits_at (kind.Expire a) e =
        let k : Kind = kind.Expire a in
        omega (arith, expire_counts (onward app s) a.0 (onward_well app s w active).tasks_len (operands_of app s w active k e), onward_same, no_end who k t (expire app (onward app s) a.0).status refl)
    fits_at k e = calm k e (λ u. refl) refl

    pub effect_fits : Fits (kind_at app s) (effect app s choice)
    effect_fits = subst (Fits (kind_at app s)) (sym (effect_is app s w active choice)) (fits_at (kind_at app s) refl)

-- an outcome leaves as many alive
module _ (app : App) (r : State) (t : ℕ) where
  inside_counts : (m : State) (u : ℕ) (b : Bool) → alive (with_inside m u b) t ≡ alive m t
  inside_counts m u b = as_many m u _ t (inside_same (task_state m u).activity b)

  kept_counts : (p : Processor) → alive (kept_by app r p) t ≡ alive r t
  kept_counts processor.Halted = refl
  kept_counts processor.Idle = refl
  kept_counts (processor.Running c) = inside_counts r c.0 _
  kept_counts (processor.Interrupted k over) = refl

  dispatched_counts : (o x : Option TaskNo) → alive (with_processor (put_inside app (out_of_line (first_in_line r o) x) x) (processor_for x)) t ≡ alive r t
  dispatched_counts None None = refl
  dispatched_counts (Some c) None = refl
  dispatched_counts None (Some x) = inside_counts r x.0 _
  dispatched_counts (Some c) (Some x) = inside_counts r x.0 _

  pub settled_counts : (o : Outcome) → alive (settled app r o) t ≡ alive r t
  settled_counts Keep = kept_counts r.processor
  settled_counts (To x) = dispatched_counts (task_of r.processor) x

pub nothing_did : (f : Option Status → ℕ) (m : Mark) → is_did m ≡ false → of_instruction f m ≡ 0
nothing_did f Silent e = refl
nothing_did f Arrived e = refl
nothing_did f (Did does x) e = absurd (false≢true (sym e))

module _ (app : App) where
  instruction_counts : (s : State) (t : ℕ) → Well app s → IsActive s.processor → (choice : Bool)
      → alive (instruction app s choice).state t + of_instruction (ends_by (caller s.processor) (kind_at app s) t) (did app s choice) ≡ alive s t + of_instruction (activations_by app (kind_at app s) t) (did app s choice)
  unfolding instruction
  instruction_counts s t w active choice =
      let e = effect app s choice in
      omega (arith, effect_fits app t s w active choice, settled_counts app e.state t (outcome_of app e))

  pub step_counts : (s : State) (e : Event) (t : ℕ) → IsReached app s → alive (step app s e).state t + ends_in app s e t ≡ alive s t + activations_in app s e t
  step_counts s e t reached = elim (step_goes_by app s e) [
    | inl quiet ↦ (let same : alive (step app s e).state t ≡ alive s t = ap (λ (tasks : List TaskState). alive_in (slice_index_or tasks t suspended).activity) quiet.tasks in
        omega (arith, same, nothing_did (ends_by (caller s.processor) (kind_at app s) t) (shows app s e) quiet.shown, nothing_did (activations_by app (kind_at app s) t) (shows app s e) quiet.shown))
    | inr i ↦ (let same : alive (step app s e).state t ≡ alive (instruction app s i.does.choice).state t = ap (λ (m : State). alive m t) i.is in
        omega (
          arith,
          same,
          instruction_counts s t (reached_is_well app s reached) i.does.active i.does.choice,
          ap (of_instruction (ends_by (caller s.processor) (kind_at app s) t)) i.shown,
          ap (of_instruction (activations_by app (kind_at app s) t)) i.shown,
        ))
  ]

  pub counts_along : (s : State) (es : List Event) (t : ℕ) → IsReached app s → alive (after app s es) t + ends_along app s es t ≡ alive s t + activations_along app s es t
  counts_along s [] t reached = refl
  counts_along s (e ∷ es) t reached =
      let n = (step app s e).state in
      omega (arith, counts_along n es t (step_is_reached app s e reached), step_counts s e t reached)

  started : (first : BlockNo) (b : Bool) → alive_in (if b then record { activity = live_at first 0; events = mask 0 } else suspended).activity ≡ one_if b
  started first true = refl
  started first false = refl

  pub start_counts : (mode : ModeNo) (t : ℕ) → t < length app.tasks → alive (start app mode).state t ≡ autostarts app mode t
  unfolding start
  start_counts mode t known =
      let s = initial app mode in
      settled_counts app s t (if_any (best app s))
      ∙ ap (λ (z : TaskState). alive_in z.activity) (get_or-map (started_task mode.0) app.tasks t no_task suspended known)
      ∙ started (the_task app t).first (has_bit (the_task app t).autostart mode.0)
