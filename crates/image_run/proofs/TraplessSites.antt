-- At a site that takes all no trap comes.
use Rattle.std.proofs.Common.{◌≡◌, ◌≢◌, ℕ, Bool, true, false, not, refl, sym, nat_lt, ap, ◌∙◌, ◌==◌, arith, inl, inr, List, length, None, Some, option_map}
use Rattle.std.proofs.lemmas.Bool.{and_parts, cases_Bool, false≢true}
use Rattle.std.specs.{Prelude.{⊤, if◌then◌else◌}, declared.option.Option.{Option}}
use Rattle.osek_values.specs.declared.{status.{Ask.{Ask}, Status.{Status, TheVariants.{Limit}}}, numbers.{TaskNo.{TaskNo}, BlockNo.{BlockNo}, ResNo.{ResNo}, SourceNo.{SourceNo}}}
use Rattle.osek_values.specs.declared.status.Ask.TheVariants as ask
use Rattle.osek_values.specs.declared.status.Status.TheVariants as status
use Rattle.oil_system.specs.declared.objects.Schedule.{Schedule, TheVariants.{Non, Full}}
use Rattle.osek_standard.specs.declared.{app.App.{App}, block.{Block.{Block}, Kind.{Kind}}, task_state.{Place.{Place}, TaskState.{TaskState}, Activity.{Activity, TheVariants.{Suspended, Live, Waiting}}}}
use Rattle.osek_standard.specs.declared.state.{State.{State}, Processor.{Processor}, Caller.{Caller, TheVariants.{Nobody, Task, Routine}}}
use Rattle.osek_standard.specs.{Apps.{the_block, the_task, is_extended}, TaskStates.{held, held_in, is_suspended}, States.{caller, here, task_state, with_source}, Priority.{base_priority, ceiling}}
use Rattle.osek_standard.specs.Services.{Answer, activate_task, holds_some, is_full, is_full_by, is_on_top, release_resource, release_resource_by, release_resource_isr, schedule, set_event, stack_of_source, terminate_task, waits_for}
use Rattle.osek_standard.specs.{Effects.{Effect, asked_by, asked_over, asked_under, effect, effect_at, end_task, given_back, is_schedule, moved_by, moved_to, place_at, standing_at, task_at, returned_by, returned_to}}
use Rattle.osek_standard.specs.{Dispatch.{Outcome, concluded, is_left}, Levels.{interrupt_ceiling, next_routine, own_level}, Well.{Well, IsActive, IsProcessor}}
use Rattle.osek_standard.specs.declared.block.Kind.TheVariants as kind
use Rattle.osek_standard.specs.declared.state.Source.TheVariants as source
use Rattle.osek_standard.specs.declared.state.Processor.TheVariants as processor
use Rattle.osek_standard.proofs.{BoolLaws.{either_way}, Keeps.{task_after}}
use Rattle.generic_kernel.proofs.EffectLaws.{effect_here}
use Rattle.image_model.specs.{declared.{image.Image.{Image}, site.{Form.{Form}, Known.{Known}, Site.{Site}}}, ImageStep.{formed, formed_at, formed_by, instructed, kept_by, site_at}}
use Rattle.image_model.specs.Statuses.{allows_status}
use Rattle.image_model.specs.CallNames as call
use Rattle.image_model.specs.declared.site.Form.TheVariants as form
use Rattle.image_model.specs.declared.site.Known.TheVariants as known
use Rattle.image_run.specs.Trapless.{allows_all, foresees, is_trapless, keeps_caller, takes_all, termination_status}

-- nobody left
abbrev Stays : Answer → Type 0
Stays a = is_left a.ask ≡ false

stays_under : (b : Schedule) (k : Kind) → is_left (asked_under b k) ≡ false
stays_under Full k = refl
stays_under Non k = elim (cases_Bool (is_schedule k)) [
  | inl e ↦ (rw e refl)
  | inr e ↦ (rw e refl)
]

asks_staying : (app : App) (c : Caller) (k : Kind) (a : Ask) → is_left a ≡ false → is_left (asked_by app c k a) ≡ false
asks_staying app Nobody k a e = refl
asks_staying app (Routine r) k a e = refl
asks_staying app (Task t) k ask.No e = refl
asks_staying app (Task t) k ask.Maybe e = stays_under (the_task app t.0).schedule k
asks_staying app (Task t) k ask.Left e = absurd (false≢true (sym e))
asks_staying app (Task t) k ask.Free e = refl

module _ (app : App) (s : State) where
  activate_stays : (t : ℕ) → Stays (activate_task app s t)
  unfolding activate_task
  activate_stays t = either_way Stays (is_full app s t) _ _ refl refl

  schedule_stays : (c : Caller) → Stays (schedule s c)
  unfolding schedule
  schedule_stays Nobody = refl
  schedule_stays (Routine k) = refl
  schedule_stays (Task c) = either_way Stays (holds_some s c.0) _ _ refl refl

  release_stays : (c : Caller) (r : ResNo) → Stays (release_resource_by app s c r)
  unfolding release_resource release_resource_isr
  release_stays Nobody r = refl
  release_stays (Routine k) r = either_way Stays (nat_lt (interrupt_ceiling app r.0) (own_level app k.0)) _ _ refl
      (either_way Stays (is_on_top r.0 (stack_of_source app s k.0)) _ _ refl refl)
  release_stays (Task c) r = either_way Stays (nat_lt (ceiling app r.0) (base_priority app c.0)) _ _ refl
      (either_way Stays (is_on_top r.0 (held (task_state s c.0))) _ _ refl refl)

  set_event_stays : (t m : ℕ) → Stays (set_event app s t m)
  unfolding set_event
  set_event_stays t m = either_way Stays (not (is_extended app t)) _ _ refl
      (either_way Stays (is_suspended (task_state s t)) _ _ refl (either_way Stays (waits_for app s t m) _ _ refl refl))

stays_over : (b : Schedule) → is_left (asked_over b) ≡ false
stays_over Full = refl
stays_over Non = refl

given_back_stays : (app : App) (s : State) (over : Option TaskNo) → Stays (given_back app s over)
given_back_stays app s None = refl
given_back_stays app s (Some t) = stays_over (the_task app t.0).schedule

returned_to_stays : (app : App) (s : State) (over : Option TaskNo) (o : Option SourceNo) → Stays (returned_to app s over o)
returned_to_stays app s over None = given_back_stays app s over
returned_to_stays app s over (Some k) = refl

returned_stays : (app : App) (s : State) (p : Processor) → Stays (returned_by app s p)
returned_stays app s processor.Halted = refl
returned_stays app s processor.Idle = refl
returned_stays app s (processor.Running t) = refl
returned_stays app s (processor.Interrupted k over) = returned_to_stays app (with_source s k.0 source.Out) over (next_routine app (with_source s k.0 source.Out))

module _ (app : App) (s : State) (choice : Bool) (p : Place) (b : Block) where
  stays_at : (k : Kind) → keeps_caller k ≡ true → is_left (effect_at app s choice p b k).ask ≡ false
  stays_at (kind.Call (call.Task call.ActivateTask t)) e = asks_staying app (caller s.processor) _ _ (activate_stays app (moved_to s b.next) t.0)
  stays_at (kind.Call (call.Plain call.Schedule)) e = asks_staying app (caller s.processor) _ _ (schedule_stays app (moved_to s b.next) (caller s.processor))
  stays_at (kind.Call (call.Resource call.ReleaseResource r)) e = asks_staying app (caller s.processor) _ _ (release_stays app (moved_to s b.next) (caller s.processor) r)
  stays_at (kind.Call (call.SetEvent t m)) e = asks_staying app (caller s.processor) _ _ (set_event_stays app (moved_to s b.next) t.0 m.0)
  stays_at kind.IsrEnd e = returned_stays app s s.processor
  stays_at (kind.Work n) e = absurd (false≢true e)
  stays_at (kind.Choice other) e = absurd (false≢true e)
  stays_at kind.Loop e = absurd (false≢true e)
  stays_at (kind.Call (call.Task call.ChainTask t)) e = absurd (false≢true e)
  stays_at (kind.Call (call.Task call.GetEvent t)) e = absurd (false≢true e)
  stays_at (kind.Call (call.Task call.GetTaskState t)) e = absurd (false≢true e)
  stays_at (kind.Call (call.Plain call.TerminateTask)) e = absurd (false≢true e)
  stays_at (kind.Call (call.Plain call.GetTaskId)) e = absurd (false≢true e)
  stays_at (kind.Call (call.Plain call.GetActiveApplicationMode)) e = absurd (false≢true e)
  stays_at (kind.Call (call.Resource call.GetResource r)) e = absurd (false≢true e)
  stays_at (kind.Call (call.Mask m n)) e = absurd (false≢true e)
  stays_at (kind.Call (call.Alarm x a)) e = absurd (false≢true e)
  stays_at (kind.Call (call.Arm x a i y)) e = absurd (false≢true e)
  stays_at (kind.Call (call.Lock l)) e = absurd (false≢true e)
  stays_at (kind.Call call.ShutdownOs) e = absurd (false≢true e)
  stays_at kind.TaskEnd e = absurd (false≢true e)
  stays_at kind.CountUp e = absurd (false≢true e)
  stays_at (kind.Expire a) e = absurd (false≢true e)

-- an activation
full_anywhere : (n : ℕ) (a : Activity) (to : Place) → is_full_by n (standing_at a to) ≡ is_full_by n a
full_anywhere n Suspended to = refl
full_anywhere n (Live x) to = refl
full_anywhere n (Waiting b) to = refl

held_anywhere : (a : Activity) (to : Place) → held_in (standing_at a to) ≡ held_in a
held_anywhere Suspended to = refl
held_anywhere (Live x) to = refl
held_anywhere (Waiting b) to = refl

module _ (app : App) (s : State) (w : Well app s) where
  full_moved : (to : Place) (p : Processor) → IsProcessor app s p → (t : ℕ) → is_full app (moved_by s p to) t ≡ is_full app s t
  full_moved to processor.Halted h t = refl
  full_moved to processor.Idle h t = refl
  full_moved to (processor.Running u) h t =
      task_after s u.0 (task_at (task_state s u.0) to) (omega (arith, w.tasks_len, h.running.0)) (λ (v : ℕ) (y : TaskState). is_full_by (the_task app v).activation y.activity ≡ is_full app s v)
      (full_anywhere (the_task app u.0).activation (task_state s u.0).activity to) (λ v other. refl) t
  full_moved to (processor.Interrupted k over) h t = refl

  holds_moved : (to : Place) (p : Processor) → IsProcessor app s p → (t : ℕ) → holds_some (moved_by s p to) t ≡ holds_some s t
  holds_moved to processor.Halted h t = refl
  holds_moved to processor.Idle h t = refl
  holds_moved to (processor.Running u) h t =
      task_after s u.0 (task_at (task_state s u.0) to) (omega (arith, w.tasks_len, h.running.0)) (λ (v : ℕ) (y : TaskState). not (length (held y) == 0) ≡ holds_some s v)
      (ap (λ (l : List ResNo). not (length l == 0)) (held_anywhere (task_state s u.0).activity to)) (λ v other. refl) t
  holds_moved to (processor.Interrupted k over) h t = refl

  termination_of : (r : State) (c : Caller) → (terminate_task app r c).status ≡ termination_status r c
  unfolding terminate_task
  termination_of r Nobody = refl
  termination_of r (Routine k) = refl
  termination_of r (Task t) = elim (cases_Bool (holds_some r t.0)) [
    | inl e ↦ (rw e refl)
    | inr e ↦ (rw e refl)
  ]

  held_status : (r : State) (c : Caller) → ((t : ℕ) → holds_some r t ≡ holds_some s t) → termination_status r c ≡ termination_status s c
  held_status r Nobody same = refl
  held_status r (Routine k) same = refl
  held_status r (Task t) same = ap (λ (b : Bool). if b then Some status.Resource else None) (same t.0)

  termination_notes : (next : BlockNo) (c : Caller) → (terminate_task app (moved_to s next) c).status ≡ termination_status s c
  termination_notes next c = termination_of (moved_to s next) c ∙ held_status (moved_to s next) c (holds_moved (place_at next 0) s.processor w.processor)

  status_of : (r : State) (t : ℕ) → (activate_task app r t).status ≡ Some (if is_full app r t then Limit else status.Ok)
  unfolding activate_task
  status_of r t = elim (cases_Bool (is_full app r t)) [
    | inl e ↦ (rw e refl)
    | inr e ↦ (rw e refl)
  ]

  activation_notes : (next : BlockNo) (t : ℕ) → (activate_task app (moved_to s next) t).status ≡ Some (if is_full app s t then Limit else status.Ok)
  activation_notes next t = status_of (moved_to s next) t ∙ ap (λ (b : Bool). Some (if b then Limit else status.Ok)) (full_moved (place_at next 0) s.processor w.processor t)

  end_notes : (c : Caller) → (end_task app s c).status ≡ None
  end_notes Nobody = refl
  end_notes (Routine k) = refl
  end_notes (Task t) = refl

  any_allowed : (x : Known) (o : Option Status) → allows_all x ≡ true → allows_status x o ≡ true
  any_allowed known.Any o e = refl
  any_allowed (known.Always y) o e = absurd (false≢true e)

  module _ (choice : Bool) (p : Place) (b : Block) (x : Known) where
    abbrev Allows : Kind → Type 0
    Allows k = allows_status x (effect_at app s choice p b k).notes.status ≡ true

    allowed_at : (k : Kind) → foresees app s x k ≡ true → Allows k
    allowed_at (kind.Call (call.Task call.ActivateTask t)) e = ap (allows_status x) (activation_notes b.next t.0) ∙ e
    allowed_at (kind.Call (call.Task call.ChainTask t)) e = any_allowed x _ e
    allowed_at (kind.Call (call.Task call.GetEvent t)) e = any_allowed x _ e
    allowed_at (kind.Call (call.Task call.GetTaskState t)) e = any_allowed x _ e
    allowed_at (kind.Call (call.Plain call.TerminateTask)) e = ap (allows_status x) (termination_notes b.next (caller s.processor)) ∙ e
    allowed_at (kind.Call (call.Plain call.Schedule)) e = any_allowed x _ e
    allowed_at (kind.Call (call.Plain call.GetTaskId)) e = any_allowed x _ e
    allowed_at (kind.Call (call.Plain call.GetActiveApplicationMode)) e = any_allowed x _ e
    allowed_at (kind.Call (call.Resource v r)) e = any_allowed x _ e
    allowed_at (kind.Call (call.SetEvent t m)) e = any_allowed x _ e
    allowed_at (kind.Call (call.Mask v m)) e = any_allowed x _ e
    allowed_at (kind.Call (call.Alarm v a)) e = any_allowed x _ e
    allowed_at (kind.Call (call.Arm v a i y)) e = any_allowed x _ e
    allowed_at (kind.Call (call.Lock l)) e = any_allowed x _ e
    allowed_at (kind.Call call.ShutdownOs) e = any_allowed x _ e
    allowed_at (kind.Work n) e = any_allowed x _ e
    allowed_at (kind.Choice other) e = any_allowed x _ e
    allowed_at kind.Loop e = any_allowed x _ e
    allowed_at kind.TaskEnd e = ap (allows_status x) (end_notes (caller s.processor)) ∙ e
    allowed_at kind.IsrEnd e = any_allowed x _ e
    allowed_at kind.CountUp e = any_allowed x _ e
    allowed_at (kind.Expire a) e = any_allowed x _ e

kept_where_staying : (a : Ask) → is_left a ≡ false → kept_by a ≢ None
kept_where_staying ask.No e = λ none. absurd (cc)
kept_where_staying ask.Maybe e = λ none. absurd (cc)
kept_where_staying ask.Left e = absurd (false≢true (sym e))
kept_where_staying ask.Free e = λ none. absurd (cc)

module _ (i : Image) (s : State) where
  abbrev pub here_kind : Kind
  here_kind = (the_block i.app (here s).block.0).kind

  -- where the block is no site, or one at which no trap comes
  abbrev pub IsTraplessAt : Option Site → Type 0
  IsTraplessAt None = ⊤
  IsTraplessAt (Some x) = is_trapless i.app s x here_kind ≡ true

  module _ (choice : Bool) (w : Well i.app s) (active : IsActive s.processor) where
    abbrev done : Effect
    done = effect i.app s choice

    -- the effect is that of the instruction here
    done_is : done ≡ effect_at i.app s choice (here s) (the_block i.app (here s).block.0) here_kind
    done_is = effect_here i.app s choice (here s) active refl

    form_gives : (f : Form) → takes_all f here_kind ≡ true → formed_by i.app done f ≢ None
    form_gives form.Never e = absurd (false≢true e)
    form_gives form.Stay e = kept_where_staying done.ask (ap (λ (d : Effect). is_left d.ask) done_is ∙ stays_at i.app s choice (here s) (the_block i.app (here s).block.0) here_kind e)
    form_gives (form.Direct o) e = absurd (false≢true e)
    form_gives form.General e = λ none. absurd (cc)

    site_gives : (x : Site) → is_trapless i.app s x here_kind ≡ true → formed i.app done x ≢ None
    site_gives x h =
        let parts = and_parts (foresees i.app s x.known here_kind) (takes_all x.form here_kind) h in
        let allowed : allows_status x.known done.notes.status ≡ true =
        ap (λ (d : Effect). allows_status x.known d.notes.status) done_is ∙ allowed_at i.app s w choice (here s) (the_block i.app (here s).block.0) x.known here_kind parts.0 in
        (rw allowed (form_gives x.form parts.1))

    gives_step : (o : Option Outcome) → o ≢ None → option_map (concluded i.app done) o ≢ None
    gives_step None n = absurd (n refl)
    gives_step (Some x) n = λ none. absurd (cc)

    gives : (o : Option Site) → IsTraplessAt o → formed_at i.app done o ≢ None
    gives None h = λ none. absurd (cc)
    gives (Some x) h = site_gives x h

    pub no_trap : IsTraplessAt (site_at i (here s).block.0) → instructed i s choice ≢ None
    unfolding instructed
    no_trap h = gives_step (formed_at i.app done (site_at i (here s).block.0)) (gives (site_at i (here s).block.0) h)
