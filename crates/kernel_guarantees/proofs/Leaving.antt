-- A task ends and waits by its own instructions alone.
use Rattle.std.proofs.Common.{◌≡◌, ℕ, ◌-◌, ◌≤◌, Bool, true, false, List, refl, sym, subst, ap, ◌∙◌, arith, nat_eq, inl, inr, Some, None}
use Rattle.std.proofs.lemmas.Bool.{cases_Bool, cases_eq, false≢true}
use Rattle.std.specs.{Prelude.{slice_index_or}, declared.option.Option.{Option}}
use Rattle.osek_values.specs.{declared.{event.Event.{Event}, numbers.{BlockNo.{BlockNo}, ResNo.{ResNo}, SourceNo.{SourceNo}, TaskNo.{TaskNo}}, status.Status.{Status}}, Numbers.{task_no}}
use Rattle.osek_standard.specs.declared.{app.App.{App}, block.Kind.{Kind}, state.{State.{State}, Processor.{Processor}, Caller.{Caller, TheVariants.{Nobody, Task, Routine}}}}
use Rattle.osek_standard.specs.declared.task_state.{TaskState.{TaskState}, Place.{Place}, Activity.{Activity, TheVariants.{Suspended, Live, Waiting}}}
use Rattle.osek_standard.specs.{Apps.{the_task}, TaskStates.{is_live, is_live_activity, suspended}, States.{caller, task_of, task_state, with_processor, with_source, with_task}, Internal.{inside_as, kept_by, put_inside}, Line.{first_in_line, out_of_line}}
use Rattle.osek_standard.specs.Services.{activated_by, count_up, ended, ended_by, left, live_at, released_from, with_stack}
use Rattle.osek_standard.specs.{Effects.{effect, halted_by, moved_by, returned_to, standing_at}, Kernel.{step}, Outcomes.{Mark, Silent, Arrived, Did, shows}, Well.{IsActive, Well}}
use Rattle.osek_standard.specs.Dispatch.{Outcome, Keep, To, instruction, outcome_of, processor_for, settled}
use Rattle.osek_standard.specs.declared.state.Processor.TheVariants as processor
use Rattle.osek_standard.specs.declared.state.Source.TheVariants as source
use Rattle.kernel_guarantees.specs.{Activations.{alive, alive_in, ends_by, ends_in, of_instruction, one_if}, Instructions.{is_wait}, Reached.{IsReached}, Scheduling.{kind_at}, TaskModel.{MayBecome}}
use Rattle.kernel_guarantees.proofs.{AccountedSteps.{step_counts}, Deeds.{AreDeeds}, Effecting.{effect_does}, Lookups.{put_task}, Reaching.{reached_is_well}, Serving.{either_by}, Stepping.{step_goes_by}, TaskMoves.{step_leaves}}

one_at_most : (b : Bool) → one_if b ≤ 1
one_at_most true = omega arith
one_at_most false = omega arith

pub ends_once : (d : Caller) (k : Kind) (t : ℕ) (x : Option Status) → ends_by d k t x ≤ 1
ends_once Nobody k t x = omega arith
ends_once (Routine r) k t x = omega arith
ends_once (Task c) k t x = one_at_most _

shown_once : (f : Option Status → ℕ) → ((x : Option Status) → f x ≤ 1) → (m : Mark) → of_instruction f m ≤ 1
shown_once f most Silent = omega arith
shown_once f most Arrived = omega arith
shown_once f most (Did does x) = most x

live_alive : (a : Activity) → is_live_activity a ≡ true → 1 ≤ alive_in a
live_alive Suspended live = absurd (false≢true live)
live_alive (Live x) live = omega arith
live_alive (Waiting b) live = absurd (false≢true live)

-- a task that was Live and is suspended ended itself
pub ends_by_itself : (app : App) (s : State) (e : Event) (t : ℕ) → IsReached app s → is_live (task_state s t) ≡ true → (task_state (step app s e).state t).activity ≡ Suspended → ends_in app s e t ≡ 1
ends_by_itself app s e t reached live gone =
    let none : alive (step app s e).state t ≡ 0 = ap alive_in gone in
    omega (
      arith,
      none,
      step_counts app s e t reached,
      live_alive (task_state s t).activity live,
      shown_once (ends_by (caller s.processor) (kind_at app s) t) (ends_once (caller s.processor) (kind_at app s) t) (shows app s e),
    )

abbrev is_waiting : Activity → Bool
is_waiting Suspended = false
is_waiting (Live x) = false
is_waiting (Waiting b) = true

abbrev waits : State → ℕ → Bool
waits s t = is_waiting (task_state s t).activity

stack_waits : (a : Activity) (h : List ResNo) → is_waiting a ≡ false → is_waiting (with_stack a h) ≡ false
stack_waits Suspended h e = refl
stack_waits (Live x) h e = refl
stack_waits (Waiting b) h e = e

inside_waits : (a : Activity) (b : Bool) → is_waiting a ≡ false → is_waiting (inside_as b a) ≡ false
inside_waits Suspended b e = refl
inside_waits (Live x) b e = refl
inside_waits (Waiting c) b e = e

stands_waits : (a : Activity) (p : Place) → is_waiting a ≡ false → is_waiting (standing_at a p) ≡ false
stands_waits Suspended p e = refl
stands_waits (Live x) p e = refl
stands_waits (Waiting b) p e = e

module _ (app : App) (t : ℕ) where
  activated_waits : (u : ℕ) (x : TaskState) (a : Activity) → x.activity ≡ a → is_waiting a ≡ false → is_waiting (activated_by app u x a).activity ≡ false
  activated_waits u x Suspended e h = refl
  activated_waits u x (Live y) e h = refl
  activated_waits u x (Waiting b) e h = absurd (false≢true (sym h))

  ended_waits : (u : ℕ) (a : Activity) → is_waiting (ended_by app u a) ≡ false
  ended_waits u Suspended = refl
  ended_waits u (Live y) = either_by (λ (a : Activity). is_waiting a ≡ false) (nat_eq y.further 0) Suspended (live_at (the_task app u).first (y.further - 1)) (λ _. refl) (λ _. refl)
  ended_waits u (Waiting b) = refl

  released_waits : (a : Activity) → is_waiting (released_from app a) ≡ false
  released_waits Suspended = refl
  released_waits (Live x) = refl
  released_waits (Waiting b) = refl

  abbrev Goes : State → Type 0
  Goes m = waits m t ≡ false

  put : (m : State) (u : ℕ) (y : TaskState) → (waits m u ≡ false → is_waiting y.activity ≡ false) → Goes m → Goes (with_task m u y)
  put m u y goes q = put_task m u y (λ v z. v ≡ t → is_waiting z.activity ≡ false) (λ same. goes (subst (λ (v : ℕ). waits m v ≡ false) (sym same) q))
      (λ v same. subst (λ (n : ℕ). waits m n ≡ false) (sym same) q) t refl

  moving : (s : State) (to : Place) (p : Processor) → Goes s → Goes (moved_by s p to)
  moving s to processor.Halted q = q
  moving s to processor.Idle q = q
  moving s to (processor.Running c) q = put s c.0 _ (stands_waits (task_state s c.0).activity to) q
  moving s to (processor.Interrupted k over) q = q

  counting : (m : State) (c : ℕ) → Goes m → Goes (count_up app m c)
  unfolding count_up
  counting m c q = q

  returning : (m : State) (l : SourceNo) (over : Option TaskNo) (o : Option SourceNo) → Goes m → Goes (returned_to app (with_source m l.0 source.Out) over o).state
  returning m l None None q = q
  returning m l (Some c) None q = q
  returning m l over (Some j) q = q

  halting : (m : State) (p : Processor) → Goes m → Goes (halted_by m p)
  halting m processor.Halted q = q
  halting m processor.Idle q = q
  halting m (processor.Running c) q = q
  halting m (processor.Interrupted l None) q = q
  halting m (processor.Interrupted l (Some c)) q = q

  keeping : (m : State) (p : Processor) → Goes m → Goes (kept_by app m p)
  keeping m processor.Halted q = q
  keeping m processor.Idle q = q
  keeping m (processor.Running c) q = put m c.0 _ (inside_waits (task_state m c.0).activity _) q
  keeping m (processor.Interrupted l over) q = q

  dispatching : (m : State) (o x : Option TaskNo) → Goes m → Goes (with_processor (put_inside app (out_of_line (first_in_line m o) x) x) (processor_for x))
  dispatching m None None q = q
  dispatching m (Some c) None q = q
  dispatching m None (Some x) q = put m x.0 _ (inside_waits (task_state m x.0).activity _) q
  dispatching m (Some c) (Some x) q = put m x.0 _ (inside_waits (task_state m x.0).activity _) q

  settling : (m : State) (o : Outcome) → Goes m → Goes (settled app m o)
  settling m Keep q = keeping m m.processor q
  settling m (To x) q = dispatching m (task_of m.processor) x q

  -- no instruction but WaitEvent lets a task wait
  module _ (k : Kind) (other : is_wait k ≡ false) where
    ending : (m : State) (c : ℕ) → Goes m → Goes (ended app m c)
    ending m c q = put m c _ (λ _. ended_waits c (task_state m c).activity) q

    activating : (m : State) (u : ℕ) → Goes m → Goes (with_task m u (activated_by app u (task_state m u) (task_state m u).activity))
    activating m u q = put m u _ (activated_waits u (task_state m u) (task_state m u).activity refl) q

    going_deeds : AreDeeds app k Goes (λ r a. Goes r)
    going_deeds = record {
      counts = λ m c q up. counting m c q;
      arms = λ m a x q sets. q;
      rests = λ m w q. q;
      takes = λ m c r w q e bare low. put m c.0 _ (stack_waits (task_state m c.0).activity _) q;
      gives = λ m c n w q e goes. put m c.0 _ (stack_waits (task_state m c.0).activity _) q;
      routine_takes = λ m l r w q e bare low. q;
      routine_gives = λ m l n w q e. q;
      activates = λ m u w q known room goes. activating m u q;
      wakes = λ m u e w q known ext awaited goes. put m u _ (λ _. released_waits (task_state m u).activity) q;
      sets = λ m u e w q known awaited sent. put m u _ (λ h. h) q;
      clears = λ m c e w q r goes. put m c.0 _ (λ h. h) q;
      ends = λ m c w q e goes. ending m c.0 q;
      chains = λ m c u w q e known room goes chained. activating (left (ended app m c.0)) u (ending m c.0 q);
      waits = λ m c w q e ext none goes. absurd (false≢true (sym other ∙ goes));
      lets_out = λ m c w q e none goes. put m c.0 _ (inside_waits (task_state m c.0).activity false) q;
      returns = λ m l over o w q e f goes. returning m l over o q;
      halts = λ m w q off. halting m m.processor q;
    }

  instruction_goes : (s : State) → Well app s → IsActive s.processor → (choice : Bool) → is_wait (kind_at app s) ≡ false → Goes s → Goes (instruction app s choice).state
  unfolding instruction
  instruction_goes s w active choice other q =
      let e = effect app s choice in
      settling e.state (outcome_of app e) (effect_does app Goes (λ r a. Goes r) s (going_deeds (kind_at app s) other) w active q (λ to. moving s to s.processor q) choice)

  step_goes_on : (s : State) (e : Event) → IsReached app s → is_wait (kind_at app s) ≡ false → Goes s → Goes (step app s e).state
  step_goes_on s e reached other q = elim (step_goes_by app s e) [
    | inl quiet ↦ ap (λ (tasks : List TaskState). is_waiting (slice_index_or tasks t suspended).activity) quiet.tasks ∙ q
    | inr i ↦ ap (λ (m : State). waits m t) i.is ∙ instruction_goes s (reached_is_well app s reached) i.does.active i.does.choice other q
  ]

live_goes : (a : Activity) → is_live_activity a ≡ true → is_waiting a ≡ false
live_goes Suspended live = refl
live_goes (Live x) live = refl
live_goes (Waiting b) live = absurd (false≢true live)

-- a task that was Live and waits ran, and called WaitEvent
pub waits_by_itself : (app : App) (s : State) (e : Event) (t : ℕ) (b : BlockNo) → IsReached app s → is_live (task_state s t) ≡ true → (task_state (step app s e).state t).activity ≡ Waiting b
    → (s.processor ≡ processor.Running (task_no t)) × (is_wait (kind_at app s) ≡ true)
waits_by_itself app s e t b reached live waiting = (
  by s.processor refl,
  elim (cases_Bool (is_wait (kind_at app s))) [
    | inl is ↦ is
    | inr other ↦ absurd (false≢true (sym (step_goes_on app t s e reached other (live_goes (task_state s t).activity live)) ∙ ap is_waiting waiting))
  ],
) where
  never : (a c : Activity) → is_live_activity a ≡ true → c ≡ Waiting b → MayBecome app t a c → ⊥
  never Suspended c f is h = false≢true f
  never (Live x) Suspended f is h = h
  never (Live x) (Live y) f is h = cc (is)
  never (Live x) (Waiting d) f is h = h
  never (Waiting d) c f is h = false≢true f

  beside : (s.processor ≡ processor.Running (task_no t) → ⊥) → ⊥
  beside other = never (task_state s t).activity (task_state (step app s e).state t).activity live waiting (step_leaves app s (task_no t) other e (reached_is_well app s reached))

  by : (p : Processor) → s.processor ≡ p → s.processor ≡ processor.Running (task_no t)
  by processor.Halted f = absurd (beside (λ g. cc (f, g)))
  by processor.Idle f = absurd (beside (λ g. cc (f, g)))
  by (processor.Running c) f = elim (cases_eq c.0 t) [
    | inl same ↦ f ∙ ap (λ (n : ℕ). processor.Running (task_no n)) same
    | inr other ↦ absurd (beside (λ g. let is : c ≡ task_no t = cc (f, g) in other (ap (λ (n : TaskNo). n.0) is)))
  ]
  by (processor.Interrupted k over) f = absurd (beside (λ g. cc (f, g)))
