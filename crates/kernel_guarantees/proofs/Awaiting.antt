-- A task that waits has none of the events that it waits for, in each state that a run comes to.
use Rattle.std.proofs.Common.{◌≡◌, ℕ, ◌<◌, ◌≤◌, Bool, true, false, not, map, length, refl, sym, subst, ap, ◌∙◌, inl, inr, arith, nat_eq, Some, None, List}
use Rattle.std.proofs.{lemmas.{Bool.{cases_lt, eqb-true, false≢true}, List.{get_or-map, get_or_past}, Nat.{and_or_apart}}, Math.ListN.{length-map}}
use Rattle.std.proofs.lemmas.Nat.Bits.{bit_at_and, same_from_bits}
use Rattle.std.specs.{Prelude.{if◌then◌else◌, bit_and, bit_or}, declared.option.Option.{Option}}
use Rattle.osek_values.specs.declared.{event.Event.{Event}, numbers.{ModeNo.{ModeNo}, ResNo.{ResNo}, SourceNo.{SourceNo}, TaskNo.{TaskNo}}}
use Rattle.osek_values.specs.{Bits.{has_bit}, Numbers.{mask}}
use Rattle.osek_standard.specs.declared.{app.App.{App}, state.{State.{State}, Processor.{Processor}}}
use Rattle.osek_standard.specs.declared.task_state.{TaskState.{TaskState}, Place.{Place}, Activity.{Activity, TheVariants.{Suspended, Live, Waiting}}}
use Rattle.osek_standard.specs.{Apps.{awaited, no_task, the_block, the_task}, TaskStates.{is_live_activity, suspended}, States.{task_of, task_state, with_processor, with_source, with_task}}
use Rattle.osek_standard.specs.{Internal.{inside_as, kept_by, put_inside, with_inside}, Line.{first_in_line, out_of_line}}
use Rattle.osek_standard.specs.Services.{activated_by, activated_state, count_up, ended, ended_by, events_set, left, own_events, released_from, share, waits_in, with_stack}
use Rattle.osek_standard.specs.{Effects.{effect, halted_by, moved_by, returned_to, standing_at}, Kernel.{initial, start, started_task, step}, Priority.{best}, Well.{IsActive, Well}}
use Rattle.osek_standard.specs.Dispatch.{Outcome, Keep, To, if_any, instruction, outcome_of, processor_for, settled}
use Rattle.osek_standard.specs.declared.state.Processor.TheVariants as processor
use Rattle.osek_standard.specs.declared.state.Source.TheVariants as source
use Rattle.osek_standard.proofs.Callers.{task_level_of}
use Rattle.osek_standard.specs.declared.block.Kind.{Kind}
use Rattle.kernel_guarantees.specs.Scheduling.{kind_at}
use Rattle.kernel_guarantees.specs.{Awaiting.{AllAwaitNone, AwaitsNone}, Reached.{IsReached}}
use Rattle.kernel_guarantees.proofs.{Deeds.{AreDeeds}, Effecting.{effect_does}, Lookups.{put_task}, Reaching.{reached_has, step_goes}, Serving.{either_by}}

and_swap : (a b : ℕ) → bit_and a b ≡ bit_and b a
and_swap a b = same_from_bits _ _ (λ i. omega (arith, bit_at_and a b i, bit_at_and b a i))

pub none_shared : (a b : ℕ) → share a b ≡ false → bit_and a b ≡ 0
none_shared a b e = eqb-true (bit_and a b) 0 (by (nat_eq (bit_and a b) 0) e) where
  by : (c : Bool) → not c ≡ false → c ≡ true
  by true f = refl
  by false f = absurd (false≢true (sym f))

-- events that share none with it, set beside others that share none
none_set : (a m n : ℕ) → share a n ≡ false → share n m ≡ false → share (bit_or a m) n ≡ false
none_set a m n e f =
    let apart : bit_and m n ≡ 0 = and_swap m n ∙ none_shared n m f in
    ap (λ (k : ℕ). not (nat_eq k 0)) (and_or_apart n a m apart) ∙ e

module _ (app : App) where
  live_awaits : (m : ℕ) (a : Activity) → is_live_activity a ≡ true → AwaitsNone app m a
  live_awaits m Suspended e = tt
  live_awaits m (Live x) e = tt
  live_awaits m (Waiting b) e = absurd (false≢true e)

  activated_awaits : (t : ℕ) (x : TaskState) (a : Activity) → AwaitsNone app x.events.0 x.activity → AwaitsNone app (activated_by app t x a).events.0 (activated_by app t x a).activity
  activated_awaits t x Suspended h = tt
  activated_awaits t x (Live y) h = tt
  activated_awaits t x (Waiting b) h = h

  released_awaits : (m n : ℕ) (a : Activity) → waits_in app a n ≡ true → AwaitsNone app m (released_from app a)
  released_awaits m n Suspended e = tt
  released_awaits m n (Live x) e = tt
  released_awaits m n (Waiting b) e = tt

  ended_awaits : (t m : ℕ) (a : Activity) → AwaitsNone app m (ended_by app t a)
  ended_awaits t m Suspended = tt
  ended_awaits t m (Live x) = either_by (AwaitsNone app m) (nat_eq x.further 0) _ _ (λ _. tt) (λ _. tt)
  ended_awaits t m (Waiting b) = tt

  stack_awaits : (m : ℕ) (g : List ResNo) (a : Activity) → AwaitsNone app m a → AwaitsNone app m (with_stack a g)
  stack_awaits m g Suspended h = tt
  stack_awaits m g (Live x) h = tt
  stack_awaits m g (Waiting b) h = h

  inside_awaits : (m : ℕ) (b : Bool) (a : Activity) → AwaitsNone app m a → AwaitsNone app m (inside_as b a)
  inside_awaits m b Suspended h = tt
  inside_awaits m b (Live x) h = tt
  inside_awaits m b (Waiting c) h = h

  moved_awaits : (m : ℕ) (to : Place) (a : Activity) → AwaitsNone app m a → AwaitsNone app m (standing_at a to)
  moved_awaits m to Suspended h = tt
  moved_awaits m to (Live x) h = tt
  moved_awaits m to (Waiting c) h = h

  set_awaits : (e m : ℕ) (a : Activity) → AwaitsNone app e a → waits_in app a m ≡ false → AwaitsNone app (bit_or e m) a
  set_awaits e m Suspended h f = tt
  set_awaits e m (Live x) h f = tt
  set_awaits e m (Waiting b) h f = none_set e m (awaited (the_block app b.0).kind) h f

  put : (s : State) (t : ℕ) (x : TaskState) → AllAwaitNone app s → AwaitsNone app x.events.0 x.activity → AllAwaitNone app (with_task s t x)
  put s t x all h u = put_task s t x (λ v y. AwaitsNone app y.events.0 y.activity) h all u

  module _ (s : State) (all : AllAwaitNone app s) where
    ending : (c : ℕ) → AllAwaitNone app (left (ended app s c))
    ending c = put s c _ all (ended_awaits c (task_state s c).events.0 (task_state s c).activity)

    activating : (t : ℕ) (x : TaskState) → task_state s t ≡ x → AllAwaitNone app (with_task s t (activated_by app t x x.activity))
    activating t x e = put s t _ all (activated_awaits t x x.activity (subst (λ (y : TaskState). AwaitsNone app y.events.0 y.activity) e (all t)))

    moving : (to : Place) (p : Processor) → AllAwaitNone app (moved_by s p to)
    moving to processor.Halted u = all u
    moving to processor.Idle u = all u
    moving to (processor.Running c) u = put s c.0 _ all (moved_awaits (task_state s c.0).events.0 to (task_state s c.0).activity (all c.0)) u
    moving to (processor.Interrupted k over) u = all u

    returning : (k : SourceNo) (over : Option TaskNo) (o : Option SourceNo) → AllAwaitNone app (returned_to app (with_source s k.0 source.Out) over o).state
    returning k None None u = all u
    returning k (Some t) None u = all u
    returning k over (Some j) u = all u

    halting : (p : Processor) → AllAwaitNone app (halted_by s p)
    halting processor.Halted u = all u
    halting processor.Idle u = all u
    halting (processor.Running t) u = all u
    halting (processor.Interrupted k None) u = all u
    halting (processor.Interrupted k (Some t)) u = all u

    insiding : (t : ℕ) (b : Bool) → AllAwaitNone app (with_inside s t b)
    insiding t b = put s t _ all (inside_awaits (task_state s t).events.0 b (task_state s t).activity (all t))

    keeping : (p : Processor) → AllAwaitNone app (kept_by app s p)
    keeping processor.Halted u = all u
    keeping processor.Idle u = all u
    keeping (processor.Running t) u = insiding t.0 _ u
    keeping (processor.Interrupted k over) u = all u

    dispatching : (c o : Option TaskNo) → AllAwaitNone app (with_processor (put_inside app (out_of_line (first_in_line s c) o) o) (processor_for o))
    dispatching None None u = all u
    dispatching (Some d) None u = all u
    dispatching None (Some t) u = insiding t.0 _ u
    dispatching (Some d) (Some t) u = insiding t.0 _ u

    settling : (o : Outcome) → AllAwaitNone app (settled app s o)
    settling Keep u = keeping s.processor u
    settling (To o) u = dispatching (task_of s.processor) o u

    held_awaits : (c : ℕ) (g : List ResNo) → AwaitsNone app (task_state s c).events.0 (with_stack (task_state s c).activity g)
    held_awaits c g = stack_awaits (task_state s c).events.0 g (task_state s c).activity (all c)

  counting : (m : State) (c : ℕ) → AllAwaitNone app m → AllAwaitNone app (count_up app m c)
  unfolding count_up
  counting m c all u = all u

  awaiting_deeds : (k : Kind) → AreDeeds app k (AllAwaitNone app) (λ r a. AllAwaitNone app r)
  awaiting_deeds kind_of = record {
    counts = λ m c q up. counting m c q;
    arms = λ m a x q sets u. q u;
    rests = λ m w q. q;
    takes = λ m c r w q e free low. put m c.0 _ q (held_awaits m q c.0 _);
    gives = λ m c n w q e goes. put m c.0 _ q (held_awaits m q c.0 _);
    routine_takes = λ m l r w q e free low u. q u;
    routine_gives = λ m l n w q e u. q u;
    activates = λ m t w q known room goes u. activating m q t (task_state m t) refl u;
    wakes = λ m t e w q known ext waits goes u. put m t (record { activity = released_from app (task_state m t).activity; events = mask (events_set app m t e) }) q
        (released_awaits (events_set app m t e) (own_events app m t e) (task_state m t).activity waits) u;
    sets = λ m t e w q known waits sent. put m t _ q (set_awaits (task_state m t).events.0 (own_events app m t e) (task_state m t).activity (q t) waits);
    clears = λ m c e w q r goes. put m c.0 _ q (live_awaits _ (task_state m c.0).activity (task_level_of app m c w r).running.1);
    ends = λ m c w q e goes. ending m q c.0;
    chains = λ m c t w q e known room goes chained u. activating (left (ended app m c.0)) (ending m q c.0) t (task_state (left (ended app m c.0)) t) refl u;
    waits = λ m c w q e ext none goes u. put m c.0 _ q none u;
    lets_out = λ m c w q e none goes. insiding m q c.0 false;
    returns = λ m l over o w q e f goes. returning m q l over o;
    halts = λ m w q goes. halting m q m.processor;
  }

  instruction_awaits : (s : State) (choice : Bool) → Well app s → IsActive s.processor → AllAwaitNone app s → AllAwaitNone app (instruction app s choice).state
  unfolding instruction
  instruction_awaits s choice w active h =
      let e = effect app s choice in
      settling e.state (effect_does app (AllAwaitNone app) (λ r a. AllAwaitNone app r) s (awaiting_deeds (kind_at app s)) w active h (λ to. moving s h to s.processor) choice) (outcome_of app e)

  step_awaits : (s : State) (e : Event) → Well app s → AllAwaitNone app s → AllAwaitNone app (step app s e).state
  step_awaits s e w h = step_goes app (AllAwaitNone app) (λ n k g u. g u) (λ n k v g a u. g u) (λ n choice v active g. instruction_awaits n choice v active g) s e w h

  started_awaits : (t : ℕ) (b : Bool) → AwaitsNone app (if b then activated_state app t else suspended).events.0 (if b then activated_state app t else suspended).activity
  started_awaits t true = tt
  started_awaits t false = tt

  start_awaits : (mode : ModeNo) → mode.0 < length app.modes → AllAwaitNone app (start app mode).state
  unfolding start
  start_awaits mode known = settling (initial app mode) none (if_any (best app (initial app mode))) where
    none : (t : ℕ) → AwaitsNone app (task_state (initial app mode) t).events.0 (task_state (initial app mode) t).activity
    none t = elim (cases_lt t (length app.tasks)) [
      | inl inside ↦ subst (λ (x : TaskState). AwaitsNone app x.events.0 x.activity) (sym (get_or-map (started_task mode.0) app.tasks t no_task suspended inside))
          (started_awaits t (has_bit (the_task app t).autostart mode.0))
      | inr past ↦ subst (λ (x : TaskState). AwaitsNone app x.events.0 x.activity)
          (sym (get_or_past (map (started_task mode.0) app.tasks) t suspended (subst (λ (n : ℕ). n ≤ t) (sym (length-map app.tasks (started_task mode.0))) past))) tt
    ]

  pub reached_awaits : (s : State) → IsReached app s → AllAwaitNone app s
  reached_awaits s r = reached_has app (AllAwaitNone app) start_awaits step_awaits s r
