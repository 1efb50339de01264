-- What one step makes of the tasks that don't run.
use Rattle.std.proofs.Common.{◌≡◌, ◌≢◌, ℕ, Bool, true, refl, sym, subst, ap, ◌∙◌, Some, None, get_or-set_other}
use Rattle.std.specs.{Prelude.{bit_or}, declared.option.Option.{Option}}
use Rattle.osek_values.specs.declared.{event.Event.{Event}, numbers.{SourceNo.{SourceNo}, TaskNo.{TaskNo}}}
use Rattle.osek_values.specs.Numbers.{mask, task_no}
use Rattle.osek_standard.specs.declared.{app.App.{App}, state.{State.{State}, Processor.{Processor}}}
use Rattle.osek_standard.specs.declared.task_state.{TaskState.{TaskState}, Place.{Place}}
use Rattle.osek_standard.specs.{Apps.{is_extended}, TaskStates.{suspended}, States.{task_of, task_state, with_processor, with_source, with_task}}
use Rattle.osek_standard.specs.{Internal.{inside_as, kept_by, put_inside, with_inside}, Line.{first_in_line, out_of_line}}
use Rattle.osek_standard.specs.Services.{activated_by, count_up, ended, events_set, left, own_events, released_from, waits_in}
use Rattle.osek_standard.specs.{Effects.{effect, halted_by, moved_by, returned_to}, Kernel.{step}, Well.{IsActive, Well}}
use Rattle.osek_standard.specs.Dispatch.{Outcome, Keep, To, instruction, outcome_of, processor_for, settled}
use Rattle.osek_standard.specs.declared.state.Processor.TheVariants as processor
use Rattle.osek_standard.specs.declared.state.Source.TheVariants as source
use Rattle.osek_standard.proofs.{Callers.{moved_processor}}
use Rattle.osek_standard.specs.declared.block.Kind.{Kind}
use Rattle.kernel_guarantees.specs.Scheduling.{kind_at}
use Rattle.kernel_guarantees.proofs.{Deeds.{AreDeeds}, Effecting.{effect_does}, Lookups.{put_task}, Reaching.{step_has}}

-- a relation of a task's states that holds of what others make of it
pub record IsByOthers (app : App) (R : ℕ → TaskState → TaskState → Type 0) : Type 0 where
  pub stays : (t : ℕ) (x : TaskState) → R t x x
  pub activates : (t : ℕ) (x : TaskState) → R t x (activated_by app t x x.activity)
  -- events m are set of those that it has, and it is released, or not
  pub wakes : (t m : ℕ) (x : TaskState) → waits_in app x.activity m ≡ true → R t x (record { activity = released_from app x.activity; events = mask (bit_or x.events.0 m) })
  pub sets : (t m : ℕ) (x : TaskState) → R t x (record x { events = mask (bit_or x.events.0 m) })
  pub insides : (t : ℕ) (b : Bool) (x y : TaskState) → R t x y → R t x (record y { activity = inside_as b y.activity })

-- one that holds of what services make of it, before a dispatch
pub record IsByServices (app : App) (R : ℕ → TaskState → TaskState → Type 0) : Type 0 where
  pub stays : (t : ℕ) (x : TaskState) → R t x x
  pub activates : (t : ℕ) (x : TaskState) → R t x (activated_by app t x x.activity)
  pub wakes : (t m : ℕ) (x : TaskState) → is_extended app t ≡ true → waits_in app x.activity m ≡ true
      → R t x (record { activity = released_from app x.activity; events = mask (bit_or x.events.0 m) })
  pub sets : (t m : ℕ) (x : TaskState) → R t x (record x { events = mask (bit_or x.events.0 m) })

by_services : (app : App) (R : ℕ → TaskState → TaskState → Type 0) → IsByOthers app R → IsByServices app R
by_services app R k = record { stays = k.stays; activates = k.activates; wakes = λ t m x ext waits. k.wakes t m x waits; sets = k.sets }

module _ (app : App) (R : ℕ → TaskState → TaskState → Type 0) (k : IsByServices app R) where
  module _ (s : State) (u : TaskNo) (beside : s.processor ≡ processor.Running u → ⊥) where
    abbrev was : TaskState
    was = task_state s u.0

    abbrev Same : State → Type 0
    Same m = task_state m u.0 ≡ task_state s u.0

    abbrev Unmoved : State → Type 0
    Unmoved m = (m.processor ≡ s.processor) × Same m

    abbrev Has : State → Type 0
    Has r = R u.0 was (task_state r u.0)

    as_before : (r : State) → Same r → Has r
    as_before r same = subst (R u.0 was) (sym same) (k.stays u.0 was)

    not_caller : (m : State) (c : TaskNo) → m.processor ≡ s.processor → m.processor ≡ processor.Running c → u.0 ≢ c.0
    not_caller m c same e f = beside (sym same ∙ e ∙ ap (λ (n : ℕ). processor.Running (task_no n)) (sym f))

    caller_changes : (m : State) (c : TaskNo) (y : TaskState) → Unmoved m → m.processor ≡ processor.Running c → Same (with_task m c.0 y)
    caller_changes m c y q e = get_or-set_other m.tasks c.0 u.0 y suspended (not_caller m c q.0 e) ∙ q.1

    caller_becomes : (m : State) (c : TaskNo) (y : TaskState) → Unmoved m → m.processor ≡ processor.Running c → Has (with_task m c.0 y)
    caller_becomes m c y q e = as_before (with_task m c.0 y) (caller_changes m c y q e)

    joins : (m : State) (t : ℕ) (y : TaskState) → Same m → R t (task_state m t) y → Has (with_task m t y)
    joins m t y same may = put_task m t y (λ v z. v ≡ u.0 → R v (task_state s v) z)
        (λ e. subst (λ (x : TaskState). R t x y) (subst (λ (n : ℕ). task_state m n ≡ task_state s n) (sym e) same) may)
        (λ v e. subst (λ (n : ℕ). R n (task_state s n) (task_state m n)) (sym e) (as_before m same)) u.0 refl

    counted : (m : State) (c : ℕ) → Unmoved m → Unmoved (count_up app m c)
    unfolding count_up
    counted m c q = q

    returned_same : (m : State) (l : SourceNo) (over : Option TaskNo) (o : Option SourceNo) → Same m → Same (returned_to app (with_source m l.0 source.Out) over o).state
    returned_same m l None None q = q
    returned_same m l (Some t) None q = q
    returned_same m l over (Some j) q = q

    halted_same : (m : State) (p : Processor) → Same m → Same (halted_by m p)
    halted_same m processor.Halted q = q
    halted_same m processor.Idle q = q
    halted_same m (processor.Running t) q = q
    halted_same m (processor.Interrupted k None) q = q
    halted_same m (processor.Interrupted k (Some t)) q = q

    moved_same : (to : Place) (p : Processor) → s.processor ≡ p → Same (moved_by s p to)
    moved_same to processor.Halted e = refl
    moved_same to processor.Idle e = refl
    moved_same to (processor.Running c) e = caller_changes s c _ (refl, refl) e
    moved_same to (processor.Interrupted k over) e = refl

    other_deeds : (k : Kind) → AreDeeds app k Unmoved (λ r a. Has r)
    other_deeds kind_of = record {
      counts = λ m c q up. counted m c q;
      arms = λ m a x q sets. q;
      rests = λ m w q. as_before m q.1;
      takes = λ m c r w q e free low. caller_becomes m c _ q e;
      gives = λ m c n w q e goes. caller_becomes m c _ q e;
      routine_takes = λ m l r w q e free low. as_before m q.1;
      routine_gives = λ m l n w q e. as_before m q.1;
      activates = λ m t w q known room goes. joins m t _ q.1 (k.activates t (task_state m t));
      wakes = λ m t e w q known ext waits goes. joins m t (record { activity = released_from app (task_state m t).activity; events = mask (events_set app m t e) }) q.1
          (k.wakes t (own_events app m t e) (task_state m t) ext waits);
      sets = λ m t e w q known waits sent. joins m t (record (task_state m t) { events = mask (events_set app m t e) }) q.1 (k.sets t (own_events app m t e) (task_state m t));
      clears = λ m c e w q r goes. caller_becomes m c _ q r;
      ends = λ m c w q e goes. caller_becomes m c _ q e;
      chains = λ m c t w q e known room goes chained. let n : State = left (ended app m c.0) in joins n t _ (caller_changes m c _ q e) (k.activates t (task_state n t));
      waits = λ m c w q e ext none goes. caller_becomes m c _ q e;
      lets_out = λ m c w q e none goes. caller_becomes m c _ q e;
      returns = λ m l over o w q e f goes. as_before (returned_to app (with_source m l.0 source.Out) over o).state (returned_same m l over o q.1);
      halts = λ m w q goes. as_before (halted_by m m.processor) (halted_same m m.processor q.1);
    }

    pub effect_becomes : (choice : Bool) → Well app s → IsActive s.processor → Has (effect app s choice).state
    effect_becomes choice w active = effect_does app Unmoved (λ r a. Has r) s (other_deeds (kind_at app s)) w active (refl, refl)
        (λ to. (moved_processor s to s.processor, moved_same to s.processor refl)) choice

module _ (app : App) (R : ℕ → TaskState → TaskState → Type 0) (k : IsByOthers app R) where
  module _ (s : State) (u : TaskNo) (beside : s.processor ≡ processor.Running u → ⊥) where
    abbrev Becomes : State → Type 0
    Becomes r = R u.0 (task_state s u.0) (task_state r u.0)

    -- a dispatch changes no more than who is inside
    gets_inside : (r : State) (t : ℕ) (b : Bool) → Becomes r → Becomes (with_inside r t b)
    gets_inside r t b h = put_task r t _ (λ v z. v ≡ u.0 → R u.0 (task_state s u.0) z)
        (λ e. k.insides u.0 b (task_state s u.0) (task_state r t) (subst (λ (n : ℕ). R u.0 (task_state s u.0) (task_state r n)) (sym e) h))
        (λ v e. subst (λ (n : ℕ). R u.0 (task_state s u.0) (task_state r n)) (sym e) h) u.0 refl

    keeping : (r : State) (p : Processor) → Becomes r → Becomes (kept_by app r p)
    keeping r processor.Halted h = h
    keeping r processor.Idle h = h
    keeping r (processor.Running t) h = gets_inside r t.0 _ h
    keeping r (processor.Interrupted k over) h = h

    dispatching : (r : State) (c o : Option TaskNo) → Becomes r → Becomes (with_processor (put_inside app (out_of_line (first_in_line r c) o) o) (processor_for o))
    dispatching r None None h = h
    dispatching r (Some d) None h = h
    dispatching r None (Some t) h = gets_inside r t.0 _ h
    dispatching r (Some d) (Some t) h = gets_inside r t.0 _ h

    settling : (r : State) (o : Outcome) → Becomes r → Becomes (settled app r o)
    settling r Keep h = keeping r r.processor h
    settling r (To o) h = dispatching r (task_of r.processor) o h

    pub instruction_leaves : (choice : Bool) → Well app s → IsActive s.processor → Becomes (instruction app s choice).state
    unfolding instruction
    instruction_leaves choice w active =
        let e = effect app s choice in
        settling e.state (outcome_of app e) (effect_becomes app R (by_services app R k) s u beside choice w active)

    pub step_by_others : (e : Event) → Well app s → Becomes (step app s e).state
    step_by_others e w = step_has app s Becomes (k.stays u.0 (task_state s u.0)) (λ l. k.stays u.0 (task_state s u.0)) (λ l a. k.stays u.0 (task_state s u.0)) (λ choice active. instruction_leaves choice w active) e
