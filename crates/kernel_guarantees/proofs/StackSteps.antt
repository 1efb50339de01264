-- How one step changes who holds what: one holder takes a resource that nobody holds and that its ceiling allows, or stacks shrink.
use Rattle.std.proofs.Common.{◌≡◌, ◌⊎◌, ℕ, ◌≤◌, Bool, true, false, zero, suc, List, [], ◌∷◌, ◌++◌, length, map, replicate, take, refl, sym, ◌∙◌, subst, inl, inr, nat_eq, ◌||◌, Some, None}
use Rattle.std.proofs.lemmas.{Bool.{cases_lt, eqb-true, false≢true}, List.{get_or-map, get_or-replicate, get_or_past}}
use Rattle.std.proofs.Math.ListN.{length-map, length-replicate}
use Rattle.std.specs.{Prelude.{if◌then◌else◌}, declared.option.Option.{Option}}
use Rattle.osek_values.specs.declared.{event.Event.{Event}, numbers.{ModeNo.{ModeNo}, ResNo.{ResNo}, SourceNo.{SourceNo}, TaskNo.{TaskNo}}}
use Rattle.osek_values.specs.Bits.{has_bit}
use Rattle.osek_standard.specs.declared.{app.App.{App}, state.{State.{State}, AlarmState.{AlarmState}, Source.{Source}, Processor.{Processor}}}
use Rattle.osek_standard.specs.declared.task_state.{TaskState.{TaskState}, Place.{Place}, Activity.{Activity, TheVariants.{Suspended, Live, Waiting}}}
use Rattle.osek_standard.specs.{TaskStates.{held, held_in, holds, suspended}, States.{held_by_source, is_taken, source_state, task_state, with_alarm, with_latch, with_processor, with_source, task_of, with_task}}
use Rattle.osek_standard.specs.{Internal.{inside_as, put_inside, kept_by, with_inside}, Line.{first_in_line, out_of_line}, Well.{IsActive, Well}, Apps.{no_task, source_count, the_task}}
use Rattle.osek_standard.specs.Services.{activated, activated_by, activated_state, count_up, ended, ended_by, left, released_from, source_with_stack, stack_of_source, with_held, with_source_stack, with_stack, woken}
use Rattle.osek_standard.specs.Effects.{effect, halted_by, moved, moved_by, returned_to, source_at, standing_at}
use Rattle.osek_standard.specs.{Dispatch.{Outcome, Keep, To, if_any, instruction, outcome_of, processor_for, settled}, Arrivals.{entered}, Kernel.{initial, start, started_task, step}, Priority.{best}}
use Rattle.osek_standard.specs.declared.state.Processor.TheVariants as processor
use Rattle.osek_standard.specs.declared.state.Source.TheVariants as source
use Rattle.osek_standard.proofs.StackLaws.{not_taken, not_taken_by_routine}
use Rattle.osek_standard.specs.declared.block.Kind.{Kind}
use Rattle.kernel_guarantees.specs.Scheduling.{kind_at}
use Rattle.kernel_guarantees.specs.Resources.{Holder, Holds, OfRoutine, OfTask, ceiling_for, own_rank}
use Rattle.kernel_guarantees.proofs.{Deeds.{AreDeeds}, Effecting.{effect_does}, Reaching.{step_goes}, Lookups.{each_is_out, put_source, put_task}, Serving.{either_by}}

-- each holds at most what it held
abbrev pub Shrinks : State → State → Type 0
Shrinks s r = (x : Holder) (p : ℕ) → Holds r x p → Holds s x p

-- one takes a resource
pub record Takes (app : App) (s r : State) : Type 0 where
  pub taker : Holder
  pub resource : ℕ
  pub free : is_taken s resource ≡ false
  pub allowed : own_rank app taker ≤ ceiling_for app taker resource
  pub grows : (x : Holder) (p : ℕ) → Holds r x p → Holds s x p ⊎ ((x ≡ taker) × (p ≡ resource))

pub not_false : (b c : Bool) → b ≡ true → b ≡ false → ⊥
not_false b c e f = false≢true (sym f ∙ e)

pub or_cases : (b c : Bool) → (b || c) ≡ true → (b ≡ true) ⊎ (c ≡ true)
or_cases true c e = inl refl
or_cases false c e = inr e

pub or_first : (b c : Bool) → b ≡ true → (b || c) ≡ true
or_first true c e = refl
or_first false c e = absurd (false≢true e)

pub or_rest : (b c : Bool) → c ≡ true → (b || c) ≡ true
or_rest true c e = refl
or_rest false c e = e

-- one more on top, and without the top
holds_more : (stack : List ResNo) (r : ResNo) (p : ℕ) → holds (stack ++ r ∷ []) p ≡ true → (holds stack p ≡ true) ⊎ (p ≡ r.0)
holds_more [] r p e = elim (or_cases (nat_eq r.0 p) false e) [ inl f ↦ inr (sym (eqb-true r.0 p f)) | inr f ↦ absurd (false≢true f) ]
holds_more (q ∷ stack) r p e = elim (or_cases (nat_eq q.0 p) (holds (stack ++ r ∷ []) p) e) [
  | inl f ↦ inl (or_first (nat_eq q.0 p) (holds stack p) f)
  | inr f ↦ elim (holds_more stack r p f) [ inl g ↦ inl (or_rest (nat_eq q.0 p) (holds stack p) g) | inr g ↦ inr g ]
]

holds_less : (n : ℕ) (stack : List ResNo) (p : ℕ) → holds (take n stack) p ≡ true → holds stack p ≡ true
holds_less zero stack p e = absurd (false≢true e)
holds_less (suc n) [] p e = absurd (false≢true e)
holds_less (suc n) (q ∷ stack) p e = elim (or_cases (nat_eq q.0 p) (holds (take n stack) p) e) [
  | inl f ↦ or_first (nat_eq q.0 p) (holds stack p) f
  | inr f ↦ or_rest (nat_eq q.0 p) (holds stack p) (holds_less n stack p f)
]

-- what nobody has taken nobody holds
pub free_everywhere : (s : State) (r : ℕ) → is_taken s r ≡ false → (x : Holder) → Holds s x r → ⊥
free_everywhere s r free (OfTask t) h = elim (cases_lt t (length s.tasks)) [
  | inl known ↦ not_false (holds (held (task_state s t)) r) true h (not_taken s r free t known)
  | inr past ↦ false≢true (subst (λ (x : TaskState). holds (held x) r ≡ true) (get_or_past s.tasks t suspended past) h)
]
free_everywhere s r free (OfRoutine k) h = elim (cases_lt k (length s.sources)) [
  | inl known ↦ not_false (holds (held_by_source (source_state s k)) r) true h (not_taken_by_routine s r free k known)
  | inr past ↦ false≢true (subst (λ (x : Source). holds (held_by_source x) r ≡ true) (get_or_past s.sources k source.Out past) h)
]

-- the stack of an activity that holds at most this
abbrev HoldsAtMost : List ResNo → List ResNo → Type 0
HoldsAtMost g h = (p : ℕ) → holds g p ≡ true → holds h p ≡ true

none_held : (h : List ResNo) → HoldsAtMost [] h
none_held h p e = absurd (false≢true e)

activated_stack : (app : App) (t : ℕ) (x : TaskState) (a : Activity) → x.activity ≡ a → HoldsAtMost (held (activated_by app t x a)) (held x)
activated_stack app t x Suspended e p h = none_held (held x) p h
activated_stack app t x (Live y) e p h = subst (λ (a : Activity). holds (held_in a) p ≡ true) (sym e) h
activated_stack app t x (Waiting b) e p h = h

released_stack : (app : App) (a : Activity) → HoldsAtMost (held_in (released_from app a)) (held_in a)
released_stack app Suspended p h = h
released_stack app (Live x) p h = h
released_stack app (Waiting b) p h = h

ended_stack : (app : App) (t : ℕ) (a : Activity) → HoldsAtMost (held_in (ended_by app t a)) (held_in a)
ended_stack app t Suspended p h = h
ended_stack app t (Live x) p h = absurd (either_by (λ (a : Activity). holds (held_in a) p ≡ true → ⊥) (nat_eq x.further 0) _ _ (λ _ e. false≢true e) (λ _ e. false≢true e) h)
ended_stack app t (Waiting b) p h = h

inside_stack : (b : Bool) (a : Activity) → HoldsAtMost (held_in (inside_as b a)) (held_in a)
inside_stack b Suspended p h = h
inside_stack b (Live x) p h = h
inside_stack b (Waiting c) p h = h

moved_stack : (to : Place) (a : Activity) → HoldsAtMost (held_in (standing_at a to)) (held_in a)
moved_stack to Suspended p h = h
moved_stack to (Live x) p h = h
moved_stack to (Waiting c) p h = h

set_stack : (g : List ResNo) (a : Activity) → HoldsAtMost (held_in (with_stack a g)) g
set_stack g Suspended p h = none_held g p h
set_stack g (Live x) p h = h
set_stack g (Waiting c) p h = none_held g p h

source_moved_stack : (to : Place) (x : Source) → HoldsAtMost (held_by_source (source_at x to)) (held_by_source x)
source_moved_stack to source.Out p h = h
source_moved_stack to (source.In x) p h = h

source_set_stack : (g : List ResNo) (x : Source) → HoldsAtMost (held_by_source (source_with_stack x g)) g
source_set_stack g source.Out p h = none_held g p h
source_set_stack g (source.In x) p h = h

module _ (s : State) where
  -- a task or a source in a state that holds at most what it held
  put_task_shrinks : (t : ℕ) (x : TaskState) → HoldsAtMost (held x) (held (task_state s t)) → Shrinks s (with_task s t x)
  put_task_shrinks t x less (OfTask u) p h = put_task s t x (λ v y. holds (held y) p ≡ true → holds (held (task_state s v)) p ≡ true) (less p) (λ v g. g) u h
  put_task_shrinks t x less (OfRoutine k) p h = h

  put_source_shrinks : (k : ℕ) (x : Source) → HoldsAtMost (held_by_source x) (held_by_source (source_state s k)) → Shrinks s (with_source s k x)
  put_source_shrinks k x less (OfTask u) p h = h
  put_source_shrinks k x less (OfRoutine l) p h = put_source s k x (λ v y. holds (held_by_source y) p ≡ true → holds (held_by_source (source_state s v)) p ≡ true) (less p) (λ v g. g) l h

  ended_shrinks : (app : App) (c : ℕ) → Shrinks s (left (ended app s c))
  ended_shrinks app c (OfTask t) p h = put_task_shrinks c _ (ended_stack app c (task_state s c).activity) (OfTask t) p h
  ended_shrinks app c (OfRoutine k) p h = h

  activated_shrinks : (app : App) (t : ℕ) → Shrinks s (activated app s t)
  activated_shrinks app t (OfTask u) p h = let x = task_state s t in put_task_shrinks t _ (activated_stack app t x x.activity refl) (OfTask u) p h
  activated_shrinks app t (OfRoutine k) p h = h

  woken_shrinks : (app : App) (t e : ℕ) → Shrinks s (woken app s t e)
  woken_shrinks app t e (OfTask u) p h = put_task_shrinks t _ (released_stack app (task_state s t).activity) (OfTask u) p h
  woken_shrinks app t e (OfRoutine k) p h = h

  waiting_shrinks : (c : ℕ) (x : TaskState) → held x ≡ [] → Shrinks s (left (with_task s c x))
  waiting_shrinks c x none (OfTask u) p h = put_task_shrinks c x (λ q g. absurd (false≢true (subst (λ (y : List ResNo). holds y q ≡ true) none g))) (OfTask u) p h
  waiting_shrinks c x none (OfRoutine k) p h = h

  pub moved_shrinks : (to : Place) (p : Processor) → Shrinks s (moved_by s p to)
  moved_shrinks to processor.Halted x r h = h
  moved_shrinks to processor.Idle x r h = h
  moved_shrinks to (processor.Running t) x r h = put_task_shrinks t.0 _ (moved_stack to (task_state s t.0).activity) x r h
  moved_shrinks to (processor.Interrupted k over) x r h = put_source_shrinks k.0 _ (source_moved_stack to (source_state s k.0)) x r h

  returned_shrinks : (app : App) (k : ℕ) (over : Option TaskNo) (o : Option SourceNo) → Shrinks s (returned_to app (with_source s k source.Out) over o).state
  returned_shrinks app k None None (OfTask t) p h = h
  returned_shrinks app k None None (OfRoutine l) p h = put_source_shrinks k source.Out (none_held _) (OfRoutine l) p h
  returned_shrinks app k (Some t) None (OfTask u) p h = h
  returned_shrinks app k (Some t) None (OfRoutine l) p h = put_source_shrinks k source.Out (none_held _) (OfRoutine l) p h
  returned_shrinks app k over (Some j) (OfTask t) p h = h
  returned_shrinks app k over (Some j) (OfRoutine l) p h = put_source_shrinks k source.Out (none_held _) (OfRoutine l) p h

  out_shrinks : (k : ℕ) (x : Source) (p : ℕ) → x ≡ source.Out → holds (held_by_source x) p ≡ true → Holds s (OfRoutine k) p
  out_shrinks k x p out h = absurd (false≢true (subst (λ (y : Source). holds (held_by_source y) p ≡ true) out h))

  halted_shrinks : (p : Processor) → Shrinks s (halted_by s p)
  halted_shrinks processor.Halted x p h = h
  halted_shrinks processor.Idle x p h = h
  halted_shrinks (processor.Running t) x p h = h
  halted_shrinks (processor.Interrupted k None) (OfTask t) p h = h
  halted_shrinks (processor.Interrupted k (Some u)) (OfTask t) p h = h
  halted_shrinks (processor.Interrupted k None) (OfRoutine l) p h = out_shrinks l _ p (each_is_out s l) h
  halted_shrinks (processor.Interrupted k (Some u)) (OfRoutine l) p h = out_shrinks l _ p (each_is_out (first_in_line s (Some u)) l) h

  inside_shrinks : (t : ℕ) (b : Bool) → Shrinks s (with_inside s t b)
  inside_shrinks t b = put_task_shrinks t _ (inside_stack b (task_state s t).activity)

  kept_shrinks : (app : App) (p : Processor) → Shrinks s (kept_by app s p)
  kept_shrinks app processor.Halted x r h = h
  kept_shrinks app processor.Idle x r h = h
  kept_shrinks app (processor.Running t) x r h = inside_shrinks t.0 _ x r h
  kept_shrinks app (processor.Interrupted k over) x r h = h

  dispatched_shrinks : (app : App) (c o : Option TaskNo) → Shrinks s (with_processor (put_inside app (out_of_line (first_in_line s c) o) o) (processor_for o))
  dispatched_shrinks app None None x r h = h
  dispatched_shrinks app (Some u) None x r h = h
  dispatched_shrinks app None (Some t) (OfTask v) r h = inside_shrinks t.0 _ (OfTask v) r h
  dispatched_shrinks app (Some u) (Some t) (OfTask v) r h = inside_shrinks t.0 _ (OfTask v) r h
  dispatched_shrinks app None (Some t) (OfRoutine k) r h = h
  dispatched_shrinks app (Some u) (Some t) (OfRoutine k) r h = h

  pub settled_shrinks : (app : App) (o : Outcome) → Shrinks s (settled app s o)
  settled_shrinks app Keep = kept_shrinks app s.processor
  settled_shrinks app (To o) = dispatched_shrinks app (task_of s.processor) o

  pub entered_shrinks : (app : App) (k : SourceNo) → Shrinks s (entered app s k)
  entered_shrinks app k (OfTask t) p h = h
  entered_shrinks app k (OfRoutine l) p h = put_source_shrinks k.0 _ (none_held _) (OfRoutine l) p h

-- What stays where stacks shrink, and where one takes a resource, stays along every step.
pub record IsKeptByStacks (app : App) (P : State → Type 0) : Type 0 where
  pub shrinks : (s r : State) → Shrinks s r → P s → P r
  pub takes : (s r : State) → Takes app s r → P s → P r

module _ (app : App) (P : State → Type 0) (k : IsKeptByStacks app P) where
  counts_shrink : (m : State) (c : ℕ) → Shrinks m (count_up app m c)
  unfolding count_up
  counts_shrink m c (OfTask t) p h = h
  counts_shrink m c (OfRoutine l) p h = h

  armed_holds : (m : State) (a : ℕ) (x : AlarmState) → Shrinks m (with_alarm m a x)
  armed_holds m a x (OfTask t) p h = h
  armed_holds m a x (OfRoutine l) p h = h

  task_grows : (m : State) (c : ℕ) (r : ResNo) (x : Holder) (p : ℕ) → Holds (with_held m c (held (task_state m c) ++ r ∷ [])) x p → Holds m x p ⊎ ((x ≡ OfTask c) × (p ≡ r.0))
  task_grows m c r (OfTask u) p taken =
      let g : List ResNo = held (task_state m c) ++ r ∷ [] in
      let a = (task_state m c).activity in
      put_task m c _ (λ v y. holds (held y) p ≡ true → (holds (held (task_state m v)) p ≡ true) ⊎ ((OfTask v ≡ OfTask c) × (p ≡ r.0)))
      (λ h. elim (holds_more (held (task_state m c)) r p (set_stack g a p h)) [ inl old ↦ inl old | inr same ↦ inr (refl, same) ]) (λ v h. inl h) u taken
  task_grows m c r (OfRoutine l) p h = inl h

  task_gives : (m : State) (c n : ℕ) → Shrinks m (with_held m c (take n (held (task_state m c))))
  task_gives m c n = let a = (task_state m c).activity in put_task_shrinks m c _ (λ p h. holds_less n (held (task_state m c)) p (set_stack (take n (held (task_state m c))) a p h))

  routine_grows : (m : State) (l : ℕ) (r : ResNo) (x : Holder) (p : ℕ) → Holds (with_source_stack app m l (stack_of_source app m l ++ r ∷ [])) x p
      → Holds m x p ⊎ ((x ≡ OfRoutine l) × (p ≡ r.0))
  routine_grows m l r (OfTask u) p h = inl h
  routine_grows m l r (OfRoutine j) p taken =
      let g : List ResNo = stack_of_source app m l ++ r ∷ [] in
      put_source m l _ (λ v y. holds (held_by_source y) p ≡ true → (holds (held_by_source (source_state m v)) p ≡ true) ⊎ ((OfRoutine v ≡ OfRoutine l) × (p ≡ r.0)))
      (λ h. elim (holds_more (stack_of_source app m l) r p (source_set_stack g (source_state m l) p h)) [ inl old ↦ inl old | inr same ↦ inr (refl, same) ]) (λ v h. inl h) j taken

  routine_gives : (m : State) (l n : ℕ) → Shrinks m (with_source_stack app m l (take n (stack_of_source app m l)))
  routine_gives m l n = put_source_shrinks m l _
      (λ p h. holds_less n (stack_of_source app m l) p (source_set_stack (take n (stack_of_source app m l)) (source_state m l) p h))

  pub stack_deeds : (k : Kind) → AreDeeds app k P (λ r a. P r)
  stack_deeds kind_of = record {
    counts = λ m c h up. k.shrinks m _ (counts_shrink m c) h;
    arms = λ m a x h sets. k.shrinks m _ (armed_holds m a x) h;
    rests = λ m w h. h;
    takes = λ m c r w h e free low. k.takes m _ (record {
      taker = OfTask c.0;
      resource = r.0;
      free = free;
      allowed = low;
      grows = task_grows m c.0 r;
    }) h;
    gives = λ m c n w h e goes. k.shrinks m _ (task_gives m c.0 n) h;
    routine_takes = λ m l r w h e free low. k.takes m _ (record {
      taker = OfRoutine l.0;
      resource = r.0;
      free = free;
      allowed = low;
      grows = routine_grows m l.0 r;
    }) h;
    routine_gives = λ m l n w h e. k.shrinks m _ (routine_gives m l.0 n) h;
    activates = λ m t w h known room goes. k.shrinks m _ (activated_shrinks m app t) h;
    wakes = λ m t e w h known ext waits goes. k.shrinks m _ (woken_shrinks m app t e) h;
    sets = λ m t e w h known waits sent. k.shrinks m _ (put_task_shrinks m t _ (λ p x. x)) h;
    clears = λ m c e w h r goes. k.shrinks m _ (put_task_shrinks m c.0 _ (λ p x. x)) h;
    ends = λ m c w h e goes. k.shrinks m _ (ended_shrinks m app c.0) h;
    chains = λ m c t w h e known room goes chained. k.shrinks (left (ended app m c.0)) _ (activated_shrinks (left (ended app m c.0)) app t) (k.shrinks m _ (ended_shrinks m app c.0) h);
    waits = λ m c w h e ext none goes. k.shrinks m _ (waiting_shrinks m c.0 _ refl) h;
    lets_out = λ m c w h e none goes. k.shrinks m _ (inside_shrinks m c.0 false) h;
    returns = λ m l over o w h e f goes. k.shrinks m _ (returned_shrinks m app l.0 over o) h;
    halts = λ m w h goes. k.shrinks m _ (halted_shrinks m m.processor) h;
  }

  latched_holds : (s : State) (l : ℕ) → Shrinks s (with_latch s l true)
  latched_holds s l (OfTask t) p h = h
  latched_holds s l (OfRoutine j) p h = h

  moved_keeps : (s : State) (to : Place) → P s → P (moved s to)
  moved_keeps s to h = k.shrinks s _ (moved_shrinks s to s.processor) h

  instruction_keeps : (s : State) (choice : Bool) → Well app s → IsActive s.processor → P s → P (instruction app s choice).state
  unfolding instruction
  instruction_keeps s choice w active h =
      let e = effect app s choice in
      k.shrinks e.state _ (settled_shrinks e.state app (outcome_of app e)) (effect_does app P (λ r a. P r) s (stack_deeds (kind_at app s)) w active h (λ to. moved_keeps s to h) choice)

  pub stacks_keep : (s : State) (e : Event) → Well app s → P s → P (step app s e).state
  stacks_keep s e w h = step_goes app P (λ n l g. k.shrinks n _ (latched_holds n l) g) (λ n l v g a. k.shrinks n _ (entered_shrinks n app l) g)
      (λ n choice v active g. instruction_keeps n choice v active g) s e w h

-- nobody holds anything before the first dispatch, and so after it
module _ (app : App) (mode : ModeNo) where
  started_holds_none : (t : ℕ) (b : Bool) (p : ℕ) → holds (held (if b then activated_state app t else suspended)) p ≡ true → ⊥
  started_holds_none t true p h = false≢true h
  started_holds_none t false p h = false≢true h

  initial_holds_none : (x : Holder) (p : ℕ) → Holds (initial app mode) x p → ⊥
  initial_holds_none (OfTask t) p h = elim (cases_lt t (length app.tasks)) [
    | inl known ↦ started_holds_none t (has_bit (the_task app t).autostart mode.0) p
        (subst (λ (x : TaskState). holds (held x) p ≡ true) (get_or-map (started_task mode.0) app.tasks t no_task suspended known) h)
    | inr past ↦ false≢true (subst (λ (x : TaskState). holds (held x) p ≡ true)
        (get_or_past (map (started_task mode.0) app.tasks) t suspended (subst (λ (n : ℕ). n ≤ t) (sym (length-map app.tasks (started_task mode.0))) past)) h)
  ]
  initial_holds_none (OfRoutine k) p h = elim (cases_lt k (source_count app)) [
    | inl known ↦ false≢true (subst (λ (x : Source). holds (held_by_source x) p ≡ true) (get_or-replicate (source_count app) k source.Out source.Out known) h)
    | inr past ↦ false≢true (subst (λ (x : Source). holds (held_by_source x) p ≡ true)
        (get_or_past (replicate (source_count app) source.Out) k source.Out (subst (λ (n : ℕ). n ≤ k) (sym (length-replicate (source_count app) source.Out)) past)) h)
  ]

  pub start_holds_none : (x : Holder) (p : ℕ) → Holds (start app mode).state x p → ⊥
  unfolding start
  start_holds_none x p h = let s = initial app mode in initial_holds_none x p (settled_shrinks s app (if_any (best app s)) x p h)
