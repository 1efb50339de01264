-- Each deed and the outcome after it leave the routines nested.
use Rattle.std.proofs.Common.{◌≡◌, ◌≢◌, ℕ, ◌<◌, ◌≤◌, Bool, true, List, [], ◌∷◌, zero, suc, take, length, refl, sym, subst, ap, ◌∙◌, inl, inr, arith, Some, None, get_or-set_other}
use Rattle.std.proofs.lemmas.Bool.{cases_eq, eq-eqb, false≢true, Decides.{nat_tests}}
use Rattle.std.specs.{Prelude.{max}, List.{range_with_len}, declared.option.Option.{Option}}
use Rattle.osek_values.specs.declared.{event.Event.{Event}, numbers.{ModeNo.{ModeNo}, ResNo.{ResNo}, SourceNo.{SourceNo}, TaskNo.{TaskNo}}}
use Rattle.osek_values.specs.Numbers.{mask}
use Rattle.osek_standard.specs.declared.{app.App.{App}, state.{State.{State}, Source.{Source}, Processor.{Processor}, Caller.{TheVariants.{Routine}}}}
use Rattle.osek_standard.specs.declared.task_state.{TaskState.{TaskState}, Place.{Place}, Activity.{Activity, TheVariants.{Suspended, Live, Waiting}}}
use Rattle.osek_standard.specs.{Apps.{source_priority}, TaskStates.{is_live, is_live_activity, holds}, States.{caller, is_in, is_that_task, source_state, task_of, task_state, with_processor, with_source, with_task}}
use Rattle.osek_standard.specs.{Internal.{kept_by, occupied}, Levels.{comes_before, highest_level, interrupt_ceiling, level, next_routine, own_level, routine_level, task_level}}
use Rattle.osek_standard.specs.Services.{activated_by, count_up, events_set, own_events, released_from, source_with_stack, waits_in, with_source_stack}
use Rattle.osek_standard.specs.{Effects.{effect, halted_by, moved_by, returned_to, source_at}, Arrivals.{arrival, begun, entered}, Kernel.{initial, start, step}, Priority.{best}, Well.{AreOut, IsActive, IsProcessor, Well}, Line.{first_in_line}}
use Rattle.osek_standard.specs.Dispatch.{Outcome, Keep, To, if_any, instruction, outcome_of, settled}
use Rattle.osek_standard.specs.declared.state.Processor.TheVariants as processor
use Rattle.osek_standard.specs.declared.state.Source.TheVariants as source
use Rattle.osek_standard.proofs.{ArrivalLaws.{arrival_is}, Callers.{task_level_of}, Greatest.{greatest_from, greatest_of}, Keeps.{live_at_processor}, NestLaws.{entered_known, next_is, none_next}, StepKeeps.{initial_is_well, instruction_keeps, start_is_well}, EffectKeeps.{effect_keeps}, Members.{among_range}}
use Rattle.osek_standard.specs.declared.block.Kind.{Kind}
use Rattle.kernel_guarantees.specs.Scheduling.{kind_at}
use Rattle.kernel_guarantees.specs.{Nesting.{IsIn, IsNested, level_of}, Reached.{IsReached}}
use Rattle.kernel_guarantees.proofs.{Deeds.{AreDeeds}, Effecting.{effect_does}, Greatest.{held_among}, Lookups.{each_is_out, put_source, put_task}, Reaching.{reached_has, step_goes}}

module _ (app : App) where
  -- levels under more and under fewer resources
  level_from : (n : ℕ) (xs : List ResNo) → n ≤ highest_level app n xs
  unfolding highest_level
  level_from n xs = greatest_from (λ (r : ResNo). interrupt_ceiling app r.0) n xs

  level_less : (k n : ℕ) (xs : List ResNo) → highest_level app k (take n xs) ≤ highest_level app k xs
  unfolding highest_level
  level_less k zero xs = level_from k xs
  level_less k (suc n) [] = omega arith
  level_less k (suc n) (x ∷ xs) = level_less (max k (interrupt_ceiling app x.0)) n xs

  pub ceiling_in_level : (n r : ℕ) (xs : List ResNo) → holds xs r ≡ true → interrupt_ceiling app r ≤ highest_level app n xs
  unfolding highest_level
  ceiling_in_level n r xs e =
      let (q, among, is) = held_among xs r e in
      subst (λ (m : ℕ). interrupt_ceiling app m ≤ highest_level app n xs) is (greatest_of (λ (q : ResNo). interrupt_ceiling app q.0) n xs q among)

  pub own_in_level : (k : ℕ) (x : Source) → is_in x ≡ true → own_level app k ≤ routine_level app k x
  own_in_level k source.Out e = absurd (false≢true e)
  own_in_level k (source.In x) e = level_from (own_level app k) x.held

  -- the interrupt level is that of each routine at least, and of the task
  pub routine_in_level : (s : State) (k : ℕ) → IsIn s k → level_of app s k ≤ level app s
  unfolding level
  routine_in_level s k h =
      let known = entered_known app s k h in
      greatest_of (λ (l : ℕ). routine_level app l (source_state s l)) (task_level app s (task_of s.processor)) (range_with_len 0 (length s.sources)) k
      (among_range 0 (length s.sources) k (omega arith) (omega (arith, known)))

  pub task_in_level : (s : State) → task_level app s (task_of s.processor) ≤ level app s
  unfolding level
  task_in_level s = greatest_from (λ (l : ℕ). routine_level app l (source_state s l)) (task_level app s (task_of s.processor)) (range_with_len 0 (length s.sources))

  module _ (s : State) where
    nested_out : AreOut app s → IsNested app s
    nested_out out = record {
      apart = λ k l ne h g. absurd (none k h);
      greatest = λ k over l e h. absurd (none l h);
      task = λ k h. absurd (none k h);
    } where
      none : (k : ℕ) → IsIn s k → ⊥
      none k h = false≢true (subst (λ (x : Source). is_in x ≡ true) (out k) h)

    module _ (nested : IsNested app s) where
      -- the levels of the others don't keep the one at the processor out
      pub top : (k : SourceNo) (over : Option TaskNo) (l : ℕ) → s.processor ≡ processor.Interrupted k over → IsIn s k.0 → IsIn s l → l ≢ k.0 → level_of app s l ≤ source_priority app k.0
      top k over l e here there other = elim (nested.apart l k.0 other there here) [
        | inl h ↦ h
        | inr h ↦ absurd (let own = own_in_level k.0 (source_state s k.0) here in let great = nested.greatest k over l e there in omega (arith, h, own, great))
      ]

      -- another state of a task, with what it had where it is Live
      module _ (w : Well app s) (t : ℕ) (x : TaskState) (has : is_live (task_state s t) ≡ true → occupied app t x ≡ occupied app t (task_state s t)) where
        same_level : (o : Option TaskNo) → task_of s.processor ≡ o → task_level app (with_task s t x) o ≡ task_level app s o
        same_level None e = refl
        same_level (Some c) e =
            let live : is_live (task_state s c.0) ≡ true = live_at_processor app s w c.0 (ap (λ (o : Option TaskNo). is_that_task o c.0) e ∙ eq-eqb c.0 c.0 refl) in
            ap (highest_level app 0) (put_task s t x (λ v y. is_live (task_state s v) ≡ true → occupied app v y ≡ occupied app v (task_state s v)) has (λ v _. refl) c.0 live)

        task_nests : IsNested app (with_task s t x)
        task_nests = record {
          apart = nested.apart;
          greatest = nested.greatest;
          task = λ k h. let old = nested.task k h in omega (arith, old, same_level (task_of s.processor) refl);
        }

      -- the routine at the processor with another stack, at another place
      module _ (k : SourceNo) (over : Option TaskNo) (e : s.processor ≡ processor.Interrupted k over) (x : Source) (began : is_in x ≡ true → IsIn s k.0) where
        still_in : (l : ℕ) → IsIn (with_source s k.0 x) l → IsIn s l
        still_in l = put_source s k.0 x (λ v y. is_in y ≡ true → IsIn s v) began (λ v h. h) l

        level_beside : (l : ℕ) → l ≢ k.0 → level_of app (with_source s k.0 x) l ≡ level_of app s l
        level_beside l other = ap (routine_level app l) (get_or-set_other s.sources k.0 l x source.Out other)

        -- with any stack, where it is in: the levels of the others don't keep it out
        rest_apart : (l : ℕ) → l ≢ k.0 → IsIn (with_source s k.0 x) k.0 → IsIn (with_source s k.0 x) l → level_of app (with_source s k.0 x) l ≤ source_priority app k.0
        rest_apart l other here there = let low = top k over l e (still_in k.0 here) (still_in l there) other in omega (arith, low, level_beside l other)

        routine_nests : IsNested app (with_source s k.0 x)
        routine_nests = record {
          apart = λ i j ne h g. elim (cases_eq i k.0) [
            | inl same ↦ inr (subst (λ (v : ℕ). level_of app (with_source s k.0 x) j ≤ source_priority app v) (sym same)
                (rest_apart j (λ f. ne (same ∙ sym f)) (subst (IsIn (with_source s k.0 x)) same h) g))
            | inr other ↦ elim (cases_eq j k.0) [
              | inl same ↦ inl (subst (λ (v : ℕ). level_of app (with_source s k.0 x) i ≤ source_priority app v) (sym same) (rest_apart i other (subst (IsIn (with_source s k.0 x)) same g) h))
              | inr also ↦ elim (nested.apart i j ne (still_in i h) (still_in j g)) [
                | inl f ↦ inl (omega (arith, f, level_beside i other))
                | inr f ↦ inr (omega (arith, f, level_beside j also))
              ]
            ]
          ];
          greatest = λ i o l f h. nested.greatest i o l f (still_in l h);
          task = λ l h. nested.task l (still_in l h);
        }

  pub stack_in : (g : List ResNo) (x : Source) → is_in (source_with_stack x g) ≡ true → is_in x ≡ true
  stack_in g source.Out h = h
  stack_in g (source.In x) h = refl

  pub place_in_source : (to : Place) (x : Source) → is_in (source_at x to) ≡ true → is_in x ≡ true
  place_in_source to source.Out h = h
  place_in_source to (source.In x) h = refl

  module _ (s : State) (w : Well app s) (nested : IsNested app s) where
    -- at task level all routines are out
    at_task : (c : TaskNo) → s.processor ≡ processor.Running c → AreOut app s
    at_task c e = (task_level_of app s c w e).out

    stack_nests : (k : SourceNo) (g : List ResNo) (p : Processor) → s.processor ≡ p → caller p ≡ Routine k → IsNested app (with_source_stack app s k.0 g)
    stack_nests k g processor.Halted e f = absurd (cc (f))
    stack_nests k g processor.Idle e f = absurd (cc (f))
    stack_nests k g (processor.Running t) e f = absurd (cc (f))
    stack_nests k g (processor.Interrupted l over) e f =
        let same : l ≡ k = cc (f) in
        routine_nests s nested k over (subst (λ (n : SourceNo). s.processor ≡ processor.Interrupted n over) same e) (source_with_stack (source_state s k.0) g) (stack_in g (source_state s k.0))

    moving_nests : (to : Place) (p : Processor) → s.processor ≡ p → IsNested app (moved_by s p to)
    moving_nests to processor.Halted e = nested
    moving_nests to processor.Idle e = nested
    moving_nests to (processor.Running t) e = nested_out _ (at_task t e)
    moving_nests to (processor.Interrupted k over) e = routine_nests s nested k over e (source_at (source_state s k.0) to) (place_in_source to (source_state s k.0))

    activation_has : (t : ℕ) (x : TaskState) (a : Activity) → x.activity ≡ a → is_live x ≡ true → occupied app t (activated_by app t x a) ≡ occupied app t x
    activation_has t x Suspended e live = absurd (false≢true (sym (ap is_live_activity e) ∙ live))
    activation_has t x (Live y) e live = ap (λ (b : Activity). occupied app t (record x { activity = b })) (sym e)
    activation_has t x (Waiting b) e live = refl

    release_has : (t m : ℕ) (x y : TaskState) (a : Activity) → x.activity ≡ a → waits_in app a m ≡ true → is_live x ≡ true → occupied app t y ≡ occupied app t x
    release_has t m x y Suspended e waits live = absurd (false≢true waits)
    release_has t m x y (Live z) e waits live = absurd (false≢true waits)
    release_has t m x y (Waiting b) e waits live = absurd (false≢true (sym (ap is_live_activity e) ∙ live))

    -- a routine ended, and the next one goes on, or all are out
    ended_in : (k : ℕ) (l : ℕ) → IsIn (with_source s k source.Out) l → IsIn s l
    ended_in k l = put_source s k source.Out (λ v y. is_in y ≡ true → IsIn s v) (λ h. absurd (false≢true h)) (λ v h. h) l

    ended_level : (k l : ℕ) → IsIn (with_source s k source.Out) l → level_of app (with_source s k source.Out) l ≡ level_of app s l
    ended_level k l = put_source s k source.Out (λ v y. is_in y ≡ true → routine_level app v y ≡ level_of app s v) (λ h. absurd (false≢true h)) (λ v h. refl) l

    next_nests : (k : SourceNo) (over : Option TaskNo) (j : SourceNo) → s.processor ≡ processor.Interrupted k over → next_routine app (with_source s k.0 source.Out) ≡ Some j
        → IsNested app (with_processor (with_source s k.0 source.Out) (processor.Interrupted j over))
    next_nests k over j e f = record {
      apart = λ i l ne h g. elim (nested.apart i l ne (ended_in k.0 i h) (ended_in k.0 l g)) [
        | inl low ↦ inl (omega (arith, low, ended_level k.0 i h))
        | inr low ↦ inr (omega (arith, low, ended_level k.0 l g))
      ];
      greatest = λ i o l g h. let same : j ≡ i = cc (g) in
          subst (λ (n : SourceNo). source_priority app l ≤ source_priority app n.0) same (comes_at_most j.0 l ((next_is app (with_source s k.0 source.Out) j f).before_each l h));
      task = λ l h. let old = nested.task l (ended_in k.0 l h) in
          let level_same : task_level app s (task_of s.processor) ≡ task_level app s over = ap (λ (p : Processor). task_level app s (task_of p)) e in
          omega (arith, old, level_same);
    } where
      comes_at_most : (i l : ℕ) → comes_before app i l ≡ true → source_priority app l ≤ source_priority app i
      comes_at_most i l b = grind (arith, nat_tests, b)

    returning_nests : (k : SourceNo) (over : Option TaskNo) (o : Option SourceNo) → s.processor ≡ processor.Interrupted k over → next_routine app (with_source s k.0 source.Out) ≡ o
        → IsNested app (returned_to app (with_source s k.0 source.Out) over o).state
    returning_nests k None None e f = nested_out _ (none_next app (with_source s k.0 source.Out) f)
    returning_nests k (Some t) None e f = nested_out _ (none_next app (with_source s k.0 source.Out) f)
    returning_nests k over (Some j) e f = next_nests k over j e f

    halting_nests : (p : Processor) → s.processor ≡ p → IsNested app (halted_by s p)
    halting_nests processor.Halted e = nested
    halting_nests processor.Idle e = nested_out _ (subst (IsProcessor app s) e w.processor)
    halting_nests (processor.Running t) e = nested_out _ (at_task t e)
    halting_nests (processor.Interrupted k None) e = nested_out _ (each_is_out s)
    halting_nests (processor.Interrupted k (Some t)) e = nested_out _ (each_is_out (first_in_line s (Some t)))

    keeping_nests : (p : Processor) → s.processor ≡ p → IsNested app (kept_by app s p)
    keeping_nests processor.Halted e = nested
    keeping_nests processor.Idle e = nested
    keeping_nests (processor.Running t) e = nested_out _ (at_task t e)
    keeping_nests (processor.Interrupted k over) e = nested

    settled_nests : (o : Outcome) → Well app (settled app s o) → IsNested app (settled app s o)
    settled_nests Keep v = keeping_nests s.processor refl
    settled_nests (To None) v = nested_out _ v.processor
    settled_nests (To (Some x)) v = nested_out _ v.processor.out

    -- a routine begins whose priority is at least the interrupt level
    module _ (k : SourceNo) (a : arrival app s ≡ Some k) where
      reaches : level app s ≤ source_priority app k.0
      reaches = (arrival_is app s k a).above

      others_level : (l : ℕ) → l ≢ k.0 → level_of app (entered app s k) l ≡ level_of app s l
      others_level l other = ap (routine_level app l) (get_or-set_other s.sources k.0 l (source.In (begun app k.0)) source.Out other)

      others_in : (l : ℕ) → l ≢ k.0 → IsIn (entered app s k) l → IsIn s l
      others_in l other h = subst (λ (x : Source). is_in x ≡ true) (get_or-set_other s.sources k.0 l (source.In (begun app k.0)) source.Out other) h

      under_new : (l : ℕ) → l ≢ k.0 → IsIn (entered app s k) l → level_of app (entered app s k) l ≤ source_priority app k.0
      under_new l other h = let low = routine_in_level s l (others_in l other h) in omega (arith, low, reaches, others_level l other)

      entered_nests : IsNested app (entered app s k)
      entered_nests = record {
        apart = λ i j ne h g. elim (cases_eq i k.0) [
          | inl same ↦ inr (subst (λ (v : ℕ). level_of app (entered app s k) j ≤ source_priority app v) (sym same) (under_new j (λ f. ne (same ∙ sym f)) g))
          | inr other ↦ elim (cases_eq j k.0) [
            | inl same ↦ inl (subst (λ (v : ℕ). level_of app (entered app s k) i ≤ source_priority app v) (sym same) (under_new i other h))
            | inr also ↦ elim (nested.apart i j ne (others_in i other h) (others_in j also g)) [
              | inl f ↦ inl (omega (arith, f, others_level i other))
              | inr f ↦ inr (omega (arith, f, others_level j also))
            ]
          ]
        ];
        greatest = λ i o l e h. let same : k ≡ i = cc (e) in
            subst (λ (n : SourceNo). source_priority app l ≤ source_priority app n.0) same (elim (cases_eq l k.0) [
              | inl is ↦ omega (arith, ap (source_priority app) is)
              | inr other ↦ (let low = under_new l other h in let own = own_in_level l (source_state (entered app s k) l) h in omega (arith, low, own))
            ]);
        task = λ l h. elim (cases_eq l k.0) [
          | inl is ↦ (let low = task_in_level s in omega (arith, low, reaches, ap (source_priority app) is))
          | inr other ↦ nested.task l (others_in l other h)
        ];
      }

  counting_nests : (m : State) (c : ℕ) → IsNested app m → IsNested app (count_up app m c)
  unfolding count_up
  counting_nests m c h = record { apart = h.apart; greatest = h.greatest; task = h.task }

  nested_deeds : (k : Kind) → AreDeeds app k (IsNested app) (λ r a. IsNested app r)
  nested_deeds kind_of = record {
    counts = λ m c h up. counting_nests m c h;
    arms = λ m a x h sets. record { apart = h.apart; greatest = h.greatest; task = h.task };
    rests = λ m w h. h;
    takes = λ m c r w h e free low. nested_out _ (at_task m w h c e);
    gives = λ m c n w h e goes. nested_out _ (at_task m w h c e);
    routine_takes = λ m l r w h e free low. stack_nests m w h l _ m.processor refl e;
    routine_gives = λ m l n w h e. stack_nests m w h l _ m.processor refl e;
    activates = λ m t w h known room goes. let g = task_nests m h w t _ (activation_has m w h t (task_state m t) (task_state m t).activity refl) in record { apart = g.apart; greatest = g.greatest; task = g.task };
    wakes = λ m t e w h known ext waits goes. let g = task_nests m h w t _ (release_has m w h t (own_events app m t e) (task_state m t) (record { activity = released_from app (task_state m t).activity; events = mask (events_set app m t e) })
        (task_state m t).activity refl waits) in record { apart = g.apart; greatest = g.greatest; task = g.task };
    sets = λ m t e w h known waits sent. task_nests m h w t _ (λ live. refl);
    clears = λ m c e w h r goes. nested_out _ (at_task m w h c r);
    ends = λ m c w h e goes. nested_out _ (at_task m w h c e);
    chains = λ m c t w h e known room goes chained. nested_out _ (at_task m w h c e);
    waits = λ m c w h e ext none goes. nested_out _ (at_task m w h c e);
    lets_out = λ m c w h e none goes. nested_out _ (at_task m w h c e);
    returns = λ m l over o w h e f goes. returning_nests m w h l over o e f;
    halts = λ m w h goes. halting_nests m w h m.processor refl;
  }

  instruction_nests : (s : State) (choice : Bool) → Well app s → IsActive s.processor → IsNested app s → IsNested app (instruction app s choice).state
  unfolding instruction
  instruction_nests s choice w active h =
      let e = effect app s choice in
      let nested = effect_does app (IsNested app) (λ r a. IsNested app r) s (nested_deeds (kind_at app s)) w active h (λ to. moving_nests s w h to s.processor refl) choice in
      settled_nests e.state (effect_keeps app s w choice) nested (outcome_of app e) (instruction_keeps app s choice w)

  step_nests : (s : State) (e : Event) → Well app s → IsNested app s → IsNested app (step app s e).state
  step_nests s e w h = step_goes app (IsNested app) (λ n k g. record { apart = g.apart; greatest = g.greatest; task = g.task }) (λ n k v g a. entered_nests n v g k a)
      (λ n choice v active g. instruction_nests n choice v active g) s e w h

  start_nests : (mode : ModeNo) → mode.0 < length app.modes → IsNested app (start app mode).state
  unfolding start
  start_nests mode known =
      let s = initial app mode in
      let w = initial_is_well app mode known in
      settled_nests s w (nested_out s w.processor) (if_any (best app s)) (start_is_well app mode known)

  pub reached_is_nested : (s : State) → IsReached app s → IsNested app s
  reached_is_nested s r = reached_has app (IsNested app) start_nests step_nests s r
