-- An alarm that a count made due expires before the next count, unless it is cancelled or the kernel halts.
use Rattle.std.proofs.Common.{◌≡◌, ◌⊎◌, ℕ, ◌+◌, ◌<◌, ◌≤◌, Bool, true, false, not, cond, List, [], ◌∷◌, length, refl, sym, subst, ap, ◌∙◌, inl, inr, arith, Some, get_or-set_same, get_or-set_other}
use Rattle.std.proofs.lemmas.Bool.{cases_eq, eq-eqb, eqb-true, false≢true}
use Rattle.std.specs.{Prelude.{slice_index_or}, declared.option.Option.{Option}}
use Rattle.osek_values.specs.declared.{event.Event.{Event}, numbers.{AlarmNo.{AlarmNo}, BlockNo.{BlockNo}, SourceNo.{SourceNo}, TaskNo.{TaskNo}}, status.Ask.{Ask}}
use Rattle.osek_values.specs.declared.status.Ask.TheVariants as ask
use Rattle.osek_values.specs.Numbers.{alarm_no, source_no}
use Rattle.oil_system.specs.declared.objects.Action.{Action}
use Rattle.oil_system.specs.declared.objects.Action.TheVariants as action
use Rattle.osek_standard.specs.declared.{app.App.{App}, block.Kind.{Kind}, task_state.Place.{Place}}
use Rattle.osek_standard.specs.declared.state.{State.{State}, AlarmState.{AlarmState, TheVariants.{Armed}}, RoutineStanding.{RoutineStanding}, Source.{Source}, Processor.{Processor}, Caller.{Caller, TheVariants.{Nobody, Routine, Task}}}
use Rattle.osek_standard.specs.{Apps.{is_counter, is_extended, max_of, the_alarm, the_block}, TaskStates.{is_suspended}, States.{alarm_state, caller, counter_value, here, is_in, place_by, place_of_source, source_state, task_state, with_alarm, with_latch}, Internal.{kept_by}}
use Rattle.osek_standard.specs.Services.{Answer, acted, activate_task, count_up, counted_by, due, expire, is_due_at, is_full, rearmed, set_event, value_of, waits_for}
use Rattle.osek_standard.specs.{Effects.{Effect, asked_by, effect, effect_at, moved_by, moved_to, place_at, source_at}, Arrivals.{arrival, begun, entered}, Kernel.{step}, Well.{IsActive, IsOfRoutine, IsRunningAt, Well}}
use Rattle.osek_standard.specs.Dispatch.{Stepped, instruction, outcome_by, outcome_of, settled}
use Rattle.osek_standard.specs.declared.block.Kind.TheVariants as kind
use Rattle.osek_standard.specs.declared.state.Processor.TheVariants as processor
use Rattle.osek_standard.specs.declared.state.Source.TheVariants as source
use Rattle.osek_standard.proofs.{Callers.{IsAtProcessor, at_processor, routine_level_of}, NestLaws.{entered_known}, StepKeeps.{step_keeps}}
use Rattle.kernel_guarantees.specs.{Alarms.{IsCount, StaysAs, counter_of, counts, counts_in}, Events.{IsDue}, Nesting.{IsIn}, Scheduling.{kind_at}}
use Rattle.kernel_guarantees.proofs.{LockedSteps.{effect_is}, Serving.{asks_no, either_by}, TickCode.{IsBefore, after_count, before_expiry, counts_first, expiry, first, goes_on_first, own_tick}, AlarmRuns.{step_counter}, Arming.{cycle_within, cyclic_rearms, rearms, single_ends}, CountsLeft.{left, left_here}, LastIn.{arrives_out}, OtherRoutines.{instruction_leaves}, Reaching.{step_has}, Stopped.{halted_stays}}

module _ (app : App) (s : State) (k : SourceNo) (over : Option TaskNo) (is : s.processor ≡ processor.Interrupted k over) where
  -- an alarm's action leaves the routines
  acted_sources : (m : State) (z : Action) → (acted app m z).state.sources ≡ m.sources
  unfolding activate_task set_event
  acted_sources m (action.ActivateTask t) = either_by (λ (a : Answer). a.state.sources ≡ m.sources) (is_full app m t.0) _ _ (λ _. refl) (λ _. refl)
  acted_sources m (action.SetEvent t e) = either_by (λ (a : Answer). a.state.sources ≡ m.sources) (not (is_extended app t.0)) _ _ (λ _. refl)
      (λ _. either_by (λ (a : Answer). a.state.sources ≡ m.sources) (is_suspended (task_state m t.0)) _ _ (λ _. refl)
      (λ _. either_by (λ (a : Answer). a.state.sources ≡ m.sources) (waits_for app m t.0 e.0) _ _ (λ _. refl) (λ _. refl)))

  abbrev Quiet : State → Answer → Type 0
  Quiet m a = (a.state.sources ≡ m.sources) × (a.ask ≡ ask.No)

  expire_quiet : (m : State) (a : ℕ) → Quiet m (expire app m a)
  unfolding expire
  expire_quiet m a = either_by (Quiet m) (is_due_at (due (alarm_state m a)) (value_of app m a)) _ _
      (λ _. (acted_sources (with_alarm m a (rearmed app a (alarm_state m a))) (the_alarm app a).action, refl)) (λ _. (refl, refl))

  count_quiet : (m : State) (c : Caller) → (counted_by app m c).sources ≡ m.sources
  unfolding count_up
  count_quiet m Nobody = refl
  count_quiet m (Task t) = refl
  count_quiet m (Routine l) = either_by (λ (r : State). r.sources ≡ m.sources) (is_counter app l.0) _ _ (λ _. refl) (λ _. refl)

  abbrev next : BlockNo
  next = (the_block app (here s).block.0).next

  -- the routine goes on at its next block
  abbrev GoesOn : Effect → Type 0
  GoesOn e = (e.state.sources ≡ (moved_to s next).sources) × (e.ask ≡ ask.No)

  kept_sources : (r : State) (p : Processor) → (kept_by app r p).sources ≡ r.sources
  kept_sources r processor.Halted = refl
  kept_sources r processor.Idle = refl
  kept_sources r (processor.Running t) = refl
  kept_sources r (processor.Interrupted l o) = refl

  settled_on : (e : Effect) → GoesOn e → (settled app e.state (outcome_of app e)).sources ≡ (moved_to s next).sources
  settled_on e h = ap (λ (a : Ask). (settled app e.state (outcome_by app e.state a)).sources) h.1 ∙ kept_sources e.state e.state.processor ∙ h.0

  by_effect : (choice : Bool) (x : Kind) → kind_at app s ≡ x → GoesOn (effect_at app s choice (here s) (the_block app (here s).block.0) x) → (instruction app s choice).state.sources ≡ (moved_to s next).sources
  unfolding instruction
  by_effect choice x e h = settled_on (effect app s choice)
      (subst GoesOn (sym (effect_is app s choice (subst IsActive (sym is) tt) ∙ ap (λ (y : Kind). effect_at app s choice (here s) (the_block app (here s).block.0) y) e)) h)

  expired_on : (choice : Bool) (a : AlarmNo) → kind_at app s ≡ kind.Expire a → (instruction app s choice).state.sources ≡ (moved_to s next).sources
  expired_on choice a e = let q = expire_quiet (moved_to s next) a.0 in
      by_effect choice (kind.Expire a) e (q.0, ap (asked_by app (caller s.processor) (kind.Expire a)) q.1 ∙ asks_no app (caller s.processor) (kind.Expire a))

  counted_on : (choice : Bool) → kind_at app s ≡ kind.CountUp → (instruction app s choice).state.sources ≡ (moved_to s next).sources
  counted_on choice e = by_effect choice kind.CountUp e (count_quiet (moved_to s next) (caller s.processor), asks_no app (caller s.processor) kind.CountUp)

  -- so where it stood, it stands at the next block
  module _ (w : Well app s) (x : RoutineStanding) (stood : source_state s k.0 ≡ source.In x) where
    here_is : here s ≡ x.at
    here_is = ap (place_by s) is ∙ ap place_of_source stood

    stands_next : (r : State) → r.sources ≡ (moved_to s next).sources → source_state r k.0 ≡ source.In (record x { at = place_at next 0 })
    stands_next r e =
        let to : Place = place_at next 0 in
        ap (λ (xs : List Source). slice_index_or xs k.0 source.Out) e
        ∙ ap (λ (p : Processor). source_state (moved_by s p to) k.0) is
        ∙ get_or-set_same s.sources k.0 (source_at (source_state s k.0) to) source.Out (entered_known app s k.0 (ap is_in stood))
        ∙ ap (λ (y : Source). source_at y to) stood

module _ (app : App) (a : ℕ) (known : a < length app.alarms) (at cycle : ℕ) where
  abbrev c : ℕ
  c = counter_of app a

  abbrev begin : ℕ
  begin = first app a known

  abbrev last : ℕ
  last = expiry app a known

  -- the tick routine is past CountUp, and not past the alarm
  record IsOnTheWay (n : State) : Type 0 where
    standing : RoutineStanding
    stands : source_state n c ≡ source.In standing
    past : begin < standing.at.block.0
    before : standing.at.block.0 ≤ last

  abbrev Comes : State → Type 0
  Comes n = IsOnTheWay n ⊎ (n.processor ≡ processor.Halted)

  same_way : (n r : State) → source_state r c ≡ source_state n c → IsOnTheWay n → IsOnTheWay r
  same_way n r same h = record { standing = h.standing; stands = same ∙ h.stands; past = h.past; before = h.before }

  abbrev IsArmed : State → Type 0
  IsArmed n = alarm_state n a ≡ Armed at cycle

  module _ (n : State) (w : Well app n) (h : IsOnTheWay n) (armed : IsArmed n) (value : at ≡ value_of app n a) where
    inside : IsIn n c
    inside = ap is_in h.stands

    is_due : IsDue app n a
    is_due = ap (λ (x : AlarmState). is_due_at (due x) (value_of app n a)) armed ∙ eq-eqb at (value_of app n a) value

    -- where it has the processor, it stands at an alarm
    module _ (over : Option TaskNo) (is : n.processor ≡ processor.Interrupted (source_no c) over) where
      place : here n ≡ h.standing.at
      place = here_is app n (source_no c) over is w h.standing h.stands

      own : IsOfRoutine app c h.standing.at.block.0
      own = own_of (source_state n c) h.stands (routine_level_of app n (source_no c) over w is).runs where
        own_of : (x : Source) → x ≡ source.In h.standing → IsRunningAt app c x → IsOfRoutine app c h.standing.at.block.0
        own_of source.Out e g = absurd g
        own_of (source.In y) e g = let same : y ≡ h.standing = cc (e) in subst (λ (z : RoutineStanding). IsOfRoutine app c z.at.block.0) same g.own

      stop : IsBefore app a known h.standing.at.block.0
      stop = before_expiry app a known h.standing.at.block.0 (own_tick app a known h.standing.at.block.0 own) h.past h.before

      kind_is : kind_at app n ≡ kind.Expire stop.alarm
      kind_is = ap (λ (p : Place). (the_block app p.block.0).kind) place ∙ stop.expires

      expires_there : (choice : Bool) → IsArmed (instruction app n choice).state → h.standing.at.block.0 ≡ last → ⊥
      expires_there choice still there = elim (cases_eq cycle 0) [
        | inl none ↦ (let ended = single_ends app n w active choice (alarm_no a) known at cycle armed is_due act none in cc (ended, still))
        | inr some ↦ (let anew = cyclic_rearms app n w active choice (alarm_no a) known at cycle armed is_due act some in
            let r = (instruction app n choice).state in
            let same : anew.0 ≡ at = (let f : Armed anew.0 cycle ≡ Armed at cycle = sym anew.1 ∙ still in cc (f)) in
            let left_cycle : left (max_of app a) (value_of app r a) at ≡ cycle = ap (left (max_of app a) (value_of app r a)) (sym same) ∙ anew.2 in
            let stood : value_of app r a ≡ value_of app n a = (rearms app n w active choice (alarm_no a) known at cycle armed is_due act).1 in
            let round = left_here (max_of app a) (value_of app r a) at (value ∙ sym stood) in
            let low = cycle_within app n w active choice (alarm_no a) known at cycle armed is_due act in
            omega (arith, left_cycle, round, low))
      ] where
        active : IsActive n.processor
        active = subst IsActive (sym is) tt

        act : kind_at app n ≡ kind.Expire (alarm_no a)
        act = kind_is ∙ ap kind.Expire (stop.at_last there)

      goes_on : (choice : Bool) → IsArmed (instruction app n choice).state → IsOnTheWay (instruction app n choice).state
      goes_on choice still = elim (cases_eq h.standing.at.block.0 last) [
        | inl there ↦ absurd (expires_there choice still there)
        | inr other ↦ record {
          standing = record h.standing { at = place_at (the_block app (here n).block.0).next 0 };
          stands = stands_next app n (source_no c) over is w h.standing h.stands (instruction app n choice).state (expired_on app n (source_no c) over is choice stop.alarm kind_is);
          past = let e = ap (λ (p : Place). (the_block app p.block.0).next.0) place in omega (arith, e, stop.goes_on, h.past);
          before = let e = ap (λ (p : Place). (the_block app p.block.0).next.0) place in omega (arith, e, stop.goes_on, h.before, other);
        }
      ]

    -- an instruction
    module _ (choice : Bool) (active : IsActive n.processor) (still : IsArmed (instruction app n choice).state) where
      of_another : ((over : Option TaskNo) → n.processor ≡ processor.Interrupted (source_no c) over → ⊥) → Comes (instruction app n choice).state
      of_another beside = elim (instruction_leaves app n (source_no c) beside inside choice w active) [
        | inl same ↦ inl (same_way n (instruction app n choice).state same h)
        | inr off ↦ inr off
      ]

      instructed : (p : Processor) → n.processor ≡ p → Comes (instruction app n choice).state
      instructed processor.Halted e = absurd (subst IsActive e active)
      instructed processor.Idle e = absurd (subst IsActive e active)
      instructed (processor.Running t) e = of_another (λ over f. cc (e, f))
      instructed (processor.Interrupted k over) e = elim (cases_eq k.0 c) [
        | inl same ↦ inl (goes_on over (e ∙ ap (λ (i : ℕ). processor.Interrupted (source_no i) over) same) choice still)
        | inr other ↦ of_another (λ o f. other (let g : k ≡ source_no c = cc (e, f) in ap (λ (l : SourceNo). l.0) g))
      ]

    others : (k : SourceNo) → arrival app n ≡ Some k → source_state (entered app n k) c ≡ source_state n c
    others k b = get_or-set_other n.sources k.0 c (source.In (begun app k.0)) source.Out (arrives_out app n k b c inside)

    -- one step
    step_comes : (e : Event) → IsArmed (step app n e).state → Comes (step app n e).state
    step_comes e = step_has app n (λ r. IsArmed r → Comes r) (λ _. inl h) (λ k _. inl (same_way n (with_latch n k true) refl h)) (λ k b _. inl (same_way n (entered app n k) (others k b) h))
        (λ choice active still. instructed choice active still n.processor refl) e

    -- which doesn't count
    no_count : IsCount app n c (kind_at app n) → ⊥
    no_count is =
        let at_it : IsAtProcessor n (Routine (source_no c)) = subst (IsAtProcessor n) is.routine (at_processor n) in
        let here_kind = kind_is at_it.0 at_it.1 in
        cc (here_kind, is.counts)

    still_value : (e : Event) → counter_value (step app n e).state c ≡ counter_value n c
    still_value e = elim (step_counter app n e c w) [
      | inl same ↦ same
      | inr counted ↦ absurd (no_count counted.0)
    ]

  no_counts : (s : State) (e : Event) → counter_value (step app s e).state c ≡ counter_value s c → counts_in app s e c ≡ false
  no_counts s e same = ap not (eq-eqb (counter_value (step app s e).state c) (counter_value s c) same)

  -- along a run in which it stays armed
  armed_first : (n : State) (es : List Event) → StaysAs app n a (Armed at cycle) es → IsArmed n
  armed_first n [] h = h
  armed_first n (e ∷ es) h = h.0

  abbrev one_if : Bool → ℕ
  one_if b = cond b 1 0

  no_more : (b : Bool) (count : ℕ) → b ≡ false → count ≡ 0 → one_if b + count ≡ 0
  no_more b count e f = let g : one_if b ≡ 0 = ap one_if e in omega (arith, f, g)

  none_along : (n : State) (es : List Event) → Well app n → Comes n → at ≡ value_of app n a → StaysAs app n a (Armed at cycle) es → counts app n c es ≡ 0
  none_along n [] w comes value stays = refl
  none_along n (e ∷ es) w (inl h) value stays =
      let same = still_value n w h stays.0 value e in
      no_more (counts_in app n e c) _ (no_counts n e same)
      (none_along (step app n e).state es (step_keeps app n e w) (step_comes n w h stays.0 value e (armed_first (step app n e).state es stays.1)) (value ∙ sym same) stays.1)
  none_along n (e ∷ es) w (inr off) value stays =
      let quiet = halted_stays app n off e in
      let same : counter_value (step app n e).state c ≡ counter_value n c = ap (λ (x : Stepped). counter_value x.state c) quiet.1 in
      no_more (counts_in app n e c) _ (no_counts n e same)
      (none_along (step app n e).state es (step_keeps app n e w) (inr (ap (λ (x : Stepped). x.state.processor) quiet.1 ∙ off)) (value ∙ sym same) stays.1)

  -- a count puts the tick routine on the way
  module _ (s : State) (e : Event) (w : Well app s) (counted : counts_in app s e c ≡ true) where
    not_same : counter_value (step app s e).state c ≡ counter_value s c → ⊥
    not_same same = false≢true (sym (no_counts s e same) ∙ counted)

    is_count : IsCount app s c (kind_at app s)
    is_count = elim (step_counter app s e c w) [
      | inl same ↦ absurd (not_same same)
      | inr h ↦ h.0
    ]

    at_it : IsAtProcessor s (Routine (source_no c))
    at_it = subst (IsAtProcessor s) is_count.routine (at_processor s)

    went_on : (step app s e).state.sources ≡ (moved_to s (the_block app (here s).block.0).next).sources
    went_on = elim (step_has app s (λ r. (counter_value r c ≡ counter_value s c) ⊎ (r.sources ≡ (moved_to s (the_block app (here s).block.0).next).sources)) (inl refl) (λ k. inl refl) (λ k b. inl refl)
        (λ choice active. inr (counted_on app s (source_no c) at_it.0 at_it.1 choice is_count.counts)) e) [
          | inl same ↦ absurd (not_same same)
          | inr h ↦ h
        ]

    on_the_way : (x : RoutineStanding) → source_state s c ≡ source.In x → IsOfRoutine app c x.at.block.0 → IsOnTheWay (step app s e).state
    on_the_way x stood own =
        let place = here_is app s (source_no c) at_it.0 at_it.1 w x stood in
        let among = own_tick app a known x.at.block.0 own in
        let counts_there : (the_block app x.at.block.0).kind ≡ kind.CountUp = ap (λ (p : Place). (the_block app p.block.0).kind) (sym place) ∙ is_count.counts in
        let here_first = counts_first app a known x.at.block.0 among counts_there in
        let onward = goes_on_first app a known x.at.block.0 among here_first in
        let n : (the_block app (here s).block.0).next.0 ≡ (the_block app x.at.block.0).next.0 = ap (λ (p : Place). (the_block app p.block.0).next.0) place in
        record {
          standing = record x { at = place_at (the_block app (here s).block.0).next 0 };
          stands = stands_next app s (source_no c) at_it.0 at_it.1 w x stood (step app s e).state went_on;
          past = omega (arith, n, onward, here_first);
          before = omega (arith, n, onward, here_first, after_count app a known);
        }

    by_source : (x : Source) → source_state s c ≡ x → IsRunningAt app c x → IsOnTheWay (step app s e).state
    by_source source.Out f h = absurd h
    by_source (source.In x) f h = on_the_way x f h.own

    pub none_before_expiry : (es : List Event) → IsDue app (step app s e).state a → StaysAs app (step app s e).state a (Armed at cycle) es → counts app (step app s e).state c es ≡ 0
    none_before_expiry es on stays =
        let r = (step app s e).state in
        let value : at ≡ value_of app r a = eqb-true at (value_of app r a) (sym (ap (λ (x : AlarmState). is_due_at (due x) (value_of app r a)) (armed_first r es stays)) ∙ on) in
        none_along r es (step_keeps app s e w) (inl (by_source (source_state s c) refl (routine_level_of app s (source_no c) at_it.0 w at_it.1).runs)) value stays
