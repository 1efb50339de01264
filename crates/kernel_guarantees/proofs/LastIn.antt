-- Routines end last in, first out: what a routine interrupted stands as it stood until it ends, and then has the processor.
use Rattle.std.proofs.Common.{◌≡◌, ◌≢◌, ◌⊎◌, ℕ, ◌<◌, Bool, true, false, List, [], ◌∷◌, refl, sym, subst, ap, ◌∙◌, inl, inr, arith, Some, get_or-set_other}
use Rattle.std.proofs.lemmas.Bool.{cases_eq, false≢true}
use Rattle.std.specs.declared.option.Option.{Option}
use Rattle.osek_values.specs.declared.{event.Event.{Event}, numbers.{SourceNo.{SourceNo}, TaskNo.{TaskNo}}}
use Rattle.osek_values.specs.Numbers.{source_no}
use Rattle.osek_standard.specs.declared.{app.App.{App}, state.{State.{State}, Source.{Source}, Processor.{Processor}}}
use Rattle.osek_standard.specs.declared.task_state.{Activity.{Activity, TheVariants.{Suspended, Live, Waiting}}}
use Rattle.osek_standard.specs.{Apps.{is_routine_end, source_priority}, TaskStates.{held, held_in, is_live_activity}, States.{is_in, is_interrupted, place_in, source_state, task_of, task_state, with_latch}}
use Rattle.osek_standard.specs.{Arrivals.{arrival, begun, entered}, Dispatch.{instruction}, Kernel.{step}, Well.{AreOut, IsActive, IsProcessor, Well}}
use Rattle.osek_standard.specs.declared.state.Processor.TheVariants as processor
use Rattle.osek_standard.specs.declared.state.Source.TheVariants as source
use Rattle.osek_standard.specs.declared.block.Kind.{Kind}
use Rattle.osek_standard.specs.declared.block.Kind.TheVariants as kind
use Rattle.kernel_guarantees.proofs.CallNames as call
use Rattle.osek_standard.proofs.{ArrivalLaws.{arrival_is}, Callers.{routine_level_of}, StepKeeps.{instruction_keeps}}
use Rattle.kernel_guarantees.specs.{Nesting.{IsIn, IsNested, StaysIn}, Reached.{IsReached, after}, HookNotes.{is_halted}, Scheduling.{is_shutdown, kind_at}, TaskModel.{MayBecome}}
use Rattle.kernel_guarantees.proofs.{Nesting.{own_in_level, reached_is_nested, routine_in_level}, OtherRoutines.{instruction_leaves}, Reaching.{reached_is_well, step_has, step_is_reached}}
use Rattle.kernel_guarantees.proofs.{RoutineMoves.{IsOver, begins_none, keeps_or_ends}, TaskMoves.{instruction_stands, step_leaves}, Shutting.{halted_is, shutdown_kind}, Unlocked.{out_in, out_unless}}

module _ (app : App) where
  -- a routine that comes to begin is out, and those that are in are of lower priority
  pub arrives_above : (s : State) (k : SourceNo) → arrival app s ≡ Some k → (l : ℕ) → IsIn s l → source_priority app l < source_priority app k.0
  arrives_above s k a l inside =
      let above = (arrival_is app s k a).above in
      let own = own_in_level app l (source_state s l) inside in
      let low = routine_in_level app s l inside in
      omega (arith, above, own, low)

  pub arrives_out : (s : State) (k : SourceNo) → arrival app s ≡ Some k → (l : ℕ) → IsIn s l → l ≢ k.0
  arrives_out s k a l inside e = let low = arrives_above s k a l inside in omega (arith, low, ap (source_priority app) e)

  -- where a routine is in, one has the processor
  interrupted_by : (s : State) (p : Processor) → IsProcessor app s p → (k : ℕ) → IsIn s k → (j : SourceNo) × (over : Option TaskNo) × (p ≡ processor.Interrupted j over)
  interrupted_by s processor.Halted h k inside = absurd (out_in (source_state s k) (h k) inside)
  interrupted_by s processor.Idle h k inside = absurd (out_in (source_state s k) (h k) inside)
  interrupted_by s (processor.Running t) h k inside = absurd (out_in (source_state s k) (h.out k) inside)
  interrupted_by s (processor.Interrupted j over) h k inside = (j, over, refl)

  -- a Live task that others left stands where it stood, with what it held
  abbrev pub StandsAs : State → State → ℕ → Type 0
  StandsAs n s t = (place_in (task_state n t).activity ≡ place_in (task_state s t).activity) × (held (task_state n t) ≡ held (task_state s t))

  as_it_was : (t : ℕ) (a b : Activity) → is_live_activity a ≡ true → MayBecome app t a b → (place_in b ≡ place_in a) × (held_in b ≡ held_in a)
  as_it_was t Suspended b live h = absurd (false≢true live)
  as_it_was t (Live x) Suspended live h = absurd h
  as_it_was t (Live x) (Live y) live h = h
  as_it_was t (Live x) (Waiting c) live h = absurd h
  as_it_was t (Waiting c) b live h = absurd (false≢true live)

  module _ (s : State) (k : SourceNo) (a : arrival app s ≡ Some k) where
    -- what is so from when routine k begins until it ends
    pub record IsUnder (n : State) : Type 0 where
      pub below : (l : ℕ) → IsIn s l → source_state n l ≡ source_state s l
      pub current : task_of n.processor ≡ task_of s.processor
      pub stands : (t : TaskNo) → task_of s.processor ≡ Some t → StandsAs n s t.0
      pub above : (l : ℕ) → IsIn n l → l ≢ k.0 → IsIn s l ⊎ (source_priority app k.0 < source_priority app l)

    begun_under : IsUnder (entered app s k)
    begun_under = record {
      below = λ l inside. get_or-set_other s.sources k.0 l (source.In (begun app k.0)) source.Out (arrives_out s k a l inside);
      current = refl;
      stands = λ t e. (refl, refl);
      above = λ l inside other. inl (subst (λ (x : Source). is_in x ≡ true) (get_or-set_other s.sources k.0 l (source.In (begun app k.0)) source.Out other) inside);
    }

    module _ (n : State) (w : Well app n) (nested : IsNested app n) (h : IsUnder n) (here : IsIn n k.0) where
      abbrev UnderOr : State → Type 0
      UnderOr r = IsIn r k.0 → IsUnder r

      another_begins : (j : SourceNo) → arrival app n ≡ Some j → UnderOr (entered app n j)
      another_begins j b _ = record {
        below = λ l inside.
            let still : IsIn n l = subst (λ (x : Source). is_in x ≡ true) (sym (h.below l inside)) inside in
            get_or-set_other n.sources j.0 l (source.In (begun app j.0)) source.Out (arrives_out n j b l still) ∙ h.below l inside;
        current = h.current;
        stands = h.stands;
        above = λ l inside other. elim (cases_eq l j.0) [
          | inl same ↦ inr (subst (λ (v : ℕ). source_priority app k.0 < source_priority app v) (sym same) (arrives_above n j b k.0 here))
          | inr beside ↦ h.above l (subst (λ (x : Source). is_in x ≡ true) (get_or-set_other n.sources j.0 l (source.In (begun app j.0)) source.Out beside) inside) other
        ];
      }

      module _ (p : SourceNo) (over : Option TaskNo) (is : n.processor ≡ processor.Interrupted p over) (choice : Bool) where
        abbrev r : State
        r = (instruction app n choice).state

        active : IsActive n.processor
        active = subst IsActive (sym is) tt

        v : Well app r
        v = instruction_keeps app n choice w

        -- who has the processor isn't one of those that were in before k
        not_below : (l : ℕ) → IsIn s l → l ≢ p.0
        not_below l inside e = let low = arrives_above s k a l inside in let great = nested.greatest p over k.0 is here in omega (arith, low, great, ap (source_priority app) e)

        same_below : IsIn r k.0 → (l : ℕ) → IsIn s l → source_state r l ≡ source_state s l
        same_below still l inside =
            let was : IsIn n l = subst (λ (x : Source). is_in x ≡ true) (sym (h.below l inside)) inside in
            elim (instruction_leaves app n (source_no l) (λ o f. not_below l inside (let same : source_no l ≡ p = cc (f, is) in ap (λ (q : SourceNo). q.0) same)) was choice w active) [
              | inl same ↦ same ∙ h.below l inside
              | inr off ↦ absurd (out_in (source_state r k.0) ((subst (IsProcessor app r) off v.processor) k.0) still)
            ]

        same_current : IsIn r k.0 → task_of r.processor ≡ over
        same_current still = elim (keeps_or_ends app n p over is choice w) [
          | inl e ↦ ap task_of e
          | inr ended ↦ (let at = interrupted_by r r.processor v.processor k.0 still in ap task_of at.2 ∙ subst (IsOver over) at.2 ended.1)
        ]

        instructed_under : UnderOr r
        instructed_under still = record {
          below = same_below still;
          current = same_current still ∙ sym (ap task_of is) ∙ h.current;
          stands = λ t e.
              let now : over ≡ Some t = sym (ap task_of is) ∙ h.current ∙ e in
              let at : n.processor ≡ processor.Interrupted p (Some t) = is ∙ ap (processor.Interrupted p) now in
              let live = (routine_level_of app n p (Some t) w at).over.1 in
              let was = h.stands t e in
              let kept = as_it_was t.0 (task_state n t.0).activity (task_state r t.0).activity live (instruction_stands app n t (λ f. cc (at, f)) choice w active) in
              (kept.0 ∙ was.0, kept.1 ∙ was.1);
          above = λ l inside other. h.above l (begins_none app n choice w active l inside) other;
        }

      latched_under : (m : ℕ) → UnderOr (with_latch n m true)
      latched_under m _ = record { below = h.below; current = h.current; stands = h.stands; above = h.above }

      step_under : (e : Event) → UnderOr (step app n e).state
      step_under e = step_has app n UnderOr (λ _. h) latched_under another_begins
          (λ choice active. let at = interrupted_by n n.processor w.processor k.0 here in instructed_under at.0 at.1 at.2 choice) e

    now_in : (n : State) (es : List Event) → StaysIn app n k.0 es → IsIn n k.0
    now_in n [] h = h
    now_in n (e ∷ es) h = h.0

    under_along : (n : State) (es : List Event) → IsReached app n → IsUnder n → StaysIn app n k.0 es → IsUnder (after app n es)
    under_along n [] reached h stays = h
    under_along n (e ∷ es) reached h stays =
        under_along (step app n e).state es (step_is_reached app n e reached)
        (step_under n (reached_is_well app n reached) (reached_is_nested app n reached) h stays.0 e (now_in (step app n e).state es stays.1)) stays.1

    pub stays_under : (es : List Event) → IsReached app (entered app s k) → StaysIn app (entered app s k) k.0 es → IsUnder (after app (entered app s k) es)
    stays_under es reached stays = under_along (entered app s k) es reached begun_under stays

-- an instruction over an interrupted task leaves it current as long as a routine has the processor
module _ (app : App) (s : State) (w : Well app s) (k : SourceNo) (over : Option TaskNo) (is : s.processor ≡ processor.Interrupted k over) where
  abbrev StillOver : State → Type 0
  StillOver r = is_interrupted r.processor ≡ true → task_of r.processor ≡ over

  over_same : (p : Processor) → IsOver over p → is_interrupted p ≡ true → task_of p ≡ over
  over_same processor.Halted h e = absurd (false≢true e)
  over_same processor.Idle h e = absurd (false≢true e)
  over_same (processor.Running t) h e = absurd (false≢true e)
  over_same (processor.Interrupted j o) h e = h

  instruction_over : (choice : Bool) → StillOver (instruction app s choice).state
  instruction_over choice e = elim (keeps_or_ends app s k over is choice w) [
    | inl still ↦ ap task_of still
    | inr ended ↦ over_same (instruction app s choice).state.processor ended.1 e
  ]

  pub step_over : (e : Event) → StillOver (step app s e).state
  step_over e = step_has app s StillOver (λ _. ap task_of is) (λ j _. ap task_of is) (λ j a _. ap task_of is) (λ choice active. instruction_over choice) e

  -- where no routine has the processor after it, it was the last one's end, or ShutdownOS
  abbrev IsLastEnd : Type 0
  IsLastEnd = ((kind_at app s ≡ kind.IsrEnd) × ((l : ℕ) → IsIn s l → l ≡ k.0)) ⊎ (kind_at app s ≡ kind.Call call.ShutdownOs)

  abbrev LeftOr : State → Type 0
  LeftOr r = is_interrupted r.processor ≡ false → IsLastEnd

  end_kind : (x : Kind) → is_routine_end x ≡ true → x ≡ kind.IsrEnd
  end_kind kind.IsrEnd e = refl
  end_kind _ e = absurd (false≢true e)

  not_at : (p : Processor) → is_interrupted p ≡ false → (j : SourceNo) (o : Option TaskNo) → p ≡ processor.Interrupted j o → ⊥
  not_at p e j o f = false≢true (sym e ∙ ap is_interrupted f)

  instruction_last : (choice : Bool) → LeftOr (instruction app s choice).state
  instruction_last choice none = elim (keeps_or_ends app s k over is choice w) [
    | inl still ↦ absurd (not_at r.processor none k over still)
    | inr ended ↦ elim ended.2 [
      | inl at ↦ inl (end_kind (kind_at app s) at, λ l inside. only l at inside (cases_eq l k.0))
      | inr off ↦ inr (shutdown_kind (kind_at app s) off)
    ]
  ] where
    r : State
    r = (instruction app s choice).state

    active : IsActive s.processor
    active = subst IsActive (sym is) tt

    v : Well app r
    v = instruction_keeps app s choice w

    out : AreOut app r
    out = out_unless app r r.processor v.processor (not_at r.processor none)

    never_halts : is_routine_end (kind_at app s) ≡ true → r.processor ≡ processor.Halted → ⊥
    never_halts at halted = false≢true (sym (ap is_shutdown (end_kind (kind_at app s) at)) ∙ sym (halted_is app s w active choice) ∙ ap is_halted halted)

    only : (l : ℕ) → is_routine_end (kind_at app s) ≡ true → IsIn s l → (l ≡ k.0) ⊎ (l ≢ k.0) → l ≡ k.0
    only l at inside (inl same) = same
    only l at inside (inr other) = absurd (elim (instruction_leaves app s (source_no l) (λ o f. other (let g : k ≡ source_no l = cc (is, f) in sym (ap (λ (j : SourceNo). j.0) g))) inside choice w active) [
      | inl same ↦ out_in (source_state r l) (out l) (subst (λ (x : Source). is_in x ≡ true) (sym same) inside)
      | inr halted ↦ never_halts at halted
    ])

  pub step_last : (e : Event) → LeftOr (step app s e).state
  step_last e = step_has app s LeftOr (λ f. absurd (not_at s.processor f k over is)) (λ j f. absurd (not_at s.processor f k over is)) (λ j a f. absurd (false≢true (sym f))) (λ choice active. instruction_last choice) e

module _ (app : App) (s : State) (w : Well app s) (k : SourceNo) (t : TaskNo) (is : s.processor ≡ processor.Interrupted k (Some t)) where
  pub step_stands : (e : Event) → StandsAs app (step app s e).state s t.0
  step_stands e = as_it_was app t.0 (task_state s t.0).activity (task_state (step app s e).state t.0).activity (routine_level_of app s k (Some t) w is).over.1 (step_leaves app s t (λ f. cc (is, f)) e w)
