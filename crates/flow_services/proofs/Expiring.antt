-- The cases of an alarm that a tick routine looks at are those of its effect.
use Rattle.std.proofs.Common.{◌≡◌, ◌≢◌, ℕ, ◌<◌, Bool, true, false, List, [], ◌∷◌, ◌++◌, length, map, refl, sym, ap, subst, ◌∙◌, inl, inr, ⊎_elim, arith, None, append_assoc}
use Rattle.std.specs.Prelude.{if◌then◌else◌, ◌==◌, ◌+◌, ◌%◌}
use Rattle.std.proofs.lemmas.{Bool.{cases_Bool, ne_eqb}, List.{append-nil}}
use Rattle.osek_values.specs.Numbers.{alarm_no}
use Rattle.osek_values.specs.declared.status.Ask.TheVariants as ask
use Rattle.osek_values.specs.declared.numbers.BlockNo.{BlockNo}
use Rattle.oil_system.specs.declared.objects.Action.{Action}
use Rattle.oil_system.specs.declared.objects.Action.TheVariants as action
use Rattle.osek_standard.specs.declared.app.App.{App}
use Rattle.osek_standard.specs.declared.block.Kind.TheVariants as kind
use Rattle.osek_standard.specs.declared.state.{State.{State}, AlarmState.{AlarmState, TheVariants.{Idle, Armed}}, Processor.{Processor}}
use Rattle.osek_standard.specs.declared.state.Processor.TheVariants as processor
use Rattle.osek_standard.specs.{Apps.{tables, the_alarm, the_block, max_of, no_alarm}, Validity.{IsAction}, States.{alarm_state, with_alarm, counter_value}}
use Rattle.osek_standard.specs.{declared.point.Point.{Point}, Services.{Answer, due, is_due_at, value_of, rearmed, acted, asks_no, expire, unnoted}}
use Rattle.osek_standard.specs.{Effects.{moved_to, moved_by, place_at}, Arrivals.{arrival}}
use Rattle.osek_standard.proofs.Members.{Among, map_among, among_map, among_left, among_right, among_cases, contained_among, among_contained}
use Rattle.abstract_state.specs.declared.value.PartValue.{PartValue, TheVariants.{OfAlarm}}
use Rattle.abstract_state.specs.declared.value.Component.TheVariants as component
use Rattle.abstract_state.specs.{declared.table.PlainEntry.{PlainEntry}, Choices.{IsFirstIfThere, IsQuietWith}, Components.{component_count, component_number, abstract_of, is_armed}}
use Rattle.abstract_state.specs.Concrete.{HasParts, AreAllowed}
use Rattle.abstract_state.proofs.{Concretes.{some_quiet, some_armed, some_ticks, armed_once, armed_again}, Numbers.{number_known}, OrderLaws.{part_right}}
use Rattle.flow_model.specs.declared.{test.Condition.{Condition}, change.Change.{Change}, case.EffectCase.{EffectCase}}
use Rattle.flow_model.specs.declared.case.Asked.TheVariants as asked
use Rattle.flow_model.specs.{declared.runner.Runner.{Runner}, Runners.{Stands, OwnsBlock, runner_point, moving}, Tests.{PassesAll, value_after}}
use Rattle.flow_model.specs.{Effects.{AreIn, HasEffect, HasSomeEffect, LeavesLine, ShowsEffect, AreAllAllowed, AreCasesOf, IsKnownStay}, Changes.{alarm_change}}
use Rattle.flow_model.proofs.{ChangeLaws.{passes_left, passes_right, passes_both, passes_one, one_passes}, Writes.{alarm_written}}
use Rattle.flow_model.proofs.{Moves.{moved_alarms}, Standing.{point_there, stands_here, owned_point}, Calls.{IsCall, HasAnswer, call_has, asked_none}}
use Rattle.flow_model.proofs.Listing.{covers_by, values_allowed, made_passes}
use Rattle.flow_services.specs.{Occasions.{ServiceCase, case_at, last_of, puts_some, unnoted_case}, Services.{actions, alarm_is, looking, expiring, expiries}}
use Rattle.flow_services.proofs.{Seeing.{Sees, tests_alarm, alarm_tested}, Serving.{Serves, IsServed, Stays, point_stays, stay_there}, ActivationLaws.{activation_served}}
use Rattle.flow_services.proofs.{SettingEvents.{setting_served}, Calling.{moved_well, parts_after, sees_moved}}

counters_by : (s : State) (b : BlockNo) (p : Processor) → (moved_by s p (place_at b 0)).counters ≡ s.counters
counters_by s b processor.Halted = refl
counters_by s b processor.Idle = refl
counters_by s b (processor.Running t) = refl
counters_by s b (processor.Interrupted k over) = refl

abbrev is_due : App → State → ℕ → Bool
is_due app s a = is_due_at (due (alarm_state s a)) (value_of app s a)

idle_is_not_due : (y : AlarmState) (v : ℕ) → is_armed y ≡ false → is_due_at (due y) v ≡ false
idle_is_not_due Idle v e = refl
idle_is_not_due (Armed at cycle) v e = absurd (cc)

module _ (app : App) (s : State) (r : Runner) (b : BlockNo) (h : Stands app s r b) (a : ℕ) (known : a < length app.alarms) where
  abbrev next : BlockNo
  next = (the_block app b.0).next

  abbrev moved : State
  moved = moved_to s next

  abbrev fired : AlarmState → State
  fired y = with_alarm moved a y

  alarm_kept : alarm_state moved a ≡ alarm_state s a
  alarm_kept = ap (λ (xs : List AlarmState). alarm_state (record s { alarms = xs }) a) (moved_alarms app s h.well (place_at next 0))

  due_kept : is_due app moved a ≡ is_due app s a
  due_kept =
      ap (λ (y : AlarmState). is_due_at (due y) (value_of app moved a)) alarm_kept
      ∙ ap (λ (xs : List ℕ). is_due_at (due (alarm_state s a)) (counter_value (record s { counters = xs }) (the_alarm app a).counter.0)) (counters_by s next s.processor)

  here : a < length moved.alarms
  here = let long = (moved_well app s r b h).well.alarms_len in omega (arith, long, known)

  -- an answer that notes nothing
  quiet_case : (conditions : List Condition) → HasAnswer app (case_at (looking app r next) (unnoted_case conditions)) s r (kind.Expire (alarm_no a)) (unnoted moved ask.No)
  quiet_case conditions = record {
    point = point_there app moved r next (moved_well app s r b h);
    parts = λ c lt. parts_after app s r b h moved [] (λ d below. refl) c lt ∙ ap (λ (xs : List Change). value_after (xs ++ []) c (abstract_of app s c)) (sym (append-nil (moving r next)));
    asked = asked_none app r (kind.Expire (alarm_no a));
    kept = tt;
    line = tt;
    status = refl;
  }

  -- the answer of the action of an alarm that is due
  due_case : (y : AlarmState) (x : ServiceCase) (z : Answer) → Serves app (fired y) x z → HasAnswer app (case_at (expiring app r next a (is_armed y)) x) s r (kind.Expire (alarm_no a)) (asks_no z)
  due_case y x z serves = record {
    point = point_stays app moved z.state (stays_through serves.stays) (moved_well app s r b h).well ∙ point_there app moved r next (moved_well app s r b h);
    parts = λ c lt. parts_after app s r b h z.state (alarm_change app a (is_armed y) ∷ x.changes) (λ d below. serves.parts d below ∙ ap (value_after x.changes d) (alarm_written app moved a y here known d below)) c lt
        ∙ ap (λ (xs : List Change). value_after xs c (abstract_of app s c)) (sym (append_assoc (moving r next) (alarm_change app a (is_armed y) ∷ []) x.changes));
    asked = asked_none app r (kind.Expire (alarm_no a)) ∙ nothing (puts_some x.queued);
    kept = tt;
    line = nothing_left (puts_some x.queued);
    status = serves.status;
  }
    where
      stays_through : Stays (fired y) z.state → Stays moved z.state
      stays_through st = record { processor = st.processor; sources = st.sources; live = st.live }

      nothing : (may : Bool) → asked.No ≡ (if may then asked.No else asked.No)
      nothing true = refl
      nothing false = refl

      nothing_left : (may : Bool) → LeavesLine (if may then asked.No else asked.No) (last_of x.queued) s z.state
      nothing_left true = tt
      nothing_left false = tt

  fired_sees : (y : AlarmState) → Sees app s (fired y)
  fired_sees y = let sees = sees_moved app s r b h in record { size = sees.size; suspended = sees.suspended; waiting = sees.waiting; full = sees.full; absent = sees.absent; placed = sees.placed }

  acted_served : (y : AlarmState) (x : Action) → IsAction (tables app) x → IsServed app s (fired y) (actions app x) (acted app (fired y) x)
  acted_served y (action.ActivateTask t) is = activation_served app s (fired y) t.0 is (fired_sees y)
  acted_served y (action.SetEvent t m) is = setting_served app s (fired y) h.well t.0 m.0 is.0 (fired_sees y)

  action_served : (y : AlarmState) → IsServed app s (fired y) (actions app (the_alarm app a).action) (acted app (fired y) (the_alarm app a).action)
  action_served y = acted_served y (the_alarm app a).action (app.valid.each_alarm a no_alarm known).action

  module _ (is : (the_block app b.0).kind ≡ kind.Expire (alarm_no a)) where
    call : IsCall app (kind.Expire (alarm_no a))
    call = λ s choice p b. refl

    not_due : is_due app s a ≡ false → expire app moved a ≡ unnoted moved ask.No
    unfolding expire
    not_due e = ap (λ (f : Bool). if f then asks_no (acted app (fired (rearmed app a (alarm_state moved a))) (the_alarm app a).action) else unnoted moved ask.No) (due_kept ∙ e)

    fires : is_due app s a ≡ true → expire app moved a ≡ asks_no (acted app (fired (rearmed app a (alarm_state s a))) (the_alarm app a).action)
    unfolding expire
    fires e =
        ap (λ (f : Bool). if f then asks_no (acted app (fired (rearmed app a (alarm_state moved a))) (the_alarm app a).action) else unnoted moved ask.No) (due_kept ∙ e)
        ∙ ap (λ (y : AlarmState). asks_no (acted app (fired (rearmed app a y)) (the_alarm app a).action)) alarm_kept

    -- the effect where the alarm isn't due
    pub quiet_effect : (conditions : List Condition) (choice : Bool) → is_due app s a ≡ false → PassesAll app (conditions ++ []) (abstract_of app s) → HasEffect app (case_at (looking app r next) (unnoted_case conditions)) s choice
    quiet_effect conditions choice e passing = call_has app (case_at (looking app r next) (unnoted_case conditions)) s choice r b (kind.Expire (alarm_no a)) (unnoted moved ask.No) call h is (not_due e) passing (quiet_case conditions)

    -- and where it is
    pub due_effect : (again : Bool) (x : ServiceCase) (choice : Bool) → is_due app s a ≡ true → is_armed (rearmed app a (alarm_state s a)) ≡ again → Among x (actions app (the_alarm app a).action) →
        PassesAll app (case_at (expiring app r next a again) x).conditions (abstract_of app s) → HasEffect app (case_at (expiring app r next a again) x) s choice
    due_effect again x choice e armed among passing =
        let y = rearmed app a (alarm_state s a) in
        let z = acted app (fired y) (the_alarm app a).action in
        let pass : PassesAll app x.conditions (abstract_of app s) = passes_left app (abstract_of app s) x.conditions (alarm_is app a true ∷ []) passing in
        call_has app (case_at (expiring app r next a again) x) s choice r b (kind.Expire (alarm_no a)) (asks_no z) call h is (fires e) passing
        (subst (λ (f : Bool). HasAnswer app (case_at (expiring app r next a f) x) s r (kind.Expire (alarm_no a)) (asks_no z)) armed
        (due_case y x z ((action_served y).each x among pass)))

    abbrev all : List EffectCase
    all = expiries app r next a

    abbrev listed_actions : Bool → List EffectCase
    listed_actions again = map (case_at (expiring app r next a again)) (actions app (the_alarm app a).action)

    listed_due : (again : Bool) (x : EffectCase) → Among x (listed_actions again) → Among x all
    listed_due false x m = inr (inr (among_left x (listed_actions false) (listed_actions true) m))
    listed_due true x m = inr (inr (among_right x (listed_actions false) (listed_actions true) m))

    some_due : (again : Bool) (choice : Bool) → is_due app s a ≡ true → is_armed (alarm_state s a) ≡ true → is_armed (rearmed app a (alarm_state s a)) ≡ again → HasSomeEffect app all s choice
    some_due again choice e on armed =
        let some = (action_served (rearmed app a (alarm_state s a))).some in
        let x = case_at (expiring app r next a again) some.0 in
        let passing : PassesAll app x.conditions (abstract_of app s) = passes_both app (abstract_of app s) some.0.conditions (alarm_is app a true ∷ []) some.2 (passes_one app (abstract_of app s) (alarm_is app a true) (tests_alarm app s a known true on)) in
        record {
          case = x;
          listed = among_contained all x (listed_due again x (among_map (case_at (expiring app r next a again)) some.0 (actions app (the_alarm app a).action) some.1));
          effect = due_effect again some.0 choice e armed some.1 passing;
        }

    pub some_effect : (choice : Bool) → HasSomeEffect app all s choice
    some_effect choice = elim (cases_Bool (is_armed (alarm_state s a))) [
      | inr off ↦ record {
        case = case_at (looking app r next) (unnoted_case (alarm_is app a false ∷ []));
        listed = among_contained all _ (inl refl);
        effect = quiet_effect (alarm_is app a false ∷ []) choice (idle_is_not_due (alarm_state s a) (value_of app s a) off) (passes_one app (abstract_of app s) (alarm_is app a false) (tests_alarm app s a known false off));
      }
      | inl on ↦ elim (cases_Bool (is_due app s a)) [
        | inr doesnt ↦ record {
          case = case_at (looking app r next) (unnoted_case (alarm_is app a true ∷ []));
          listed = among_contained all _ (inr (inl refl));
          effect = quiet_effect (alarm_is app a true ∷ []) choice doesnt (passes_one app (abstract_of app s) (alarm_is app a true) (tests_alarm app s a known true on));
        }
        | inl does ↦ some_due (is_armed (rearmed app a (alarm_state s a))) choice does on refl
      ]
    ]

module _ (app : App) (r : Runner) (b : BlockNo) (owns : OwnsBlock app r b) (a : ℕ) (known : a < length app.alarms) (is : (the_block app b.0).kind ≡ kind.Expire (alarm_no a)) where
  abbrev cases : List EffectCase
  cases = expiries app r (the_block app b.0).next a

  module _ (entry : PlainEntry) (all : AreAllAllowed app (runner_point r b) entry) (value : ℕ → PartValue) (first : ℕ) (within : AreIn app entry value) where
    abbrev next_block : BlockNo
    next_block = (the_block app b.0).next

    abbrev p : Point
    p = runner_point r b

    allowed : AreAllowed app p value
    allowed = values_allowed app p entry value all within

    abbrev number : ℕ
    number = component_number app (component.Alarm (alarm_no a))

    counted : number < component_count app
    counted = number_known app (component.Alarm (alarm_no a)) known

    -- the alarm is armed by these values
    armed_value : PassesAll app (alarm_is app a true ∷ []) value → value number ≡ OfAlarm true
    armed_value passing = part_right (value number) (OfAlarm true) (one_passes app value (alarm_is app a true) passing counted)

    -- a state with these values is one that executes the block, and is of the entry
    module _ (s : State) (has : HasParts app p value s) (quiet : arrival app s ≡ None) (front : IsFirstIfThere first s) where
      shows_by : (x : EffectCase) → (Stands app s r b → HasEffect app x s true) → ShowsEffect app p x value first
      shows_by x effect = record { from = s; choice = true; has = has; alone = quiet; first = front; effect = effect (stands_here app s r b owns has.well has.regular has.point) }

    shows_idle : PassesAll app (alarm_is app a false ∷ []) value → ShowsEffect app p (case_at (looking app r next_block) (unnoted_case (alarm_is app a false ∷ []))) value first
    shows_idle passing =
        let q = some_quiet app p value (owned_point app r b owns) allowed first in
        let here : PassesAll app (alarm_is app a false ∷ []) (abstract_of app q.0) = made_passes app p value q.0 q.1.has (alarm_is app a false ∷ []) passing in
        let off : is_armed (alarm_state q.0 a) ≡ false = alarm_tested app q.0 a known false (one_passes app (abstract_of app q.0) (alarm_is app a false) here counted) in
        shows_by q.0 q.1.has q.1.quiet q.1.first (case_at (looking app r next_block) (unnoted_case (alarm_is app a false ∷ [])))
        (λ h. quiet_effect app q.0 r b h a known is (alarm_is app a false ∷ []) true (idle_is_not_due (alarm_state q.0 a) (value_of app q.0 a) off) here)

    -- with this time and cycle, at this value of the counter
    due_with : (s : State) (at cycle now : ℕ) → alarm_state s a ≡ Armed at cycle → counter_value s (the_alarm app a).counter.0 ≡ now → is_due app s a ≡ (at == now)
    due_with s at cycle now e v = ap (λ (y : AlarmState). is_due_at (due y) (value_of app s a)) e ∙ ap (λ (n : ℕ). at == n) v

    shows_armed : PassesAll app (alarm_is app a true ∷ []) value → ShowsEffect app p (case_at (looking app r next_block) (unnoted_case (alarm_is app a true ∷ []))) value first
    shows_armed passing =
        let most = some_ticks app a known in
        let q = some_armed app p value (owned_point app r b owns) allowed first a 1 0 0 known (armed_once app a known 1 most) (omega arith) in
        let not_yet : is_due app q.0 a ≡ false = due_with q.0 1 0 0 (q.1.armed (armed_value passing)) q.1.counter in
        shows_by q.0 q.1.has q.1.quiet q.1.first (case_at (looking app r next_block) (unnoted_case (alarm_is app a true ∷ [])))
        (λ h. quiet_effect app q.0 r b h a known is (alarm_is app a true ∷ []) true not_yet (made_passes app p value q.0 q.1.has (alarm_is app a true ∷ []) passing))

    module _ (x : ServiceCase) (among : Among x (actions app (the_alarm app a).action)) where
      alarm_passes : (again : Bool) → PassesAll app (case_at (expiring app r next_block a again) x).conditions value → PassesAll app (alarm_is app a true ∷ []) value
      alarm_passes again passing = passes_right app value x.conditions (alarm_is app a true ∷ []) passing

      shows_with : (again : Bool) (cycle : ℕ) (s : State) → IsQuietWith app p value first a 0 cycle 0 s → PassesAll app (case_at (expiring app r next_block a again) x).conditions value → is_armed (rearmed app a (Armed 0 cycle)) ≡ again → ShowsEffect app p (case_at (expiring app r next_block a again) x) value first
      shows_with again cycle s q passing armed =
          let at : alarm_state s a ≡ Armed 0 cycle = q.armed (armed_value (alarm_passes again passing)) in
          shows_by s q.has q.quiet q.first (case_at (expiring app r next_block a again) x)
          (λ h. due_effect app s r b h a known is again x true (due_with s 0 cycle 0 at q.counter) (ap (λ (y : AlarmState). is_armed (rearmed app a y)) at ∙ armed) among
          (made_passes app p value s q.has (case_at (expiring app r next_block a again) x).conditions passing))

      shows_due : (again : Bool) → PassesAll app (case_at (expiring app r next_block a again) x).conditions value → ShowsEffect app p (case_at (expiring app r next_block a again) x) value first
      shows_due false passing =
          let q = some_armed app p value (owned_point app r b owns) allowed first a 0 0 0 known (armed_once app a known 0 (omega arith)) (omega arith) in
          shows_with false 0 q.0 q.1 passing refl
      shows_due true passing =
          let most = some_ticks app a known in
          let q = some_armed app p value (owned_point app r b owns) allowed first a 0 (max_of app a) 0 known (armed_again app a known 0 (omega arith)) (omega arith) in
          let cyclic : max_of app a ≢ 0 = omega (arith, most) in
          shows_with true (max_of app a) q.0 q.1 passing (ap (λ (f : Bool). is_armed (if f then Idle else Armed ((0 + max_of app a) % (max_of app a + 1)) (max_of app a))) (ne_eqb (max_of app a) 0 cyclic))

    shows_listed : (x : EffectCase) → Among x cases → PassesAll app x.conditions value → ShowsEffect app p x value first
    shows_listed x (inl e) passing = subst (λ (y : EffectCase). ShowsEffect app p y value first) (sym e) (shows_idle (subst (λ (y : EffectCase). PassesAll app y.conditions value) e passing))
    shows_listed x (inr (inl e)) passing = subst (λ (y : EffectCase). ShowsEffect app p y value first) (sym e) (shows_armed (subst (λ (y : EffectCase). PassesAll app y.conditions value) e passing))
    shows_listed x (inr (inr m)) passing = ⊎_elim (of_action false) (of_action true) (among_cases x _ _ m)
      where
        of_action : (again : Bool) → Among x (map (case_at (expiring app r next_block a again)) (actions app (the_alarm app a).action)) → ShowsEffect app p x value first
        of_action again n =
            let g = map_among (case_at (expiring app r next_block a again)) x (actions app (the_alarm app a).action) n in
            subst (λ (y : EffectCase). ShowsEffect app p y value first) (sym g.2) (shows_due g.0 g.1 again (subst (λ (y : EffectCase). PassesAll app y.conditions value) g.2 passing))

  acts_stay : (again : Bool) (x : EffectCase) → Among x (map (case_at (expiring app r (the_block app b.0).next a again)) (actions app (the_alarm app a).action)) → IsKnownStay app x.leaving.stay
  acts_stay again x m = stay_there app (expiring app r (the_block app b.0).next a again) (actions app (the_alarm app a).action) x m

  each_stays : (x : EffectCase) → Among x cases → IsKnownStay app x.leaving.stay
  each_stays x (inl e) = subst (λ (y : EffectCase). IsKnownStay app y.leaving.stay) (sym e) tt
  each_stays x (inr (inl e)) = subst (λ (y : EffectCase). IsKnownStay app y.leaving.stay) (sym e) tt
  each_stays x (inr (inr m)) = ⊎_elim (acts_stay false x) (acts_stay true x) (among_cases x _ _ m)

  pub expiries_are_cases : AreCasesOf app (runner_point r b) cases
  expiries_are_cases = record {
    covering = covers_by app r b owns cases (λ s choice h. some_effect app s r b h a known is choice);
    exact = λ entry all x value t listed within passing. shows_listed entry all value t within x (contained_among cases x listed) passing;
    stays = λ x listed. each_stays x (contained_among cases x listed);
  }
