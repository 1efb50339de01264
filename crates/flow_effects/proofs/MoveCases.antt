-- The cases of instructions that do nothing but go on are their effects.
use Rattle.std.proofs.Common.{◌≡◌, ℕ, ◌+◌, ◌-◌, ◌<◌, ◌≤◌, Bool, true, false, nat_lt, List, [], ◌∷◌, refl, sym, ap, subst, ◌∙◌, inl, inr, arith, Some, None}
use Rattle.std.specs.{Prelude.{if◌then◌else◌}, declared.option.Option.{Option}}
use Rattle.std.proofs.lemmas.Bool.{cases_Bool, cases_eq, cases_lt, Decides.{nat_tests}}
use Rattle.osek_values.specs.declared.{numbers.{TaskNo.{TaskNo}, BlockNo.{BlockNo}}, status.Status.{Status}}
use Rattle.osek_values.specs.declared.status.Ask.TheVariants as ask
use Rattle.osek_standard.specs.declared.{app.App.{App}, block.Kind.{Kind}}
use Rattle.osek_standard.specs.declared.block.Kind.TheVariants as kind
use Rattle.flow_effects.specs.CallNames as call
use Rattle.osek_standard.specs.declared.state.{State.{State}, Source.{Source}, Processor.{Processor}, Caller.{Caller, TheVariants.{Nobody, Task, Routine}}}
use Rattle.osek_standard.specs.declared.state.Source.TheVariants as source
use Rattle.osek_standard.specs.declared.state.Processor.TheVariants as processor
use Rattle.osek_standard.specs.declared.task_state.Place.{Place}
use Rattle.osek_standard.specs.declared.point.Point.TheVariants as point
use Rattle.osek_standard.specs.{Apps.{the_block, is_counter, tables}, Validity.{NamesEntries}, States.{here, caller, place_by, place_of_source, source_state}, Points.{point_of, StandsAt}}
use Rattle.osek_standard.specs.{Services.{unnoted, answer, counted_by, count_up}, Effects.{Effect, effect, noted, place_at, moved, moved_to, called, halted_by, shut_down}}
use Rattle.osek_standard.specs.{Line.{first_in_line}, Well.{Well, InOwner, IsActive, IsOffsetAt, IsProcessor, IsRunningAt}}
use Rattle.osek_standard.proofs.{BoolLaws.{either_way}, EffectKeeps.{effect_keeps}, Members.{Among, contained_among, among_contained}}
use Rattle.abstract_state.specs.declared.value.{Component.{Component}, PartValue.{PartValue, TheVariants.{OfTask, OfSource}}, Val.TheVariants.{Live}}
use Rattle.abstract_state.specs.declared.value.SourceVal.TheVariants as source_val
use Rattle.abstract_state.specs.declared.value.Component.TheVariants as component
use Rattle.abstract_state.specs.{declared.table.PlainEntry.{PlainEntry}, Components.{component_at, abstract_of, part_of, live_val, routine_val, source_value}}
use Rattle.abstract_state.proofs.Concretes.{some_quiet_at}
use Rattle.flow_model.specs.declared.case.EffectCase.{EffectCase}
use Rattle.flow_model.specs.declared.case.Asked.TheVariants as asked
use Rattle.flow_model.specs.declared.change.Update.TheVariants as update
use Rattle.flow_model.specs.declared.runner.Runner.{Runner}
use Rattle.flow_model.specs.declared.runner.Runner.TheVariants as runner
use Rattle.flow_model.specs.{Tests.{updated, PassesAll, value_after}, Runners.{Stands, OwnsBlock, runner_point, moving}, Values.{restacked_routine}}
use Rattle.flow_model.specs.{Effects.{AreIn, AreAllAllowed, HasEffect, ShowsEffect, IsKnownStay, HaveKnownStays, AreCasesOf}, Cases.{goes_on}}
use Rattle.flow_model.proofs.{ChangeLaws.{after_both, passes_none}, SourceTests.{source_value_is}, Standing.{is_active, next_owned, other_owned, owned_here, owned_point, point_there, stands_here}}
use Rattle.flow_model.proofs.{Instructions.{effect_there}, Moves.{change_here, change_there, moved_parts, moved_stands, went_on}}
use Rattle.flow_model.proofs.{Calls.{IsCall, asked_none, call_goes_on, call_has, has_effect}, Listing.{covers_by, exact_by, values_allowed}}
use Rattle.flow_services.proofs.ServiceListing.{operands_of}
use Rattle.flow_effects.specs.Moves.{stays, passes_by, onward, work_cases, choice_cases, all_ended, halts}
use Rattle.flow_effects.proofs.EndedSources.{IsNoSource, ended_part, halted_out}
use Rattle.flow_effects.proofs.Listed.{IsCase, are_cases, one_listed}
use Rattle.flow_services.proofs.Seeing.{task_value}
use Rattle.flow_effects.proofs.TaskValues.{stands_value}

-- of one case and of two
one_stays : (app : App) (x : EffectCase) → IsKnownStay app x.leaving.stay → (y : EffectCase) → Among y (x ∷ []) → IsKnownStay app y.leaving.stay
one_stays app x h y (inl e) = subst (λ (z : EffectCase). IsKnownStay app z.leaving.stay) (sym e) h
one_stays app x h y (inr none) = absurd none

two_stay : (app : App) (x y : EffectCase) → IsKnownStay app x.leaving.stay → IsKnownStay app y.leaving.stay → HaveKnownStays app (x ∷ y ∷ [])
two_stay app x y h k z m = elim (contained_among (x ∷ y ∷ []) z m) [
  | inl e ↦ one_stays app x h z (inl e)
  | inr n ↦ one_stays app y k z n
]

-- one case without conditions is each state's
module _ (app : App) (r : Runner) (b : BlockNo) (owns : OwnsBlock app r b) where
  pub one_case : (x : EffectCase) → x.conditions ≡ [] → IsCase app r b x → AreCasesOf app (runner_point r b) (x ∷ [])
  one_case x e h = are_cases app r b owns (x ∷ []) (one_listed app r b x h) (λ s stands. record {
    case = x;
    among = inl refl;
    passes = subst (λ xs. PassesAll app xs (abstract_of app s)) (sym e) (passes_none app (abstract_of app s));
  })

  -- a call that is refused whatever the values are, or that does nothing to the components
  pub goes_on_cases : (k : Kind) (status : Option Status) → IsCall app k → (the_block app b.0).kind ≡ k →
      ((s : State) → Stands app s r b → called app (moved_to s (the_block app b.0).next) (caller s.processor) k ≡ answer (moved_to s (the_block app b.0).next) status None ask.No) →
      AreCasesOf app (runner_point r b) (goes_on r (the_block app b.0).next [] asked.No status ∷ [])
  goes_on_cases k status call is answers = one_case (goes_on r (the_block app b.0).next [] asked.No status) refl
      (tt, λ s choice h passing. call_goes_on app s choice r b k [] asked.No status None ask.No call h is (answers s h) (asked_none app r k) passing tt)

-- what a tick's count does to the components
count_part : (app : App) (s : State) (c : ℕ) (k : Component) → part_of (count_up app s c) k ≡ part_of s k
unfolding count_up
count_part app s c (component.Task t) = refl
count_part app s c (component.Event t i) = refl
count_part app s c (component.Alarm a) = refl
count_part app s c (component.Source k) = refl

counted_parts : (app : App) (s : State) (c : Caller) (k : Component) → part_of (counted_by app s c) k ≡ part_of s k
counted_parts app s Nobody k = refl
counted_parts app s (Task t) k = refl
counted_parts app s (Routine j) k = either_way (λ (r : State). part_of r k ≡ part_of s k) (is_counter app j.0) (count_up app s j.0) s (count_part app s j.0 k) refl

counted_point : (app : App) (s : State) (c : Caller) → point_of (counted_by app s c) ≡ point_of s
unfolding count_up
counted_point app s Nobody = refl
counted_point app s (Task t) = refl
counted_point app s (Routine j) = either_way (λ (r : State). point_of r ≡ point_of s) (is_counter app j.0) (count_up app s j.0) s refl refl

-- who goes first in the line
first_parts : (s : State) (over : Option TaskNo) (k : Component) → part_of (first_in_line s over) k ≡ part_of s k
first_parts s None k = refl
first_parts s (Some t) (component.Task u) = refl
first_parts s (Some t) (component.Event u j) = refl
first_parts s (Some t) (component.Alarm a) = refl
first_parts s (Some t) (component.Source k) = refl

-- what a halt does, but for the routines
halted_parts : (s : State) (p : Processor) (k : Component) → IsNoSource k → part_of (halted_by s p) k ≡ part_of s k
halted_parts s processor.Halted k other = refl
halted_parts s processor.Idle (component.Task t) other = refl
halted_parts s processor.Idle (component.Event t j) other = refl
halted_parts s processor.Idle (component.Alarm a) other = refl
halted_parts s processor.Idle (component.Source k) other = absurd other
halted_parts s (processor.Running u) (component.Task t) other = refl
halted_parts s (processor.Running u) (component.Event t j) other = refl
halted_parts s (processor.Running u) (component.Alarm a) other = refl
halted_parts s (processor.Running u) (component.Source k) other = absurd other
halted_parts s (processor.Interrupted l over) (component.Task t) other = first_parts s over (component.Task t)
halted_parts s (processor.Interrupted l over) (component.Event t j) other = first_parts s over (component.Event t j)
halted_parts s (processor.Interrupted l over) (component.Alarm a) other = first_parts s over (component.Alarm a)
halted_parts s (processor.Interrupted l over) (component.Source k) other = absurd other

halted_point : (s : State) (p : Processor) → IsActive p → point_of (halted_by s p) ≡ point.Halted
halted_point s processor.Halted active = absurd active
halted_point s processor.Idle active = absurd active
halted_point s (processor.Running t) active = refl
halted_point s (processor.Interrupted k over) active = refl

-- so does a routine that stays
routine_stays : (app : App) (k : ℕ) (b : BlockNo) (x : Source) → IsRunningAt app k x → (place_of_source x).block ≡ b → restacked_routine (λ h. h) b (source_value x) ≡ source_value x
routine_stays app k b source.Out h e = absurd h
routine_stays app k b (source.In x) h e = ap (λ (c : BlockNo). source_val.In (routine_val c x.held)) (sym e)

-- a runner that stays keeps its value
stays_put : (app : App) (s : State) (r : Runner) (b : BlockNo) → Stands app s r b → (c : ℕ) → value_after (moving r b) c (abstract_of app s c) ≡ abstract_of app s c
stays_put app s (runner.Task t) b h c = elim (cases_eq c t.0) [
  | inl same ↦
      (let is : abstract_of app s c ≡ OfTask (Live (live_val b _ _ _)) = ap (abstract_of app s) same ∙ task_value app s t.0 h.runs.has.0 ∙ ap OfTask (stands_value app s t b h) in
      change_here t.0 (update.Block b) c (abstract_of app s c) same ∙ ap (updated (update.Block b)) is ∙ sym is)
  | inr other ↦ change_there t.0 (update.Block b) c (abstract_of app s c) other
]
stays_put app s (runner.Routine k z over) b h c = elim (cases_eq c z.0) [
  | inl same ↦
      (let has : IsProcessor app s (processor.Interrupted k over) = subst (IsProcessor app s) h.runs.runs h.well.processor in
      let at : (place_of_source (source_state s k.0)).block ≡ b = sym (ap (λ (p : Processor). (place_by s p).block) h.runs.runs) ∙ h.block in
      let is : abstract_of app s c ≡ OfSource (source_value (source_state s k.0)) = ap (abstract_of app s) (same ∙ h.runs.number) ∙ source_value_is app s k.0 h.runs.known in
      change_here z.0 (update.Block b) c (abstract_of app s c) same ∙ ap (updated (update.Block b)) is ∙ ap OfSource (routine_stays app k.0 b (source_state s k.0) has.runs at) ∙ sym is)
  | inr other ↦ change_there z.0 (update.Block b) c (abstract_of app s c) other
]

module _ (app : App) (r : Runner) (b : BlockNo) (owns : OwnsBlock app r b) where
  abbrev next : BlockNo
  next = (the_block app b.0).next

  abbrev AreCases : List EffectCase → Type 0
  AreCases cases = AreCasesOf app (runner_point r b) cases

  -- the runner goes on to a block
  on_to : (s : State) (choice : Bool) (n : BlockNo) → Stands app s r b → InOwner app s.processor n.0 → effect app s choice ≡ noted app (unnoted (moved_to s n) ask.No) → HasEffect app (passes_by r n) s choice
  on_to s choice n h own e = has_effect app (passes_by r n) s choice (noted app (unnoted (moved_to s n) ask.No)) e (passes_none app (abstract_of app s))
      (point_there app (moved_to s n) r n (went_on app s r b n h own)) (λ c lt. moved_parts app s n 0 r b h c lt) refl tt refl

  -- it stays, further in its block
  stays_at : (s : State) (choice : Bool) (o : ℕ) → Stands app s r b → IsOffsetAt (the_block app b.0).kind o → effect app s choice ≡ noted app (unnoted (moved s (place_at b o)) ask.No) → HasEffect app (stays r b) s choice
  stays_at s choice o h offset e = has_effect app (stays r b) s choice (noted app (unnoted (moved s (place_at b o)) ask.No)) e (passes_none app (abstract_of app s))
      (point_there app (moved s (place_at b o)) r b (moved_stands app s b o r b h (owned_here app s r b h) offset))
      (λ c lt. moved_parts app s b o r b h c lt ∙ stays_put app s r b h c) refl tt refl

  -- nothing is done at all
  pub idle_cases : ((s : State) (choice : Bool) → Stands app s r b → effect app s choice ≡ noted app (unnoted s ask.No)) → AreCases (stays r b ∷ [])
  idle_cases nothing = one_case app r b owns (stays r b) refl (
    tt,
    λ s choice h passing.
        has_effect app (stays r b) s choice (noted app (unnoted s ask.No)) (nothing s choice h) passing (point_there app s r b h) (λ c lt. refl) refl tt refl,
  )

  pub loop_cases : (the_block app b.0).kind ≡ kind.Loop → AreCases (onward r next)
  loop_cases is = goes_on_cases app r b owns kind.Loop None (λ s choice p x. refl) is (λ s h. refl)

  pub count_cases : (the_block app b.0).kind ≡ kind.CountUp → AreCases (onward r next)
  count_cases is = one_case app r b owns (passes_by r next) refl (
    tt,
    λ s choice h passing.
        let after : State = moved_to s next in
        let by : Caller = caller s.processor in
        call_has app (passes_by r next) s choice r b kind.CountUp (unnoted (counted_by app after by) ask.No) (λ s choice p x. refl) h is refl passing (record {
          point = counted_point app after by ∙ point_there app after r next (went_on app s r b next h (next_owned app s r b h));
          parts = λ c lt. counted_parts app after by (component_at app c) ∙ moved_parts app s next 0 r b h c lt;
          asked = asked_none app r kind.CountUp;
          kept = tt;
          line = tt;
          status = refl;
        }),
  )

  pub halt_cases : (the_block app b.0).kind ≡ kind.Call call.ShutdownOs → AreCases (halts app r next)
  halt_cases is = one_case app r b owns _ refl (
    tt,
    λ s choice h passing.
        let after : State = moved_to s next in
        let on = went_on app s r b next h (next_owned app s r b h) in
        let active = is_active app after r next on in
        let does : effect app s choice ≡ shut_down app after = effect_there app s r b (kind.Call call.ShutdownOs) choice h is in
        let well : Well app (halted_by after after.processor) = subst (λ (e : Effect). Well app e.state) does (effect_keeps app s h.well choice) in
        has_effect app _ s choice (shut_down app after) does passing
        (halted_point after after.processor active)
        (λ c lt. ended_part app after (halted_by after after.processor) (halted_out app after after.processor active well) (halted_parts after after.processor) c lt
        ∙ ap (value_after (all_ended app) c) (moved_parts app s next 0 r b h c lt)
        ∙ sym (after_both (moving r next) (all_ended app) c (abstract_of app s c))) refl tt refl,
  )

  module _ (other : BlockNo) (is : (the_block app b.0).kind ≡ kind.Choice other) where
    chosen : (s : State) (choice : Bool) → Stands app s r b → HasEffect app (passes_by r (if choice then next else other)) s choice
    chosen s true h = on_to s true next h (next_owned app s r b h) (effect_there app s r b (kind.Choice other) true h is)
    chosen s false h = on_to s false other h (other_owned app s r b h other is) (effect_there app s r b (kind.Choice other) false h is)

    either : (choice : Bool) → Among (passes_by r (if choice then next else other)) (choice_cases r next other)
    either true = inl refl
    either false = inr (inl refl)

    pub both_ways : AreCases (choice_cases r next other)
    both_ways = record {
      covering = covers_by app r b owns (choice_cases r next other) (λ s choice h. record {
        case = passes_by r (if choice then next else other);
        listed = among_contained (choice_cases r next other) _ (either choice);
        effect = chosen s choice h;
      });
      exact = exact_by app r b owns (choice_cases r next other) (λ x m. elim (contained_among (choice_cases r next other) x m) [
        | inl e ↦ (true, λ s h passing. subst (λ (y : EffectCase). HasEffect app y s true) (sym e) (chosen s true h))
        | inr (inl e) ↦ (false, λ s h passing. subst (λ (y : EffectCase). HasEffect app y s false) (sym e) (chosen s false h))
        | inr (inr n) ↦ absurd n
      ]);
      stays = two_stay app (passes_by r next) (passes_by r other) tt tt;
    }

  stands_point : (q : Runner) → StandsAt (runner_point q b) b
  stands_point (runner.Task t) = refl
  stands_point (runner.Routine k z over) = refl

  module _ (count : ℕ) (is : (the_block app b.0).kind ≡ kind.Work count) where
    work_effect : (s : State) (choice : Bool) → Stands app s r b → effect app s choice ≡ noted app (if nat_lt ((here s).offset + 1) count then unnoted (moved s (place_at (here s).block ((here s).offset + 1))) ask.No else unnoted (moved_to s next) ask.No)
    work_effect s choice h = effect_there app s r b (kind.Work count) choice h is

    offset_at : (o : ℕ) → o < count → IsOffsetAt (the_block app b.0).kind o
    offset_at o lt = subst (λ (k : Kind). IsOffsetAt k o) (sym is) lt

    does_one : (s : State) (choice : Bool) → Stands app s r b → (here s).offset + 1 < count → HasEffect app (stays r b) s choice
    does_one s choice h lt =
        let below_it : nat_lt ((here s).offset + 1) count ≡ true = grind (arith, nat_tests) in
        stays_at s choice ((here s).offset + 1) h (offset_at ((here s).offset + 1) lt)
        (work_effect s choice h ∙ ap (λ (t : Bool). noted app (if t then unnoted (moved s (place_at (here s).block ((here s).offset + 1))) ask.No else unnoted (moved_to s next) ask.No)) below_it
        ∙ ap (λ (c : BlockNo). noted app (unnoted (moved s (place_at c ((here s).offset + 1))) ask.No)) h.block)

    does_last : (s : State) (choice : Bool) → Stands app s r b → count ≤ (here s).offset + 1 → HasEffect app (passes_by r next) s choice
    does_last s choice h le =
        let past_it : nat_lt ((here s).offset + 1) count ≡ false = grind (arith, nat_tests) in
        on_to s choice next h (next_owned app s r b h)
        (work_effect s choice h ∙ ap (λ (t : Bool). noted app (if t then unnoted (moved s (place_at (here s).block ((here s).offset + 1))) ask.No else unnoted (moved_to s next) ask.No)) past_it)

    -- a state whose offset is chosen shows the case
    shown_at : (x : EffectCase) (value : ℕ → PartValue) (t : ℕ) (o : ℕ) → o < count → (entry : PlainEntry) → AreIn app entry value → AreAllAllowed app (runner_point r b) entry → ((s : State) → Stands app s r b → (here s).offset ≡ o → HasEffect app x s true) → ShowsEffect app (runner_point r b) x value t
    shown_at x value t o lt entry within all shows =
        let q = some_quiet_at app (runner_point r b) value (owned_point app r b owns) (values_allowed app (runner_point r b) entry value all within) t b o (stands_point r) (offset_at o lt) in
        record {
          from = q.0;
          choice = true;
          has = q.1.has;
          alone = q.1.quiet;
          first = q.1.first;
          effect = shows q.0 (stands_here app q.0 r b owns q.1.has.well q.1.has.regular q.1.has.point) (ap (λ (p : Place). p.offset) q.1.stands);
        }

    some_work : 0 < count
    some_work = subst (NamesEntries (tables app)) is (operands_of app r b owns)

    shows_last : (value : ℕ → PartValue) (t : ℕ) → (entry : PlainEntry) → AreIn app entry value → AreAllAllowed app (runner_point r b) entry → ShowsEffect app (runner_point r b) (passes_by r next) value t
    shows_last value t entry within all =
        let some = some_work in
        let last : count - 1 < count = omega (arith, some) in
        shown_at (passes_by r next) value t (count - 1) last entry within all (λ s h e. does_last s true h (omega (arith, e)))

    shows_one : 1 < count → (value : ℕ → PartValue) (t : ℕ) → (entry : PlainEntry) → AreIn app entry value → AreAllAllowed app (runner_point r b) entry → ShowsEffect app (runner_point r b) (stays r b) value t
    shows_one more value t entry within all =
        let first : 0 < count = omega (arith, more) in
        shown_at (stays r b) value t 0 first entry within all (λ s h e. does_one s true h (omega (arith, e, more)))

    several : 1 < count → AreCases (stays r b ∷ onward r next)
    several more =
        let cases : List EffectCase = stays r b ∷ onward r next in
        record {
          covering = covers_by app r b owns cases (λ s choice h. elim (cases_lt ((here s).offset + 1) count) [
            | inl below ↦ record { case = stays r b; listed = among_contained cases (stays r b) (inl refl); effect = does_one s choice h below }
            | inr above ↦ record { case = passes_by r next; listed = among_contained cases (passes_by r next) (inr (inl refl)); effect = does_last s choice h above }
          ]);
          exact = λ entry all x value t m within passing. elim (contained_among cases x m) [
            | inl e ↦ subst (λ (y : EffectCase). ShowsEffect app (runner_point r b) y value t) (sym e) (shows_one more value t entry within all)
            | inr (inl e) ↦ subst (λ (y : EffectCase). ShowsEffect app (runner_point r b) y value t) (sym e) (shows_last value t entry within all)
            | inr (inr n) ↦ absurd n
          ];
          stays = two_stay app (stays r b) (passes_by r next) tt tt;
        }

    single : count ≤ 1 → AreCases (onward r next)
    single one = record {
      covering = covers_by app r b owns (onward r next) (λ s choice h. record { case = passes_by r next; listed = among_contained (onward r next) (passes_by r next) (inl refl); effect = does_last s choice h (omega (arith, one)) });
      exact = λ entry all x value t m within passing. elim (contained_among (onward r next) x m) [
        | inl e ↦ subst (λ (y : EffectCase). ShowsEffect app (runner_point r b) y value t) (sym e) (shows_last value t entry within all)
        | inr n ↦ absurd n
      ];
      stays = λ x m. one_stays app (passes_by r next) tt x (contained_among (onward r next) x m);
    }

    pub all_work : AreCases (work_cases r b next count)
    all_work = elim (cases_Bool (nat_lt 1 count)) [
      | inl below_it ↦ (let more : 1 < count = grind (arith, nat_tests) in rw below_it (several more))
      | inr past_it ↦ (let one : count ≤ 1 = grind (arith, nat_tests) in rw past_it (single one))
    ]
