-- The cases of the end of a routine are its effects.
use Rattle.std.proofs.Common.{◌≡◌, ◌≢◌, ℕ, ◌<◌, ◌&&◌, not, Bool, true, List, ◌∷◌, length, map, refl, sym, ap, subst, ◌∙◌, inl, inr, arith, Some, None, IfSome, get_or-set_same, get_or-set_other}
use Rattle.std.proofs.Math.ListN.{length-set}
use Rattle.std.proofs.lemmas.{Bool.{and_from, and_parts, cases_Bool, cases_eq, cases_lt, eq-eqb, false≢true, ne_eqb}, List.{get_or_past}}
use Rattle.std.specs.{Prelude.{◌==◌}, declared.option.Option.{Option}}
use Rattle.osek_values.specs.{Numbers.{source_no}, declared.numbers.{TaskNo.{TaskNo}, BlockNo.{BlockNo}, SourceNo.{SourceNo}}}
use Rattle.osek_values.specs.declared.status.Ask.TheVariants as ask
use Rattle.oil_system.specs.declared.objects.Schedule.{Schedule, TheVariants.{Non, Full}}
use Rattle.osek_standard.specs.declared.app.App.{App}
use Rattle.osek_standard.specs.declared.point.Point.TheVariants as point
use Rattle.osek_standard.specs.declared.block.Kind.TheVariants as kind
use Rattle.osek_standard.specs.declared.state.{State.{State}, Source.{Source}, Processor.{Processor}}
use Rattle.osek_standard.specs.declared.state.Source.TheVariants as source
use Rattle.osek_standard.specs.declared.state.Processor.TheVariants as processor
use Rattle.osek_standard.specs.{Apps.{the_task, the_block, source_count}, States.{is_in, source_state, with_processor, with_source}, Services.{unnoted}, Levels.{comes_before, next_routine}}
use Rattle.osek_standard.specs.{Effects.{effect, noted, asked_over, returned_by, returned_to}, Well.{AreOut}}
use Rattle.osek_standard.specs.Effects.{given_back as gives_back}
use Rattle.osek_standard.proofs.NestLaws.{IsNext, entered_known, is_next, next_is, none_next as all_out_where_none, source_orders}
use Rattle.osek_standard.proofs.Members.{Among, among_map, among_passing, map_among, passing_among}
use Rattle.abstract_state.specs.declared.value.{ComponentNo.{ComponentNo}, PartValue.TheVariants.{OfSource}}
use Rattle.abstract_state.specs.declared.value.SourceVal.TheVariants as source_val
use Rattle.abstract_state.specs.Components.{abstract_of, component_at, component_count}
use Rattle.abstract_state.proofs.{ComponentLaws.{processor_part}, OrderLaws.{part_itself}}
use Rattle.flow_model.specs.declared.{test.Condition.{Condition}, case.EffectCase.{EffectCase}, runner.Runner.{Runner}}
use Rattle.flow_model.specs.declared.case.Asked.TheVariants as asked
use Rattle.flow_model.specs.declared.change.Update.TheVariants as update
use Rattle.flow_model.specs.declared.test.Test.TheVariants as test
use Rattle.flow_model.specs.declared.runner.Runner.TheVariants as runner
use Rattle.flow_model.specs.{Runners.{Stands, OwnsBlock, IsRunnerOf, routine_runner, runner_point}, Effects.{Asks, HasEffect, IsKnownStay}, Tests.{passes, PassesAll, value_after}, Cases.{asked_under}}
use Rattle.flow_model.proofs.{ChangeLaws.{each_passes, passes_each}, Instructions.{effect_there}, Moves.{source_parts}, SourceTests.{out_there, source_counted, tests_in, tests_out}, Calls.{has_effect, same_line}}
use Rattle.flow_effects.specs.{Conditions.{of_source}, Returns.{are_out, before, ended, given_back, last_return, may_be_in, nested, nested_return, others, return_cases}}
use Rattle.flow_effects.specs.Outs.{is_known_out, AreOutBy, AreCasesWith}
use Rattle.flow_effects.proofs.{Listed.{IsCase, IsEffect, IsTaken, AreListed, are_cases_with, cases_with, more_listed}, MoveCases.{idle_cases}}

asks_over : (app : App) (s : State) (t : TaskNo) (x : Schedule) → Asks (asked_under t x) (noted app (unnoted (with_processor s (processor.Running t)) (asked_over x)))
asks_over app s t Full = (refl, refl)
asks_over app s t Non = refl

none_next : (app : App) (s : State) → AreOut app s → (o : Option SourceNo) → next_routine app s ≡ o → o ≡ None
none_next app s out None e = refl
none_next app s out (Some k) e = (let h = next_is app s k e in absurd (false≢true (sym (ap is_in (out k.0)) ∙ h.began)))

module _ (app : App) (b : BlockNo) (is : (the_block app b.0).kind ≡ kind.IsrEnd) where
  return_effect : (r : Runner) (s : State) (choice : Bool) (p : Processor) → Stands app s r b → s.processor ≡ p → effect app s choice ≡ noted app (returned_by app s p)
  return_effect r s choice p h e = effect_there app s r b kind.IsrEnd choice h is ∙ ap (λ (q : Processor). noted app (returned_by app s q)) e

  module _ (k : SourceNo) (z : ComponentNo) (over : Option TaskNo) (owns : OwnsBlock app (runner.Routine k z over) b) where
    abbrev r : Runner
    r = runner.Routine k z over

    abbrev after : State → State
    after s = with_source s k.0 source.Out

    there : (s : State) → Stands app s r b → k.0 < length s.sources
    there s h = omega (arith, owns.known, h.well.sources_len)

    -- ---- the sources beside it

    other_state : (s : State) (l : ℕ) → l ≢ k.0 → source_state (after s) l ≡ source_state s l
    other_state s l other = get_or-set_other s.sources k.0 l source.Out source.Out other

    ended_state : (s : State) → Stands app s r b → source_state (after s) k.0 ≡ source.Out
    ended_state s h = get_or-set_same s.sources k.0 source.Out source.Out (there s h)

    still_in : (s : State) (l : ℕ) → Stands app s r b → is_in (source_state (after s) l) ≡ true → (l ≢ k.0) × (l < source_count app)
    still_in s l h e =
        let known : l < length (after s).sources = entered_known app (after s) l e in (
          λ same. false≢true (sym (ap is_in (ap (source_state (after s)) same ∙ ended_state s h)) ∙ e),
          elim (cases_lt l (source_count app)) [
            | inl lt ↦ lt
            | inr past ↦ absurd (false≢true (sym (ap is_in (get_or_past (after s).sources l source.Out (omega (arith, past, after_len s h)))) ∙ e))
          ],
        )
      where
        after_len : (s : State) → Stands app s r b → length (after s).sources ≡ source_count app
        after_len s h = length-set s.sources k.0 source.Out ∙ h.well.sources_len

    others_known : (l : ℕ) → Among l (others app k) → (l ≢ k.0) × (l < source_count app)
    others_known l m =
        let p = passing_among (λ (n : ℕ). not (n == k.0)) (source_count app) l m in
        (λ same. false≢true (sym (ap not (eq-eqb l k.0 same)) ∙ p.0), p.1)

    among_others : (l : ℕ) → l ≢ k.0 → l < source_count app → Among l (others app k)
    among_others l other lt = among_passing (λ (n : ℕ). not (n == k.0)) (source_count app) l lt (ap not (ne_eqb l k.0 other))

    -- of sources that are out by their conditions each is out
    abbrev out_condition : ℕ → Condition
    out_condition l = of_source app l (test.Is (OfSource source_val.Out))

    out_by : (s : State) (ls : List ℕ) → PassesAll app (are_out app ls) (abstract_of app s) → (l : ℕ) → Among l ls → l < source_count app → source_state s l ≡ source.Out
    out_by s ls passing l m lt =
        out_there app s l lt (each_passes app (abstract_of app s) (are_out app ls) passing (out_condition l) (among_map out_condition l ls m) (source_counted app s l lt))

    by_out : (s : State) (ls : List ℕ) → ((l : ℕ) → Among l ls → (l < source_count app) × (source_state s l ≡ source.Out)) → PassesAll app (are_out app ls) (abstract_of app s)
    by_out s ls each = passes_each app (abstract_of app s) (are_out app ls) (λ x m.
        let back = map_among out_condition x ls m in
        let h = each back.0 back.1 in
        subst (λ (y : Condition). passes y.test (abstract_of app s y.component.0) ≡ true) (sym back.2) (tests_out app s back.0 h.0 ∙ ap (λ (y : Source). not (is_in y)) h.1))

    -- ---- the effect

    returns_as : (s : State) (choice : Bool) (o : Option SourceNo) → Stands app s r b → next_routine app (after s) ≡ o → effect app s choice ≡ noted app (returned_to app (after s) over o)
    returns_as s choice o h e = return_effect r s choice (processor.Interrupted k over) h h.runs.runs ∙ ap (λ (p : Option SourceNo). noted app (returned_to app (after s) over p)) e

    ended_parts : (s : State) (p : Processor) → Stands app s r b → (c : ℕ) → c < component_count app → abstract_of app (with_processor (after s) p) c ≡ value_after (ended z) c (abstract_of app s c)
    ended_parts s p h c lt =
        processor_part (after s) p (component_at app c)
        ∙ source_parts app s k.0 source.Out (there s h) owns.known (update.Set (OfSource source_val.Out)) z.0 owns.number refl c lt

    -- no other routine is in
    all_out : (s : State) → Stands app s r b → PassesAll app (are_out app (others app k)) (abstract_of app s) → AreOut app (after s)
    all_out s h passing l = elim (cases_eq l k.0) [
      | inl same ↦ ap (source_state (after s)) same ∙ ended_state s h
      | inr other ↦ elim (cases_lt l (source_count app)) [
        | inl lt ↦ other_state s l other ∙ out_by s (others app k) passing l (among_others l other lt) lt
        | inr past ↦ other_state s l other ∙ get_or_past s.sources l source.Out (omega (arith, past, h.well.sources_len))
      ]
    ]

    last_by : (o : Option TaskNo) → over ≡ o → (s : State) (choice : Bool) → Stands app s r b → effect app s choice ≡ noted app (gives_back app (after s) over) → PassesAll app (are_out app (others app k)) (abstract_of app s) →
        HasEffect app (last_return app k z over) s choice
    last_by None e s choice h does passing = subst (λ (o : Option TaskNo). HasEffect app (last_return app k z o) s choice) (sym e)
        (has_effect app (last_return app k z None) s choice (noted app (unnoted (with_processor (after s) processor.Idle) ask.Free))
        (does ∙ ap (λ (o : Option TaskNo). noted app (gives_back app (after s) o)) e) passing refl (ended_parts s processor.Idle h) (refl, refl)
        (same_line asked.Free s (with_processor (after s) processor.Idle) refl) refl)
    last_by (Some t) e s choice h does passing = subst (λ (o : Option TaskNo). HasEffect app (last_return app k z o) s choice) (sym e)
        (has_effect app (last_return app k z (Some t)) s choice (noted app (unnoted (with_processor (after s) (processor.Running t)) (asked_over (the_task app t.0).schedule)))
        (does ∙ ap (λ (o : Option TaskNo). noted app (gives_back app (after s) o)) e) passing refl (ended_parts s (processor.Running t) h)
        (asks_over app (after s) t (the_task app t.0).schedule)
        (same_line (asked_under t (the_task app t.0).schedule) s (with_processor (after s) (processor.Running t)) refl) refl)

    last_is : IsEffect app r b (last_return app k z over)
    last_is s choice h passing =
        let none : next_routine app (after s) ≡ None = none_next app (after s) (all_out s h passing) (next_routine app (after s)) refl in
        last_by over refl s choice h (returns_as s choice None h none) passing

    -- the routine of source x goes on
    module _ (x : ℕ) (known : x < source_count app) (beside : x ≢ k.0) where
      abbrev goes_on_to : EffectCase
      goes_on_to = nested_return app k z over x

      abbrev in_condition : Condition
      in_condition = of_source app x (test.IsNot (OfSource source_val.Out))

      abbrev comes_first : ℕ → Bool
      comes_first l = not (l == k.0) && (comes_before app l x && not (l == x))

      is_there : (s : State) → PassesAll app goes_on_to.conditions (abstract_of app s) → is_in (source_state s x) ≡ true
      is_there s passing = sym (tests_in app s x known) ∙ each_passes app (abstract_of app s) goes_on_to.conditions passing in_condition (inl refl) (source_counted app s x known)

      outs : (s : State) → PassesAll app goes_on_to.conditions (abstract_of app s) → PassesAll app (are_out app (before app k x)) (abstract_of app s)
      outs s passing = passes_each app (abstract_of app s) (are_out app (before app k x)) (λ y m.
          let back = map_among out_condition y (before app k x) m in
          let lt = (passing_among comes_first (source_count app) back.0 back.1).1 in
          each_passes app (abstract_of app s) goes_on_to.conditions passing y (inr m) (subst (λ (w : Condition). w.component.0 < component_count app) (sym back.2) (source_counted app s back.0 lt)))

      goes_first : (s : State) → Stands app s r b → PassesAll app goes_on_to.conditions (abstract_of app s) → IsNext app (after s) x
      goes_first s h passing = record {
        began = ap is_in (other_state s x beside) ∙ is_there s passing;
        before_each = λ l e.
            (let at = still_in s l h e in
            elim ((source_orders app).either x l) [
              | inl first ↦ first
              | inr later ↦ elim (cases_eq l x) [
                | inl same ↦ subst (λ (n : ℕ). comes_before app n l ≡ true) same (subst (λ (n : ℕ). comes_before app l n ≡ true) (sym same) later)
                | inr differs ↦
                    (let ahead : comes_first l ≡ true = and_from (not (l == k.0)) (comes_before app l x && not (l == x)) (ap not (ne_eqb l k.0 at.0))
                    (and_from (comes_before app l x) (not (l == x)) later (ap not (ne_eqb l x differs))) in
                    let out = out_by s (before app k x) (outs s passing) l (among_passing comes_first (source_count app) l at.1 ahead) at.1 in
                    absurd (false≢true (sym (ap is_in (other_state s l at.0 ∙ out)) ∙ e)))
              ]
            ]);
      }

      nested_is : IsEffect app r b goes_on_to
      nested_is s choice h passing =
          let next : next_routine app (after s) ≡ Some (source_no x) = is_next app (after s) x (goes_first s h passing) in
          has_effect app goes_on_to s choice (noted app (unnoted (with_processor (after s) (processor.Interrupted (source_no x) over)) ask.No))
          (returns_as s choice (Some (source_no x)) h next) passing refl (ended_parts s (processor.Interrupted (source_no x) over) h) refl tt refl

      -- a state in which it comes first
      nested_taken : (s : State) → Stands app s r b → IsNext app (after s) x → PassesAll app goes_on_to.conditions (abstract_of app s)
      nested_taken s h next = passes_each app (abstract_of app s) goes_on_to.conditions (λ y m. elim m [
        | inl e ↦ subst (λ (w : Condition). passes w.test (abstract_of app s w.component.0) ≡ true) (sym e) (tests_in app s x known ∙ sym (ap is_in (other_state s x beside)) ∙ next.began)
        | inr n ↦
            (let back = map_among out_condition y (before app k x) n in
            let p = passing_among comes_first (source_count app) back.0 back.1 in
            let q = and_parts (not (back.0 == k.0)) (comes_before app back.0 x && not (back.0 == x)) p.0 in
            let ahead = and_parts (comes_before app back.0 x) (not (back.0 == x)) q.1 in
            let other : back.0 ≢ k.0 = λ same. false≢true (sym (ap not (eq-eqb back.0 k.0 same)) ∙ q.0) in
            subst (λ (w : Condition). passes w.test (abstract_of app s w.component.0) ≡ true) (sym back.2)
            (tests_out app s back.0 p.1 ∙ elim (cases_Bool (is_in (source_state s back.0))) [
              | inl e ↦
                  (let behind = next.before_each back.0 (ap is_in (other_state s back.0 other) ∙ e) in
                  let same : back.0 ≡ x = (source_orders app).once back.0 x ahead.0 behind in
                  absurd (false≢true (sym (ap not (eq-eqb back.0 x same)) ∙ ahead.1)))
              | inr e ↦ ap not e
            ]))
      ])

    stay_known : (x : ℕ) → x < source_count app → IsRunnerOf app (routine_runner app (source_no x) over)
    stay_known x lt = record { known = lt; number = refl; task = owns.task }

    given_known : (o : Option TaskNo) → IfSome o (λ (t : TaskNo). t.0 < length app.tasks) → IsKnownStay app (given_back app o).stay
    given_known None h = tt
    given_known (Some t) h = h

    abbrev goes_on : ℕ → EffectCase
    goes_on x = nested_return app k z over x

    -- where these sources are known to be out
    module _ (outs : List Bool) where
      nested_known : (l : ℕ) → Among l (nested app k outs) → (l ≢ k.0) × (l < source_count app)
      nested_known l m =
          let p = passing_among (may_be_in outs k) (source_count app) l m in
          let parts = and_parts (not (l == k.0)) (not (is_known_out outs l)) p.0 in
          (λ same. false≢true (sym (ap not (eq-eqb l k.0 same)) ∙ parts.0), p.1)

      -- a source that is in isn't
      not_out : (s : State) (l : ℕ) → AreOutBy app outs (abstract_of app s) → l < source_count app → is_in (source_state s l) ≡ true → not (is_known_out outs l) ≡ true
      not_out s l out lt began = elim (cases_Bool (is_known_out outs l)) [
        | inl e ↦
            (let at_out : source_state s l ≡ source.Out = out_there app s l lt (ap (passes (test.Is (OfSource source_val.Out))) (out l lt e) ∙ part_itself (OfSource source_val.Out)) in
            absurd (false≢true (sym (ap is_in at_out) ∙ began)))
        | inr e ↦ ap not e
      ]

      among_nested : (s : State) (l : ℕ) → AreOutBy app outs (abstract_of app s) → l ≢ k.0 → l < source_count app → is_in (source_state s l) ≡ true → Among l (nested app k outs)
      among_nested s l out other lt began =
          among_passing (may_be_in outs k) (source_count app) l lt (and_from (not (l == k.0)) (not (is_known_out outs l)) (ap not (ne_eqb l k.0 other)) (not_out s l out lt began))

      abbrev cases : List EffectCase
      cases = last_return app k z over ∷ map goes_on (nested app k outs)

      listed : AreListed app r b cases
      listed = more_listed app r b (last_return app k z over) (map goes_on (nested app k outs)) (given_known over owns.task, last_is) (λ y m.
          let back = map_among goes_on y (nested app k outs) m in
          let at = nested_known back.0 back.1 in
          subst (λ (w : EffectCase). IsCase app r b w) (sym back.2) (stay_known back.0 at.1, nested_is back.0 at.1 at.0))

      taken_by : (s : State) → Stands app s r b → AreOutBy app outs (abstract_of app s) → (o : Option SourceNo) → next_routine app (after s) ≡ o → IsTaken app r b s cases
      taken_by s h known None e =
          let out = all_out_where_none app (after s) e in
          record {
            case = last_return app k z over;
            among = inl refl;
            passes = by_out s (others app k) (λ l m. let at = others_known l m in (at.1, sym (other_state s l at.0) ∙ out l));
          }
      taken_by s h known (Some x) e =
          let next = next_is app (after s) x e in
          let at = still_in s x.0 h next.began in
          let began : is_in (source_state s x.0) ≡ true = sym (ap is_in (other_state s x.0 at.0)) ∙ next.began in
          record {
            case = goes_on x.0;
            among = inr (among_map goes_on x.0 (nested app k outs) (among_nested s x.0 known at.0 at.1 began));
            passes = nested_taken x.0 at.1 at.0 s h next;
          }

      routine_returns : AreCasesWith app outs (runner_point r b) (return_cases app outs r b)
      routine_returns = are_cases_with app r b owns (return_cases app outs r b) listed outs (λ s h known. taken_by s h known (next_routine app (after s)) refl)

  pub all_returns : (outs : List Bool) (r : Runner) → OwnsBlock app r b → AreCasesWith app outs (runner_point r b) (return_cases app outs r b)
  all_returns outs (runner.Task t) owns =
      cases_with app outs (point.Task b) (return_cases app outs (runner.Task t) b) (idle_cases app (runner.Task t) b owns (λ s choice h. return_effect (runner.Task t) s choice (processor.Running t) h h.runs.runs))
  all_returns outs (runner.Routine k z over) owns = routine_returns k z over owns outs
