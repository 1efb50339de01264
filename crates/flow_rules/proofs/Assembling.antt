-- Rules out of effects and outcomes: they cover each step that shows something, and each is exact.
use Rattle.std.proofs.Common.{◌≡◌, ℕ, ◌<◌, Bool, List, ◌++◌, IsTrue, refl, sym, ap, subst, ◌∙◌, inl, inr}
use Rattle.std.specs.declared.option.Option.{Option}
use Rattle.osek_values.specs.declared.{event.Event.{Event, TheVariants.{Run}}, status.Status.{Status}}
use Rattle.osek_standard.specs.{declared.{app.App.{App}, state.State.{State}, point.Point.{Point}}, Points.{point_of}}
use Rattle.osek_standard.specs.{Dispatch.{Outcome, instruction, outcome}, Effects.{effect}, Kernel.{step}}
use Rattle.osek_standard.specs.{Outcomes.{Did, shows, IsInstruction}, Well.{Well, IsActive}}
use Rattle.osek_standard.proofs.{Members.{among_left, among_right, among_cases, among_contained, contained_among}}
use Rattle.abstract_state.specs.{declared.{value.PartValue.{PartValue}, table.PlainEntry.{PlainEntry}}, Components.{component_count, abstract_of, IsAllowed}}
use Rattle.abstract_state.specs.{Concrete.{AreAllowed}, Choices.{IsFirstIfThere}, Regular.{IsRegular}, Tables.{set_at, is_member}}
use Rattle.abstract_state.proofs.AllowedLaws.{well_part}
use Rattle.flow_model.specs.declared.{test.Condition.{Condition}, case.{EffectCase.{EffectCase}, OutcomeCase.{OutcomeCase}}, rule.Rule.{Rule}}
use Rattle.flow_model.specs.{Tests.{PassesAt, PassesAll, value_after, values_after}, Effects.{AreIn, AreAllAllowed, IsAt, IsKnownStay, HaveKnownStays, HasEffect, CoverEffects, AreExactEffects}}
use Rattle.flow_model.specs.{Scheduling.{AreValuesOf, HasOutcome, settling}, Rules.{Matches, IsMatched, IsForeseen, Shown}}
use Rattle.flow_model.proofs.{ChangeLaws.{after_both}, Instructions.{instruction_by, shown_so}, SettledValues.{settles}}
use Rattle.flow_exits.specs.Deciding.{IsKernelDecision}
use Rattle.flow_exits.proofs.Steps.{changed, some_decision, kernel_decision, instruction_ends, winner}
use Rattle.flow_rules.specs.Assembly.{rule_of, IsRuleOfSome, AreAllAdded}

-- conditions of two lists
pub passes_both : (app : App) (xs ys : List Condition) (value : ℕ → PartValue) → PassesAll app xs value → PassesAll app ys value → PassesAll app (xs ++ ys) value
passes_both app xs ys value h k c lt x m e = elim (among_cases x xs ys (contained_among (xs ++ ys) x m)) [
  | inl left ↦ h c lt x (among_contained xs x left) e
  | inr right ↦ k c lt x (among_contained ys x right) e
]

pub passes_left : (app : App) (xs ys : List Condition) (value : ℕ → PartValue) → PassesAll app (xs ++ ys) value → PassesAll app xs value
passes_left app xs ys value h c lt x m e = h c lt x (among_contained (xs ++ ys) x (among_left x xs ys (contained_among xs x m))) e

pub passes_right : (app : App) (xs ys : List Condition) (value : ℕ → PartValue) → PassesAll app (xs ++ ys) value → PassesAll app ys value
passes_right app xs ys value h c lt x m e = h c lt x (among_contained (xs ++ ys) x (among_right x xs ys (contained_among ys x m))) e

-- ---- one step

module _ (app : App) (entry : PlainEntry) (effect_case : EffectCase) (x : OutcomeCase) (s : State) (e : Event) (choice : Bool) where
  -- the step is the instruction, with its effect and its outcome
  pub steps_as_rule : IsKnownStay app effect_case.leaving.stay → (w : Well app s) → IsRegular app s → (h : HasEffect app effect_case s choice) → HasOutcome app effect_case x (abstract_of app s) →
      IsKernelDecision app effect_case.leaving (effect app s choice) (values_after effect_case.changes (abstract_of app s)) x.decision →
      step app s e ≡ instruction app s choice → shows app s e ≡ Did (outcome app s choice) (effect app s choice).notes.status → Matches app (rule_of app effect_case x) s e
  steps_as_rule known w regular h o does steps shown =
      let value : ℕ → PartValue = values_after effect_case.changes (abstract_of app s) in
      let r = instruction_ends app s choice w effect_case h value (changed app s choice w effect_case h) x.decision does known e steps regular shown in
      record {
        passes = passes_both app effect_case.conditions x.conditions (abstract_of app s) h.passes o.passes;
        target = r.target ∙ sym o.target;
        parts = λ c lt. r.parts c lt
            ∙ sym (after_both effect_case.changes (settling app effect_case.leaving.stay x.decision) c (abstract_of app s c)
            ∙ settles app effect_case.leaving.stay x.decision c (value_after effect_case.changes c (abstract_of app s c)));
        shows = r.shows;
        status = r.status;
      }

-- values of a well-formed state are ones that its components can have at its point
allowed_there : (app : App) (p : Point) (s : State) → Well app s → IsRegular app s → point_of s ≡ p → AreAllowed app p (abstract_of app s)
allowed_there app p s w regular at c lt = subst (λ (q : Point). IsAllowed app q c (abstract_of app s c)) at (well_part app s w regular c lt)

-- ---- all rules of a point

module _ (app : App) (p : Point) (entry : PlainEntry) (effects : List EffectCase) (before after : List Rule) (added : AreAllAdded app p entry effects before after) where
  -- an instruction of a state of the entry is a rule's
  pub instruction_covered : HaveKnownStays app effects → CoverEffects app p entry effects → (s : State) (e : Event) (o : Outcome) (x : Option Status) → IsAt app p entry s → IsInstruction app s e o x → shows app s e ≡ Did o x → IsMatched app after s e
  instruction_covered stays covering s e o x at i shown =
      let h = covering s i.choice at i.active in
      let value : ℕ → PartValue = values_after h.case.changes (abstract_of app s) in
      let decided = some_decision app s i.choice at.well h.case h.effect in
      let values : AreValuesOf app p entry (abstract_of app s) = record { within = at.within; allowed = allowed_there app p s at.well at.regular at.point } in
      let r = added.some h.case h.listed (abstract_of app s) decided.0 values h.effect.passes decided.1.decides in
      let does = subst (IsKernelDecision app h.case.leaving (effect app s i.choice) value) (sym r.decision) decided.1 in
      record {
        rule = rule_of app h.case r.outcome;
        listed = r.listed;
        matches = steps_as_rule app entry h.case r.outcome s e i.choice (stays h.case h.listed) at.well at.regular h.effect r.is does i.steps
            (shown ∙ ap (λ (d : Outcome). Did d x) (sym i.does) ∙ ap (Did (outcome app s i.choice)) (sym i.status));
      }

  -- and foreseen, whether or not a routine begins in its place
  pub instruction_foreseen : CoverEffects app p entry effects → (s : State) (choice : Bool) → IsAt app p entry s → IsActive s.processor → IsForeseen app after s choice
  instruction_foreseen covering s choice at active =
      let h = covering s choice at active in
      let value : ℕ → PartValue = values_after h.case.changes (abstract_of app s) in
      let decided = some_decision app s choice at.well h.case h.effect in
      let values : AreValuesOf app p entry (abstract_of app s) = record { within = at.within; allowed = allowed_there app p s at.well at.regular at.point } in
      let r = added.some h.case h.listed (abstract_of app s) decided.0 values h.effect.passes decided.1.decides in
      let does = subst (IsKernelDecision app h.case.leaving (effect app s choice) value) (sym r.decision) decided.1 in
      record {
        rule = rule_of app h.case r.outcome;
        listed = r.listed;
        foreseen = record {
          decision = r.outcome.decision;
          passes = passes_both app h.case.conditions r.outcome.conditions (abstract_of app s) h.effect.passes r.is.passes;
          decides = refl;
          outcome = does.outcome;
          status = h.effect.status;
        };
      }

  -- a rule of an effect is exact
  pub instruction_shown : HaveKnownStays app effects → AreAllAllowed app p entry → ((s : State) → Well app s → point_of s ≡ p → IsActive s.processor) → AreExactEffects app p entry effects → (rule : Rule) (value : ℕ → PartValue) →
      IsRuleOfSome app p entry effects rule → AreIn app entry value → PassesAll app rule.conditions value → Shown app p rule value
  instruction_shown stays allowed active exact rule value r within passes =
      let outcome_of_rule = r.is.outcome in
      let whole : PassesAll app (rule_of app r.effect outcome_of_rule).conditions value = subst (λ (y : Rule). PassesAll app y.conditions value) r.is.is passes in
      let first = passes_left app r.effect.conditions outcome_of_rule.conditions value whole in
      let second = passes_right app r.effect.conditions outcome_of_rule.conditions value whole in
      let shown = exact r.effect value (winner outcome_of_rule.decision) r.listed within first in
      let s = shown.from in
      let same : (c : ℕ) → c < component_count app → abstract_of app s c ≡ value c = shown.has.parts in
      let in_entry : AreIn app entry (abstract_of app s) = λ c lt. subst (λ (v : PartValue). IsTrue (is_member (set_at entry c) v)) (sym (same c lt)) (within c lt) in
      let values : AreValuesOf app p entry (abstract_of app s) = record { within = in_entry; allowed = allowed_there app p s shown.has.well shown.has.regular shown.has.point } in
      let passes_here : (xs : List Condition) → PassesAll app xs value → PassesAll app xs (abstract_of app s) = λ xs h c lt. subst (PassesAt xs c) (sym (same c lt)) (h c lt) in
      let has = r.is.exact (abstract_of app s) values (passes_here r.effect.conditions first) (passes_here outcome_of_rule.conditions second) in
      let act : IsActive s.processor = active s shown.has.well shown.has.point in
      let does = kernel_decision app s shown.choice shown.has.well r.effect shown.effect (values_after r.effect.changes (abstract_of app s))
      (changed app s shown.choice shown.has.well r.effect shown.effect) outcome_of_rule.decision has.decides (λ w e. subst (λ (t : ℕ). IsFirstIfThere t s) (ap winner e) shown.first) in
      let matches : Matches app (rule_of app r.effect outcome_of_rule) s (Run shown.choice) =
      steps_as_rule app entry r.effect outcome_of_rule s (Run shown.choice) shown.choice (stays r.effect r.listed) shown.has.well shown.has.regular shown.effect has does
      (instruction_by app s shown.choice act shown.alone) (shown_so app s shown.choice act shown.alone) in
      record { from = s; event = Run shown.choice; has = shown.has; matches = subst (λ (y : Rule). Matches app y s (Run shown.choice)) (sym r.is.is) matches }
