-- Rules out of the exits of effects: they cover what the scheduler decides, and each is exact.
use Rattle.std.proofs.Common.{◌≡◌, ℕ, List, [], ◌++◌, length, map, flat_map, refl, sym, ap, subst, ◌∙◌, inl, inr, Some, None}
use Rattle.std.specs.{Prelude.{Contains}, declared.option.Option.{Option}}
use Rattle.std.proofs.lemmas.List.{append-nil}
use Rattle.osek_standard.specs.declared.{app.App.{App}, point.Point.{Point}}
use Rattle.osek_standard.proofs.Members.{Among, among_flat_map, flat_map_among, contained_among, among_contained}
use Rattle.abstract_state.specs.{declared.{value.PartValue.{PartValue}, table.PlainEntry.{PlainEntry}}, Components.{component_count}, Concrete.{AreAllowed}}
use Rattle.flow_model.specs.{declared.{case.{Decision.{Decision}, EffectCase.{EffectCase}, OutcomeCase.{OutcomeCase}}, rule.Rule.{Rule}}, Effects.{AreIn, stay_point}}
use Rattle.flow_model.specs.{Scheduling.{Decides, end_point, HasOutcome, CoverOutcomes, AreExactOutcomes}, Tests.{PassesAll, values_after}, Rules.{Applies, HasNone}}
use Rattle.numbered_sets.specs.{declared.numbered_entry.NumberedEntry.{NumberedEntry}, Pools.{Values}, Views.{plain_entry}}
use Rattle.flow_exits.specs.{declared.exit.Exit.{Exit}, Leaving.{effect_rule}}
use Rattle.flow_exits.proofs.AfterEffect.{all_after, nothing_taken}
use Rattle.flow_rules.specs.Assembly.{rule_of, AreAdded}
use Rattle.flow_rules.proofs.PointRules.{outcomes_added}
use Rattle.flow_rules.specs.Ruling.{outcome_by, outcome_if, outcomes_by, AddsRulesOf}
use Rattle.point_exits.specs.{declared.group.ExitGroup.{ExitGroup}, Groups.{all_exits}, Deciding.{AddsFor, HasUnsettled, IsAny}}
use Rattle.flow_rules.proofs.BarredValues.{kept_pass, passing_kept}

-- the second entry has the values of the first that states have at the point
module _ (app : App) (p : Point) (entry from : PlainEntry) (there : (value : ℕ → PartValue) → AreIn app entry value → AreAllowed app p value → AreIn app from value) where
  module _ (effect : EffectCase) (before after : List Rule) (h : AddsRulesOf app from effect before after) where
    abbrev cases : List OutcomeCase
    cases = flat_map (outcomes_by app effect.changes from) h.exits

    abbrev case : Exit → Decision → OutcomeCase
    case x d = outcome_by app effect.changes from x d

    cover : CoverOutcomes app p entry effect cases
    cover value d values passes decides =
        let x = h.whole value d (there value values.within values.allowed) passes decides in
        let here : Among (case x.exit d) (outcomes_by app effect.changes from x.exit) =
        subst (λ (o : Option Decision). Among (case x.exit d) (outcome_if app effect.changes from x.exit o)) (sym x.decision) (inl refl) in
        record {
          case = case x.exit d;
          listed = among_contained cases (case x.exit d) (among_flat_map (outcomes_by app effect.changes from) x.exit (case x.exit d) h.exits (contained_among h.exits x.exit x.listed) here);
          decision = refl;
          outcome = record { passes = kept_pass app effect.changes from x.exit.entry value x.within; decides = decides; target = x.target };
        }

    exact_for : (x : Exit) → Contains h.exits x → (y : OutcomeCase) (value : ℕ → PartValue) → AreIn app from value → PassesAll app y.conditions value →
        (o : Option Decision) → x.decision ≡ o → Among y (outcome_if app effect.changes from x o) → HasOutcome app effect y value
    exact_for x listed y value within passes None e m = absurd m
    exact_for x listed y value within passes (Some d) e m =
        let is : y ≡ case x d = elim m [
          | inl same ↦ same
          | inr none ↦ absurd none
        ] in
        let after_it : ℕ → PartValue = values_after effect.changes value in
        let passing : PassesAll app (case x d).conditions value = subst (λ (z : OutcomeCase). PassesAll app z.conditions value) is passes in
        let o = h.each x listed in
        let kept = passing_kept app effect.changes from x.entry value within passing in
        let found : Some o.decision ≡ Some d = sym o.decides ∙ e in
        let decided : o.decision ≡ d = cc in
        let its : HasOutcome app effect (case x d) value = record {
          passes = passing;
          decides = subst (Decides app after_it effect.leaving) decided (o.each after_it kept);
          target = o.target after_it kept ∙ ap (end_point app after_it (stay_point effect.leaving.stay after_it)) decided;
        } in
        subst (λ (z : OutcomeCase). HasOutcome app effect z value) (sym is) its

    exact : AreExactOutcomes app p entry effect cases
    exact y value listed values first second =
        let k = flat_map_among (outcomes_by app effect.changes from) y h.exits (contained_among cases y listed) in
        exact_for k.0 (among_contained h.exits k.0 k.1) y value (there value values.within values.allowed) second k.0.decision refl k.2

    pub rules_added : AreAdded app p entry effect before after
    rules_added = outcomes_added app p entry effect cases before after h.added cover exact

-- the exits of the groups of an effect, before they are settled
pub exits_ruled : (app : App) (from : PlainEntry) (effect : EffectCase) (pool : List Values) (left : NumberedEntry) (groups : List ExitGroup) (exits : List Exit) (before rules : List Rule) → length from.sets ≡ component_count app →
    Applies (effect_rule effect) from (plain_entry pool left) → AddsFor app pool effect.leaving left IsAny [] groups → exits ≡ all_exits pool groups →
    rules ≡ before ++ map (rule_of app effect) (flat_map (outcomes_by app effect.changes from) exits) → AddsRulesOf app from effect before rules
exits_ruled app from effect pool left groups exits before rules size applies h is added =
    let same : exits ≡ all_exits pool h.more = is ∙ ap (all_exits pool) h.added in
    record {
      made = plain_entry pool left;
      exits = exits;
      each = λ x m. h.each x (subst (λ (xs : List Exit). Contains xs x) same m);
      whole = λ value d within passes decides. subst (λ (xs : List Exit). HasUnsettled app effect.leaving xs d (values_after effect.changes value)) (sym same)
          (h.whole (values_after effect.changes value) d (all_after app (effect_rule effect) from (plain_entry pool left) size applies value within passes) decides tt);
      added = added;
    }

-- an effect that takes no values has none
pub none_ruled : (app : App) (from : PlainEntry) (effect : EffectCase) (rules : List Rule) → length from.sets ≡ component_count app → HasNone (effect_rule effect) from → AddsRulesOf app from effect rules rules
none_ruled app from effect rules size none = record {
  made = from;
  exits = [];
  each = λ x m. absurd (contained_among [] x m);
  whole = λ value d within passes decides. (let k = nothing_taken app effect from [] none size value d within passes decides in absurd (contained_among [] k.exit k.listed));
  added = sym (append-nil rules);
}
