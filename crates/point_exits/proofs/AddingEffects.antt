-- The exits of effects, one effect after another, in a pool that grows.
use Rattle.std.proofs.Common.{◌≡◌, ℕ, ◌+◌, ◌<◌, List, [], ◌∷◌, ◌++◌, length, get_or, take, refl, sym, ap, subst, ◌∙◌, inl, inr}
use Rattle.std.specs.Prelude.{Contains}
use Rattle.std.proofs.lemmas.List.{take_more, Elements.{Contains-append_left, Contains-append_right, Contains-append_cases}}
use Rattle.osek_standard.specs.declared.app.App.{App}
use Rattle.osek_standard.proofs.Members.{among_contained, contained_among}
use Rattle.abstract_state.specs.{declared.table.PlainEntry.{PlainEntry}, Components.{component_count}}
use Rattle.flow_model.specs.{declared.case.EffectCase.{EffectCase}, Rules.{Applies, HasNone}}
use Rattle.numbered_sets.specs.{declared.numbered_entry.NumberedEntry.{NumberedEntry}, Pools.{Values, IsLonger}, Views.{plain_entry}}
use Rattle.numbered_sets.proofs.NumberingLaws.{longer_onward}
use Rattle.flow_exits.specs.{declared.exit.Exit.{Exit}, Leaving.{IsOfEffects, HasExitsFor, AddsDecided, effect_rule}}
use Rattle.flow_exits.proofs.AfterEffect.{decided_comes, decisions_covered, nothing_taken}
use Rattle.point_exits.specs.{declared.group.ExitGroup.{ExitGroup}, Groups.{all_exits, AreKnownGroups}, Leaving.{AddsEffects}}
use Rattle.point_exits.proofs.GrowingPools.{exits_same, groups_known}

-- an exit of some effects is one of more effects
pub of_more : (app : App) (some more : List EffectCase) (entry : PlainEntry) (x : Exit) → ((effect : EffectCase) → Contains some effect → Contains more effect) → IsOfEffects app some entry x → IsOfEffects app more entry x
of_more app some more entry x onward h = record {
  decision = h.decision;
  decides = h.decides;
  filled = h.filled;
  comes = λ value within. (let c = h.comes value within in record {
    effect = c.effect;
    listed = onward c.effect c.listed;
    after = c.after;
    made = c.made;
    decides = c.decides;
    target = c.target;
    settles = c.settles;
    status = c.status;
  });
}

-- exits that were found are found among more
pub still_for : (app : App) (effect : EffectCase) (entry : PlainEntry) (some more : List Exit) → ((x : Exit) → Contains some x → Contains more x) → HasExitsFor app effect entry some → HasExitsFor app effect entry more
still_for app effect entry some more onward h value d within passes decides =
    let x = h value d within passes decides in
    record { exit = x.exit; listed = onward x.exit x.listed; decision = x.decision; status = x.status; within = x.within; target = x.target }

module _ (app : App) (entry : PlainEntry) where
  pub more_effects : (effects more : List EffectCase) (pool mid after : List Values) (a b c : List ExitGroup) → AddsEffects app entry effects pool a mid b → AddsEffects app entry more mid b after c →
      AddsEffects app entry (effects ++ more) pool a after c
  more_effects effects more pool mid after a b c h k = record {
    longer = longer_onward pool mid after h.longer k.longer;
    known = k.known;
    kept = λ x m. k.kept x (h.kept x m);
    each = λ x m. elim (k.each x m) [
      | inl old ↦ elim (h.each x old) [
        | inl first ↦ inl first
        | inr of ↦ inr (of_more app effects (effects ++ more) entry x (λ e l. Contains-append_left effects more e l) of)
      ]
      | inr of ↦ inr (of_more app more (effects ++ more) entry x (λ e l. Contains-append_right effects more e l) of)
    ];
    some = λ e m. elim (Contains-append_cases effects more e m) [
      | inl old ↦ still_for app e entry (all_exits mid b) (all_exits after c) k.kept (h.some e old)
      | inr new ↦ k.some e new
    ];
  }

  pub effects_on : (effects : List EffectCase) (i : ℕ) (effect : EffectCase) (pool mid after : List Values) (a b c : List ExitGroup) → i < length effects → get_or effects i effect ≡ effect →
      AddsEffects app entry (take i effects) pool a mid b → AddsEffects app entry (effect ∷ []) mid b after c → AddsEffects app entry (take (i + 1) effects) pool a after c
  effects_on effects i effect pool mid after a b c lt is h k =
      let last : take (i + 1) effects ≡ take i effects ++ effect ∷ [] = take_more effects i effect lt ∙ ap (λ (x : EffectCase). take i effects ++ x ∷ []) is in
      subst (λ (xs : List EffectCase). AddsEffects app entry xs pool a after c) (sym last) (more_effects (take i effects) (effect ∷ []) pool mid after a b c h k)

  module _ (size : length entry.sets ≡ component_count app) (effect : EffectCase) (pool after : List Values) (longer : IsLonger pool after) (before now : List ExitGroup) (known : AreKnownGroups pool before) where
    same : all_exits after before ≡ all_exits pool before
    same = exits_same pool after longer before known

    -- an effect that takes some values
    pub effect_added : (left : NumberedEntry) → Applies (effect_rule effect) entry (plain_entry after left) → AreKnownGroups after now →
        AddsDecided app effect.leaving (plain_entry after left) (all_exits after before) (all_exits after now) → AddsEffects app entry (effect ∷ []) pool before after now
    effect_added left applies still_known its = record {
      longer = longer;
      known = still_known;
      kept = λ x m. its.kept x (subst (λ (xs : List Exit). Contains xs x) (sym same) m);
      each = λ x m. elim (its.each x m) [
        | inl old ↦ inl (subst (λ (xs : List Exit). Contains xs x) same old)
        | inr decided ↦ inr (decided_comes app (effect ∷ []) effect entry (plain_entry after left) x (among_contained (effect ∷ []) effect (inl refl)) size applies decided)
      ];
      some = λ e m. subst (λ (y : EffectCase). HasExitsFor app y entry (all_exits after now)) (sym (alone e m)) (decisions_covered app effect entry (plain_entry after left) (all_exits after before) (all_exits after now) size applies its);
    }
      where
        alone : (e : EffectCase) → Contains (effect ∷ []) e → e ≡ effect
        alone e m = elim (contained_among (effect ∷ []) e m) [ inl is ↦ is | inr none ↦ absurd none ]

    -- one that takes none
    pub effect_skipped : HasNone (effect_rule effect) entry → AddsEffects app entry (effect ∷ []) pool before after before
    effect_skipped none = record {
      longer = longer;
      known = groups_known pool after longer before known;
      kept = λ x m. subst (λ (xs : List Exit). Contains xs x) (sym same) m;
      each = λ x m. inl (subst (λ (xs : List Exit). Contains xs x) same m);
      some = λ e m. elim (contained_among (effect ∷ []) e m) [
        | inl is ↦ subst (λ (y : EffectCase). HasExitsFor app y entry (all_exits after before)) (sym is) (nothing_taken app effect entry (all_exits after before) none size)
        | inr nothing ↦ absurd nothing
      ];
    }
