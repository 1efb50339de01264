-- The exits of cases that differ in one condition alone, by the ends of the conditions that some value passes.
use Rattle.std.proofs.Common.{◌≡◌, ℕ, ◌<◌, Bool, true, false, List, [], ◌∷◌, ◌++◌, length, get_or, refl, sym, ap, subst, ◌∙◌, inl, inr, arith, Some}
use Rattle.std.specs.Prelude.{◌==◌, Contains}
use Rattle.std.proofs.lemmas.{Bool.{eqb-true}, List.{get_or_default}}
use Rattle.osek_standard.specs.declared.{app.App.{App}, point.Point.{Point}}
use Rattle.osek_standard.proofs.Members.{among_contained, contained_among, among_map, map_among}
use Rattle.abstract_state.specs.{declared.table.PlainEntry.{PlainEntry}, Domains.{domains_of}}
use Rattle.flow_model.specs.declared.{case.EffectCase.{EffectCase}, test.Condition.{Condition}}
use Rattle.flow_model.specs.declared.case.Stay.TheVariants as stay
use Rattle.flow_model.specs.declared.case.Decision.TheVariants as decision
use Rattle.flow_model.specs.{Rules.{Applies, HasNone}, Scheduling.{goes_inside}}
use Rattle.numbered_sets.specs.{declared.numbered_entry.NumberedEntry.{NumberedEntry}, NumberedEntries.{number_domains}, Pools.{Values, IsLonger}, Views.{plain_entry, AreNumbersOf}}
use Rattle.flow_effects.specs.declared.effects.Alternatives.{Alternatives}
use Rattle.flow_effects.specs.Alternatives.{with_condition, alternative_cases, AreApart}
use Rattle.flow_exits.specs.Leaving.{effect_rule}
use Rattle.point_exits.specs.declared.group.{NumberEnd.{NumberEnd}, ExitGroup.{ExitGroup}}
use Rattle.point_exits.specs.declared.group.Ends.TheVariants as ends
use Rattle.point_exits.specs.{Applying.{KeepsDomains}, Groups.{holding, with_end, AreNumbersThere, IsKnownEnd, IsKnownGroup, AreKnownGroups}, Leaving.{AddsEffects}, Deciding.{IsWhole}}
use Rattle.point_exits.specs.{Settling.{IsSettledEnd, IsSettledBy}, Alternatives.{HasOwnValues, IsPassingEnd, ArePassingEnds}}
use Rattle.point_exits.proofs.{EntryCounts.{sets_counted}, GroupLaws.{known_with}, GrowingPools.{groups_known}, SettledGroups.{group_known}}
use Rattle.point_exits.proofs.AlternativeEnds.{none_for, none_passing, keeps, in_made, there_after, applied_alike, left_whole}
use Rattle.point_exits.proofs.AlternativeGroups.{one_added, none_added, at_end, HasItsEnd, all_added, end_by, AreEndsOf, ends_of_settled}

-- some end of a list that has one
some_end : (xs : List NumberEnd) → (length xs == 0) ≡ false → (x : NumberEnd) × Contains xs x
some_end [] e = absurd (cc)
some_end (x ∷ xs) e = (x, among_contained (x ∷ xs) x (inl refl))

module _ (app : App) (a : Alternatives) (apart : AreApart app a) (pool : List Values) (entry : NumberedEntry) (known : AreNumbersOf pool entry) (alike : number_domains entry ≡ domains_of app)
    (p : Point) (xs : List NumberEnd) (passing : ArePassingEnds pool entry a.conditions p xs) where
  abbrev plain : PlainEntry
  plain = plain_entry pool entry

  abbrev case_with : Condition → EffectCase
  case_with y = with_condition a.effect y

  listed_case : (y : Condition) → Contains a.conditions y → Contains (alternative_cases a) (with_condition a.effect y)
  listed_case y m = among_contained (alternative_cases a) (case_with y) (among_map (with_condition a.effect) y a.conditions (contained_among a.conditions y m))

  record IsCaseWith (x : EffectCase) : Type 0 where
    condition : Condition
    listed : Contains a.conditions condition
    is : x ≡ with_condition a.effect condition

  case_is : (x : EffectCase) → Contains (alternative_cases a) x → IsCaseWith x
  case_is x m =
      let y = map_among (with_condition a.effect) x a.conditions (contained_among (alternative_cases a) x m) in
      record { condition = y.0; listed = among_contained a.conditions y.0 y.1; is = y.2 }

  -- the effect leaves values in their domains, where some value passes a condition
  pub effect_keeps : HasOwnValues plain → ((x : EffectCase) → Contains (alternative_cases a) x → KeepsDomains (effect_rule x) plain) → (length xs == 0) ≡ false → KeepsDomains (effect_rule a.effect) plain
  effect_keeps own kept some =
      let x = some_end xs some in
      let e = passing.each x.0 x.1 in
      keeps app a apart e.condition e.listed pool entry known alike x.0.numbers e.is.sifted e.is.some own (kept (case_with e.condition) (listed_case e.condition e.listed))

  module _ (after : List Values) (longer : IsLonger pool after) (before : List ExitGroup) (groups : AreKnownGroups pool before) where
    -- no value passes any
    pub none_pass : (length xs == 0) ≡ true → AddsEffects app plain (alternative_cases a) pool before after before
    none_pass none = none_added app plain (sets_counted app pool entry alike) pool after longer before groups (alternative_cases a) (λ x m.
        (let y = case_is x m in
        subst (λ (z : EffectCase). HasNone (effect_rule z) plain) (sym y.is) (elim (passing.some y.condition y.listed) [
          | inl e ↦ (let lt = e.listed.1 in absurd (omega (arith, lt, eqb-true (length xs) 0 none)))
          | inr h ↦ none_passing app a apart y.condition y.listed pool entry known alike h.numbers h.sifted h.none
        ])))

    -- the effect takes none
    pub none_takes : HasNone (effect_rule a.effect) plain → AddsEffects app plain (alternative_cases a) pool before after before
    none_takes none = none_added app plain (sets_counted app pool entry alike) pool after longer before groups (alternative_cases a) (λ x m.
        (let y = case_is x m in
        subst (λ (z : EffectCase). HasNone (effect_rule z) plain) (sym y.is) (none_for app a apart y.condition y.listed pool entry known alike none)))

    module _ (made : NumberedEntry) (whole : IsWhole app after made) (applies : Applies (effect_rule a.effect) plain (plain_entry after made)) where
      same : number_domains made ≡ number_domains entry
      same = whole.numbers.domains ∙ longer.domains ∙ sym known.domains

      -- the group before it is settled
      abbrev pub together : ExitGroup
      together = record { decision = Some decision.Keep; status = a.effect.leaving.status; entry = made; ends = ends.With xs }

      end_there : (y : Condition) → Contains a.conditions y → (x : NumberEnd) → IsPassingEnd pool entry p y x → IsKnownEnd after made x
      end_there y m x is = record {
        component = (let lt = in_made app a apart y m pool entry known alike x.numbers is.sifted is.some after longer made whole.numbers same applies in let at = is.component in omega (arith, lt, at));
        numbers =
            subst (λ (i : ℕ). AreNumbersThere after made i x.numbers) (sym is.component)
            (there_after app a apart y m pool entry known alike x.numbers is.sifted is.some after longer made whole.numbers same applies);
      }

      pub together_known : IsKnownGroup after together
      together_known = record { numbers = whole.numbers; ends = λ x m. (let e = passing.each x m in end_there e.condition e.listed x e.is) }

      module _ (h : ExitGroup) (by : IsSettledBy (goes_inside app a.effect.leaving.stay decision.Keep) after together h) where
        abbrev goes : ℕ → Bool
        goes = goes_inside app a.effect.leaving.stay decision.Keep

        settled : AreEndsOf (goes_inside app a.effect.leaving.stay decision.Keep) after xs h.ends
        settled = ends_of_settled goes after xs h.ends by.ends

        -- a case's exits are at its end, settled
        added_at : p ≡ apart.point → (y : Condition) → Contains a.conditions y → (x z : NumberEnd) → IsPassingEnd pool entry p y x → IsSettledEnd (goes_inside app a.effect.leaving.stay decision.Keep) after x z
            → AddsEffects app plain (with_condition a.effect y ∷ []) pool before after (before ++ at_end app plain (sets_counted app pool entry alike) pool after longer before groups h z ∷ [])
        added_at at y m x z is s =
            let size = sets_counted app pool entry alike in
            let stays : a.effect.leaving.stay ≡ stay.At p = apart.stay ∙ ap (λ (q : Point). stay.At q) (sym at) in
            one_added app plain size pool after longer before groups (case_with y) p apart.asked stays (with_end made x)
            (at_end app plain size pool after longer before groups h z)
            (subst (λ (i : ℕ). IsWhole app after (holding made i x.numbers)) (sym is.component) (left_whole app a apart y m pool entry known alike x.numbers is.sifted is.some after longer made whole.numbers same applies))
            (subst (λ (i : ℕ). Applies (effect_rule (with_condition a.effect y)) plain (plain_entry after (holding made i x.numbers))) (sym is.component)
            (applied_alike app a apart y m pool entry known alike x.numbers is.sifted is.some after longer made whole.numbers same applies))
            (end_by app plain size pool after longer before groups goes together h by (case_with y) p apart.asked stays x z refl refl (end_there y m x is).component is.target s)

        pub alternatives_added : p ≡ apart.point → AddsEffects app plain (alternative_cases a) pool before after (before ++ h ∷ [])
        alternatives_added at =
            let size = sets_counted app pool entry alike in
            let ys = settled.ys in
            all_added app plain size pool after longer before groups (alternative_cases a) h ys settled.are
            (known_with after before h (groups_known pool after longer before groups) (group_known app goes after together h by together_known))
            (λ z m.
            (let lt : m.0 < length xs = (let below = m.1 in omega (arith, below, settled.each.size)) in
            let x : NumberEnd = get_or xs m.0 z in
            let e = passing.each x (m.0, lt, get_or_default xs m.0 x z lt) in
            let s : IsSettledEnd (goes_inside app a.effect.leaving.stay decision.Keep) after x z = subst (IsSettledEnd goes after x) m.2 (settled.each.each m.0 z lt) in
            record { effect = case_with e.condition; listed = listed_case e.condition e.listed; added = added_at at e.condition e.listed x z e.is s }))
            (λ x m.
            (let y = case_is x m in
            elim (passing.some y.condition y.listed) [
              | inl e ↦
                  (let i = e.listed.0 in
                  let lt : e.listed.0 < length ys = (let below = e.listed.1 in omega (arith, below, settled.each.size)) in
                  let z : NumberEnd = get_or ys e.listed.0 e.end in
                  let s : IsSettledEnd (goes_inside app a.effect.leaving.stay decision.Keep) after e.end z = subst (λ (w : NumberEnd). IsSettledEnd goes after w z) e.listed.2 (settled.each.each i e.end e.listed.1) in
                  inl (subst (HasItsEnd app plain size pool after longer before groups h ys) (sym y.is) (record {
                    end = z;
                    listed = (i, lt, get_or_default ys i z e.end lt);
                    added = added_at at y.condition y.listed e.end z e.is s;
                  })))
              | inr none ↦
                  inr (subst (λ (w : EffectCase). HasNone (effect_rule w) plain) (sym y.is) (none_passing app a apart y.condition y.listed pool entry known alike none.numbers none.sifted none.none))
            ]))
