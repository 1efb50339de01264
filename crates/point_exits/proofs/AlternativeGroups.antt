-- The exits of cases that differ in one condition alone: those of one group, which has an end for each case that takes some values.
use Rattle.std.proofs.Common.{◌≡◌, ◌⊎◌, ℕ, ◌+◌, ◌<◌, Bool, List, [], ◌∷◌, ◌++◌, length, get_or, map, refl, sym, ap, subst, ◌∙◌, inl, inr, arith, Some}
use Rattle.std.specs.{Prelude.{Contains}}
use Rattle.std.proofs.lemmas.List.{length-append, get_or_append_left, get_or-append-add}
use Rattle.osek_standard.specs.declared.{app.App.{App}, point.Point.{Point}}
use Rattle.osek_standard.proofs.Members.{Among, among_contained, contained_among, among_map, map_among}
use Rattle.abstract_state.specs.{declared.table.PlainEntry.{PlainEntry}, Components.{component_count}}
use Rattle.flow_model.specs.declared.case.{EffectCase.{EffectCase}, Stay.{Stay}}
use Rattle.flow_model.specs.declared.case.Asked.TheVariants as asked
use Rattle.flow_model.specs.declared.case.Stay.TheVariants as stay
use Rattle.flow_model.specs.declared.case.Decision.TheVariants as decision
use Rattle.flow_model.specs.{Effects.{IsKnownStay}, Rules.{Applies, HasNone}, Scheduling.{goes_inside}}
use Rattle.numbered_sets.specs.{declared.numbered_entry.NumberedEntry.{NumberedEntry}, Pools.{Values, IsLonger}, Views.{plain_entry}}
use Rattle.flow_exits.specs.{declared.exit.Exit.{Exit}, Leaving.{effect_rule}}
use Rattle.flow_exits.proofs.AfterEffect.{nothing_taken}
use Rattle.point_exits.specs.declared.group.{NumberEnd.{NumberEnd}, Ends.{Ends}, ExitGroup.{ExitGroup}}
use Rattle.point_exits.specs.declared.group.Ends.TheVariants as ends
use Rattle.point_exits.specs.{Groups.{holding, with_end, exit_at, exits_by, exits_of, all_exits, AreKnownGroups}, Leaving.{AddsEffects}, Deciding.{AreStayEnds, AddsOne, AddsFor, IsAny, IsWhole}}
use Rattle.point_exits.specs.Settling.{IsSettledEntry, IsSettledEnd, AreSettledEach, AreSettledEnds, IsSettledBy, IsSettledGroup, AreSettledFrom}
use Rattle.point_exits.proofs.{GroupLaws.{old_exit, new_exit, exit_cases}, GrowingPools.{exits_same, groups_known}, ExitLaws.{adds_group}, WholeLaws.{unasked_group}}
use Rattle.point_exits.proofs.{SettledEntries.{settled_held}, SettledGroups.{settled_decided, settled_groups_known}, AddingEffects.{of_more, still_for, effect_added}}

-- a group that came last was settled
last_settled : (app : App) (pool : List Values) (x : Stay) (before : List ExitGroup) (g h : ExitGroup) → IsSettledGroup app pool x g h → AreSettledFrom app pool x (length before) (before ++ g ∷ []) (before ++ h ∷ [])
last_settled app pool x before g h is = record {
  size = length-append before (h ∷ []) ∙ sym (length-append before (g ∷ []));
  first = λ i d lt. get_or_append_left before (h ∷ []) d i lt ∙ sym (get_or_append_left before (g ∷ []) d i lt);
  rest = λ i d past lt.
      (let at : i ≡ length before + 0 = omega (arith, past, lt, length-append before (g ∷ [])) in
      subst (λ (j : ℕ). IsSettledGroup app pool x (get_or (before ++ g ∷ []) j d) (get_or (before ++ h ∷ []) j d)) (sym at)
      (subst (λ (y : ExitGroup). IsSettledGroup app pool x y (get_or (before ++ h ∷ []) (length before + 0) d)) (sym (get_or-append-add before (g ∷ []) 0 d))
      (subst (IsSettledGroup app pool x g) (sym (get_or-append-add before (h ∷ []) 0 d)) is)));
}

module _ (app : App) (entry : PlainEntry) (size : length entry.sets ≡ component_count app) (pool after : List Values) (longer : IsLonger pool after) (before : List ExitGroup) (known : AreKnownGroups pool before) where
  same : all_exits after before ≡ all_exits pool before
  same = exits_same pool after longer before known

  -- ---- one case, whose effect is settled by itself

  module _ (effect : EffectCase) (p : Point) (unasked : effect.leaving.asked ≡ asked.No) (stays : effect.leaving.stay ≡ stay.At p) where
    abbrev pub alone : NumberedEntry → ExitGroup
    alone left = record { decision = Some decision.Keep; status = effect.leaving.status; entry = left; ends = ends.At (p ∷ []) }

    pub one_added : (left : NumberedEntry) (h : ExitGroup)
        → IsWhole app after left → Applies (effect_rule effect) entry (plain_entry after left) → IsSettledBy (goes_inside app effect.leaving.stay decision.Keep) after (alone left) h
        → AddsEffects app entry (effect ∷ []) pool before after (before ++ h ∷ [])
    one_added left h whole applies by =
        let g : ExitGroup = alone left in
        let first = groups_known pool after longer before known in
        let one : AddsOne after effect.leaving decision.Keep left before (before ++ g ∷ []) = record {
          group = g;
          added = refl;
          decision = refl;
          status = refl;
          numbers = refl;
          ends = subst (λ (x : Stay). AreStayEnds after left x (ends.At (p ∷ []))) (sym stays) refl;
        } in
        let adds : AddsFor app after effect.leaving left IsAny before (before ++ g ∷ []) =
        adds_group app after effect.leaving left IsAny decision.Keep before (subst (IsKnownStay app) (sym stays) tt) tt left (before ++ g ∷ []) whole (unasked_group app after effect.leaving left unasked) one in
        let settled : AreSettledFrom app after effect.leaving.stay (length before) (before ++ g ∷ []) (before ++ h ∷ []) = last_settled app after effect.leaving.stay before g h by in
        effect_added app entry size effect pool after longer before (before ++ h ∷ []) known left applies
        (settled_groups_known app after effect.leaving left before (before ++ g ∷ []) (before ++ h ∷ []) adds settled first)
        (settled_decided app after effect.leaving left before (before ++ g ∷ []) (before ++ h ∷ []) adds settled first)

  -- ---- no case takes values

  pub none_added : (cases : List EffectCase) → ((x : EffectCase) → Contains cases x → HasNone (effect_rule x) entry) → AddsEffects app entry cases pool before after before
  none_added cases none = record {
    longer = longer;
    known = groups_known pool after longer before known;
    kept = λ x m. subst (λ (xs : List Exit). Contains xs x) (sym same) m;
    each = λ x m. inl (subst (λ (xs : List Exit). Contains xs x) same m);
    some = λ x m. nothing_taken app x entry (all_exits after before) (none x m) size;
  }

  -- ---- all cases by the ends of one group

  -- the group with one end alone
  abbrev pub at_end : ExitGroup → NumberEnd → ExitGroup
  at_end g y = record { decision = g.decision; status = g.status; entry = with_end g.entry y; ends = ends.At (y.target ∷ []) }

  -- a case's exits are those at the end
  pub record IsAtEnd (cases : List EffectCase) (g : ExitGroup) (y : NumberEnd) : Type 0 where
    pub effect : EffectCase
    pub listed : Contains cases effect
    pub added : AddsEffects app entry (effect ∷ []) pool before after (before ++ at_end g y ∷ [])

  pub record HasItsEnd (g : ExitGroup) (ys : List NumberEnd) (effect : EffectCase) : Type 0 where
    pub end : NumberEnd
    pub listed : Contains ys end
    pub added : AddsEffects app entry (effect ∷ []) pool before after (before ++ at_end g end ∷ [])

  module _ (cases : List EffectCase) (g : ExitGroup) (ys : List NumberEnd) (are : g.ends ≡ ends.With ys) (its : AreKnownGroups after (before ++ g ∷ []))
      (each : (y : NumberEnd) → Contains ys y → IsAtEnd cases g y) (some : (x : EffectCase) → Contains cases x → HasItsEnd g ys x ⊎ HasNone (effect_rule x) entry) where
    abbrev end_exit : NumberEnd → Exit
    end_exit y = exit_at after g (with_end g.entry y) y.target

    its_exits : exits_of after g ≡ map end_exit ys
    its_exits = ap (exits_by after g) are

    -- the exit at an end is the group's
    exit_of_end : (y : NumberEnd) → Contains ys y → (x : Exit) → Contains (all_exits after (before ++ at_end g y ∷ [])) x → Contains (all_exits after (before ++ g ∷ [])) x
    exit_of_end y m x there = elim (exit_cases after before (at_end g y) x there) [
      | inl old ↦ old_exit after before g x old
      | inr new ↦ elim (contained_among (exits_of after (at_end g y)) x new) [
        | inl is ↦
            (let listed : Among (end_exit y) (map end_exit ys) = among_map end_exit y ys (contained_among ys y m) in
            new_exit after before g x (subst (λ (xs : List Exit). Contains xs x) (sym its_exits) (among_contained (map end_exit ys) x (subst (λ (z : Exit). Among z (map end_exit ys)) (sym is) listed))))
        | inr none ↦ absurd none
      ]
    ]

    pub all_added : AddsEffects app entry cases pool before after (before ++ g ∷ [])
    all_added = record {
      longer = longer;
      known = its;
      kept = λ x m. old_exit after before g x (subst (λ (xs : List Exit). Contains xs x) (sym same) m);
      each = λ x m. elim (exit_cases after before g x m) [
        | inl old ↦ inl (subst (λ (xs : List Exit). Contains xs x) same old)
        | inr new ↦
            (let y = map_among end_exit x ys (contained_among (map end_exit ys) x (subst (λ (xs : List Exit). Contains xs x) its_exits new)) in
            let a = each y.0 (among_contained ys y.0 y.1) in
            let here : Contains (exits_of after (at_end g y.0)) x = among_contained (exits_of after (at_end g y.0)) x (inl y.2) in
            elim (a.added.each x (new_exit after before (at_end g y.0) x here)) [
              | inl old ↦ inl old
              | inr of ↦ inr (of_more app (a.effect ∷ []) cases entry x (λ e l. elim (contained_among (a.effect ∷ []) e l) [
                | inl is ↦ subst (Contains cases) (sym is) a.listed
                | inr none ↦ absurd none
              ]) of)
            ])
      ];
      some = λ x m. elim (some x m) [
        | inl h ↦ still_for app x entry (all_exits after (before ++ at_end g h.end ∷ [])) (all_exits after (before ++ g ∷ [])) (exit_of_end h.end h.listed) (h.added.some x (among_contained (x ∷ []) x (inl refl)))
        | inr none ↦ nothing_taken app x entry (all_exits after (before ++ g ∷ [])) none size
      ];
    }

  -- ---- the ends of the group, settled

  module _ (goes : ℕ → Bool) (g h : ExitGroup) (by : IsSettledBy goes after g h) where
    -- with one end alone it is settled too
    pub end_by : (effect : EffectCase) (p : Point) (unasked : effect.leaving.asked ≡ asked.No) (stays : effect.leaving.stay ≡ stay.At p) (x y : NumberEnd)
        → g.decision ≡ Some decision.Keep → g.status ≡ effect.leaving.status → x.component < length g.entry.sets → x.target ≡ p
        → IsSettledEnd goes after x y → IsSettledBy goes after (alone effect p unasked stays (with_end g.entry x)) (at_end h y)
    end_by effect p unasked stays x y keep status there target s = record {
      decision = by.decision ∙ keep;
      status = by.status ∙ status;
      entry = subst (λ (i : ℕ). IsSettledEntry goes after (with_end g.entry x) (holding h.entry i y.numbers)) (sym s.component)
          (settled_held goes after g.entry h.entry by.entry x.component x.numbers y.numbers there s.numbers);
      ends = ap (λ (q : Point). ends.At (q ∷ [])) (s.target ∙ target);
    }

-- the ends of a settled group are those settled
pub record AreEndsOf (goes : ℕ → Bool) (pool : List Values) (xs : List NumberEnd) (e : Ends) : Type 0 where
  pub ys : List NumberEnd
  pub are : e ≡ ends.With ys
  pub each : AreSettledEach goes pool xs ys

pub ends_of_settled : (goes : ℕ → Bool) (pool : List Values) (xs : List NumberEnd) (e : Ends) → AreSettledEnds goes pool (ends.With xs) e → AreEndsOf goes pool xs e
ends_of_settled goes pool xs (ends.At points) h = absurd h
ends_of_settled goes pool xs (ends.With ys) h = record { ys = ys; are = refl; each = h }
