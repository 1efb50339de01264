-- What a case with one condition more makes of an entry: what the effect does, with those values alone of a component that pass.
use Rattle.std.proofs.Common.{◌≡◌, ◌≢◌, ℕ, ◌<◌, Bool, ◌&&◌, List, [], ◌∷◌, length, get_or, refl, sym, ap, ap₂, subst, ◌∙◌, inl, inr, arith, IsTrue, get_or-set_same, get_or-set_other}
use Rattle.std.specs.Prelude.{Contains}
use Rattle.std.proofs.Math.ListN.{get_or-map}
use Rattle.std.proofs.lemmas.{Bool.{cases_eq, and_parts, false≢true}, List.{length-append, length-map, Elements.{All-from_get_or, Contains-append_left, Contains-append_right, Contains-push_cases}}}
use Rattle.osek_values.specs.Bits.{has_bit}
use Rattle.osek_standard.specs.declared.app.App.{App}
use Rattle.osek_standard.proofs.Members.{among_contained}
use Rattle.abstract_state.specs.declared.{value.{Domain.{Domain}, PartValue.{PartValue}}, table.{ValueSet.{ValueSet}, PlainEntry.{PlainEntry}}}
use Rattle.abstract_state.specs.{ValueOrder.{IsAscending}, Domains.{IsWithin, domains_of}, Tables.{empty_set, set_at, is_member}}
use Rattle.flow_model.specs.declared.{rule.Rule.{Rule}, test.Condition.{Condition}}
use Rattle.flow_model.specs.{Tests.{passes, PassesAt, value_after}, Rules.{Applies, HasNone}}
use Rattle.numbered_sets.specs.{declared.numbered_entry.NumberedEntry.{NumberedEntry}, Numbers.{Numbers, has_number}, NumberedEntries.{no_set, numbers_at, number_domains}}
use Rattle.numbered_sets.specs.{Pools.{Values, values_at, IsLonger}, Views.{values_with, plain_set, plain_entry, AreNumbersOf}}
use Rattle.numbered_sets.proofs.{PlainLaws.{ascending_in_order, member_of_plain, plain_set_at, length_plain}, ViewLaws.{same_view, same_domains}, KnownNumbers.{found}, SiftLaws.{some_value}}
use Rattle.flow_effects.specs.declared.effects.Alternatives.{Alternatives}
use Rattle.flow_effects.specs.Alternatives.{with_condition, AreApart}
use Rattle.flow_exits.specs.Leaving.{effect_rule}
use Rattle.point_exits.specs.{Passing.{AreTaken}, Applying.{KeepsDomains}, Groups.{holding, AreNumbersThere}, Deciding.{IsWhole}, Alternatives.{HasOwnValues, IsSiftedFor}}
use Rattle.point_exits.proofs.{NumbersPassing.{none_passes_bit}, GrowingPools.{held_known}, EntryCounts.{numbers_counted, applied_filled}}

module _ (app : App) (x : Alternatives) (apart : AreApart app x) (y : Condition) (listed : Contains x.conditions y)
    (pool : List Values) (entry : NumberedEntry) (known : AreNumbersOf pool entry) (alike : number_domains entry ≡ domains_of app) where
  abbrev k : ℕ
  k = y.component.0

  abbrev plain : PlainEntry
  plain = plain_entry pool entry

  abbrev common : Rule
  common = effect_rule x.effect

  abbrev rule : Rule
  rule = effect_rule (with_condition x.effect y)

  pub its_set : k < length entry.sets
  its_set = (let size = numbers_counted app entry alike in let lt = apart.known y listed in omega (arith, size, lt))

  there : k < length (plain_entry pool entry).sets
  there = (let long = length_plain pool 0 entry.sets in omega (arith, its_set, long))

  -- ---- the condition more is asked of its component alone, which is asked nothing else

  passes_more : (c : ℕ) (v : PartValue) → c ≢ k → PassesAt common.conditions c v → PassesAt rule.conditions c v
  passes_more c v other p z m at = elim (Contains-push_cases x.effect.conditions y z m) [
    | inl old ↦ p z old at
    | inr same ↦ absurd (other (sym at ∙ ap (λ (w : Condition). w.component.0) (sym same)))
  ]

  pub passes_fewer : (c : ℕ) (v : PartValue) → PassesAt rule.conditions c v → PassesAt common.conditions c v
  passes_fewer c v p z m at = p z (Contains-append_left x.effect.conditions (y ∷ []) z m) at

  passes_here : (c : ℕ) (v : PartValue) → c ≡ k → IsTrue (passes y.test v) → PassesAt rule.conditions c v
  passes_here c v same h z m at = elim (Contains-push_cases x.effect.conditions y z m) [
    | inl old ↦ absurd (apart.free z y old listed (at ∙ same))
    | inr is ↦ subst (λ (w : Condition). IsTrue (passes w.test v)) is h
  ]

  it_passes : (c : ℕ) (v : PartValue) → c ≡ k → PassesAt rule.conditions c v → IsTrue (passes y.test v)
  it_passes c v same p = p y (Contains-append_right x.effect.conditions (y ∷ []) y (among_contained (y ∷ []) y (inl refl))) (sym same)

  its_value : (c : ℕ) (v : PartValue) → c ≡ k → value_after x.effect.changes c v ≡ v
  its_value c v same = ap (λ (i : ℕ). value_after x.effect.changes i v) same ∙ apart.kept y v listed

  -- where the effect takes nothing, so does the case
  pub none_for : HasNone common plain → HasNone rule plain
  none_for h = record { component = h.component; known = h.known; none = λ v m p. h.none v m (passes_fewer h.component v p) }

  -- ---- the numbers of the values that pass

  module _ (n : Numbers) (s : IsSiftedFor pool entry y n) where
    was_there : (v : PartValue) → IsTrue (is_member (plain_set (values_at pool k) n) v) → IsTrue (is_member (set_at (plain_entry pool entry) k) v) × IsTrue (passes y.test v)
    was_there v m =
        let parts = and_parts (is_member (plain_set (values_at pool k) (numbers_at entry k)) v) (passes y.test v) (sym (s.values v) ∙ m) in
        (ap (λ (t : ValueSet). is_member t v) (plain_set_at pool entry k) ∙ parts.0, parts.1)

    still_there : (v : PartValue) → IsTrue (is_member (set_at (plain_entry pool entry) k) v) → IsTrue (passes y.test v) → IsTrue (is_member (plain_set (values_at pool k) n) v)
    still_there v m p = s.values v ∙ ap₂ (λ (a b : Bool). a && b) (sym (ap (λ (t : ValueSet). is_member t v) (plain_set_at pool entry k)) ∙ m) p

    pub known_below : (j : ℕ) → IsTrue (has_number n j) → j < length (values_at pool k)
    known_below j has = known.known k j (s.fewer j has)

    pub these : AreNumbersThere pool entry k n
    these = record { domain = s.domain; known = known_below }

    -- none passes
    pub none_passing : n.bits ≡ 0 → HasNone rule plain
    none_passing none = record {
      component = k;
      known = there;
      none = λ v m p.
          (let f = found (values_at pool k) (has_number n) v (sym (member_of_plain (values_at pool k) n v) ∙ still_there v m (it_passes k v refl p)) in
          absurd (false≢true (sym (ap (λ (b : ℕ). has_bit b f.number) none ∙ none_passes_bit f.number) ∙ f.there)));
    }

    module _ (some : 0 < n.bits) where
      taken : AreTaken common plain → AreTaken rule plain
      taken h c lt = elim (cases_eq c k) [
        | inl same ↦
            (let u = some_value (values_at pool k) n known_below some in
            let w = was_there u.0 u.1 in
            record { was = u.0; there = ap (λ (i : ℕ). is_member (set_at (plain_entry pool entry) i) u.0) same ∙ w.0; passes = passes_here c u.0 same w.1 })
        | inr other ↦ (let t = h c lt in record { was = t.was; there = t.there; passes = passes_more c t.was other t.passes })
      ]

      -- so the effect leaves values in their domains where the case does
      pub keeps : HasOwnValues plain → KeepsDomains rule plain → KeepsDomains common plain
      keeps own kept = record {
        sets = λ h c lt. record {
          each = λ v m p. elim (cases_eq c k) [
            | inl same ↦ subst (IsWithin (set_at (plain_entry pool entry) c).domain) (sym (its_value c v same)) (own c v lt m)
            | inr other ↦ (kept.sets (taken h) c lt).each v m (passes_more c v other p)
          ];
        };
      }

      module _ (after : List Values) (longer : IsLonger pool after) (made : NumberedEntry)
          (numbers : AreNumbersOf after made) (same : number_domains made ≡ number_domains entry) (applies : Applies common plain (plain_entry after made)) where
        abbrev left : NumberedEntry
        left = holding made k n

        pub in_made : k < length made.sets
        in_made =
            (let long = ap (λ (ds : List Domain). length ds) same in
            let a = length-map made.sets (λ (z : Numbers). z.domain) in
            let b = length-map entry.sets (λ (z : Numbers). z.domain) in
            omega (arith, its_set, long, a, b))

        here : numbers_at (holding made k n) k ≡ n
        here = get_or-set_same made.sets k n no_set in_made

        held_here : numbers_at (holding entry k n) k ≡ n
        held_here = get_or-set_same entry.sets k n no_set its_set

        -- the same values in the pool that grew
        at_it : set_at (plain_entry after (holding made k n)) k ≡ plain_set (values_at pool k) n
        at_it =
            let held : NumberedEntry = holding entry k n in
            plain_set_at after left k ∙ ap (plain_set (values_at after k)) (here ∙ sym held_here) ∙ sym (plain_set_at after held k)
            ∙ ap (λ (p : PlainEntry). set_at p k) (same_view pool after held longer (held_known pool entry k n its_set known these))
            ∙ plain_set_at pool held k ∙ ap (plain_set (values_at pool k)) held_here

        at_same : (c : ℕ) → c ≡ k → set_at (plain_entry after (holding made k n)) c ≡ plain_set (values_at pool k) n
        at_same c is = ap (set_at (plain_entry after (holding made k n))) is ∙ at_it

        beside : (c : ℕ) → c ≢ k → set_at (plain_entry after (holding made k n)) c ≡ set_at (plain_entry after made) c
        beside c other = plain_set_at after left c ∙ ap (plain_set (values_at after c)) (get_or-set_other made.sets k c n no_set other) ∙ sym (plain_set_at after made c)

        same_there : (numbers_at made k).domain ≡ (numbers_at entry k).domain
        same_there =
            sym (get_or-map (λ (z : Numbers). z.domain) made.sets k no_set) ∙ ap (λ (ds : List Domain). get_or ds k no_set.domain) same ∙ get_or-map (λ (z : Numbers). z.domain) entry.sets k no_set

        pub there_after : AreNumbersThere after made k n
        there_after = record {
          domain = s.domain ∙ sym same_there;
          known = λ j has. (let more = longer.values k in let lt = known_below j has in omega (arith, lt, ap length more.is, length-append (values_at pool k) more.more));
        }

        pub left_known : AreNumbersOf after (holding made k n)
        left_known = held_known after made k n in_made numbers there_after

        left_domains : number_domains (holding made k n) ≡ number_domains entry
        left_domains = left_known.domains ∙ sym numbers.domains ∙ same

        pub applied_alike : Applies rule plain (plain_entry after (holding made k n))
        applied_alike = record {
          domains = same_domains after 0 left.sets ∙ left_domains ∙ sym (same_domains pool 0 entry.sets);
          ascending = All-from_get_or (λ (t : ValueSet). IsAscending t.members) (plain_entry after left).sets empty_set (λ c _.
              subst (λ (t : ValueSet). IsAscending t.members) (sym (plain_set_at after left c)) (ascending_in_order (values_with (values_at after c) (has_number (numbers_at left c)))));
          from = λ c v lt m. elim (cases_eq c k) [
            | inl is ↦
                (let w = was_there v (sym (ap (λ (t : ValueSet). is_member t v) (at_same c is)) ∙ m) in
                record {
                  taken = record { was = v; there = ap (λ (i : ℕ). is_member (set_at (plain_entry pool entry) i) v) is ∙ w.0; passes = passes_here c v is w.1 };
                  becomes = its_value c v is;
                })
            | inr other ↦
                (let h = applies.from c v lt (sym (ap (λ (t : ValueSet). is_member t v) (beside c other)) ∙ m) in
                record { taken = record { was = h.taken.was; there = h.taken.there; passes = passes_more c h.taken.was other h.taken.passes }; becomes = h.becomes })
          ];
          to = λ c v lt m p. elim (cases_eq c k) [
            | inl is ↦
                subst (λ (u : PartValue). IsTrue (is_member (set_at (plain_entry after (holding made k n)) c) u)) (sym (its_value c v is))
                (ap (λ (t : ValueSet). is_member t v) (at_same c is) ∙ still_there v (ap (λ (i : ℕ). is_member (set_at (plain_entry pool entry) i) v) (sym is) ∙ m) (it_passes c v is p))
            | inr other ↦ ap (λ (t : ValueSet). is_member t (value_after x.effect.changes c v)) (beside c other) ∙ applies.to c v lt m (passes_fewer c v p)
          ];
          filled = taken applies.filled;
        }

        pub left_whole : IsWhole app after (holding made k n)
        left_whole = record {
          size = (let long = numbers_counted app (holding made k n) (left_domains ∙ alike) in omega (arith, long));
          numbers = left_known;
          filled = applied_filled app rule pool after entry left alike left_domains applied_alike;
        }
