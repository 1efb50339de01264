-- A join to one cell, by values.
use Rattle.std.proofs.Common.{◌≡◌, ℕ, ◌<◌, ◌≤◌, Bool, true, false, List, length, get_or, map, sym, ap, subst, ◌∙◌, inl, inr, arith, All}
use Rattle.std.specs.List.{range_with_len}
use Rattle.std.proofs.{Math.ListN.{get_or-map, get_or-eq_default}, lemmas.{Bool.{cases_lt}, List.{get_or_default}}}
use Rattle.std.proofs.lemmas.List.FromFn.{get_or-range_with_len, length-map-range_with_len}
use Rattle.bit_words.proofs.BitCounts.{no_bit_past}
use Rattle.abstract_state.specs.declared.value.PartValue.{PartValue, TheVariants.{OfAlarm}}
use Rattle.abstract_state.specs.declared.value.Domain.TheVariants as domain
use Rattle.abstract_state.specs.{declared.table.{ValueSet.{ValueSet}, PlainEntry.{PlainEntry}}, Concrete.{bits_number}}
use Rattle.abstract_state.specs.{Domains.{domains, IsSoundEntry, IsBelow}, Tables.{set_at, is_member, entry_values}}
use Rattle.abstract_state.proofs.BitLaws.{has_bit_of_number, number_few}
use Rattle.numbered_sets.specs.{declared.numbered_entry.NumberedEntry.{NumberedEntry}, Numbers.{Numbers, numbers, has_number}}
use Rattle.numbered_sets.specs.NumberedEntries.{no_set, numbers_at, number_domains, entry_numbers, AreSoundNumbers, IsBelowNumbers}
use Rattle.numbered_sets.specs.{Pools.{Values, no_values, values_at, domain_at, AreValues}, Views.{plain_entry, AreNumbersOf}}
use Rattle.numbered_sets.proofs.{PlainLaws.{has_value, member_of_plain, value_with_number, plain_set_at}, ViewLaws.{same_count, same_domains, plain_sound}}
use Rattle.numbered_sets.proofs.KnownNumbers.{found, no_bit_of_none, order_onward}
use Rattle.state_flow.specs.{declared.cells.Cell.{Cell}, Cells.{IsRaised, WasEvaluatedWith}, PlainCells.{plain_cell}}
use Rattle.state_flow.proofs.KeptEntries.{numbered_was, plain_was}

-- the numbers of the pool's values that pass a test
module _ (pool : List Values) (test : ℕ → ℕ → Bool) where
  numbers_of : ℕ → Numbers
  numbers_of c = numbers (domain_at pool c) (bits_number (test c) (length (values_at pool c)))

  numbers_passing : NumberedEntry
  numbers_passing = record { sets = map numbers_of (range_with_len 0 (length pool)) }

  passing_at : (c : ℕ) → c < length pool → numbers_at numbers_passing c ≡ numbers (domain_at pool c) (bits_number (test c) (length (values_at pool c)))
  unfolding numbers_passing numbers_of
  passing_at c below =
      let e = get_or-range_with_len 0 (length pool) c 0 below in
      let place : get_or (range_with_len 0 (length pool)) c 0 ≡ c = omega (arith, e) in
      get_or_default (map numbers_of (range_with_len 0 (length pool))) c no_set (numbers_of 0) (omega (arith, below, length-map-range_with_len numbers_of 0 (length pool)))
      ∙ get_or-map numbers_of (range_with_len 0 (length pool)) c 0 ∙ ap numbers_of place

  none_above : (c : ℕ) → length pool ≤ c → numbers_at numbers_passing c ≡ no_set
  unfolding numbers_passing numbers_of
  none_above c le = get_or-eq_default (map numbers_of (range_with_len 0 (length pool))) no_set (omega (arith, le, length-map-range_with_len numbers_of 0 (length pool)))

  no_values_above : (c : ℕ) → length pool ≤ c → length (values_at pool c) ≡ 0
  no_values_above c le = ap (λ (x : Values). length x.values) (get_or-eq_default pool (no_values domain.Alarm) le)

  there_at : (c n : ℕ) → n < length (values_at pool c) → has_number (numbers_at numbers_passing c) n ≡ test c n
  there_at c n lt = elim (cases_lt c (length pool)) [
    | inl below ↦ ap (λ (x : Numbers). has_number x n) (passing_at c below) ∙ has_bit_of_number (test c) (length (values_at pool c)) n lt
    | inr above ↦ absurd (let none = no_values_above c above in omega (arith, lt, none))
  ]

  known_there : (c n : ℕ) → has_number (numbers_at numbers_passing c) n ≡ true → n < length (values_at pool c)
  known_there c n h = elim (cases_lt n (length (values_at pool c))) [
    | inl lt ↦ lt
    | inr le ↦ elim (cases_lt c (length pool)) [
      | inl below ↦
          (let none : has_number (numbers_at numbers_passing c) n ≡ false =
          ap (λ (x : Numbers). has_number x n) (passing_at c below) ∙ no_bit_past (bits_number (test c) (length (values_at pool c))) (length (values_at pool c)) n (number_few (test c) (length (values_at pool c))) le in
          absurd (cc))
      | inr above ↦ absurd (no_bit_of_none n (sym (ap (λ (x : Numbers). has_number x n) (none_above c above)) ∙ h))
    ]
  ]

-- the numbers of the pool's values that an entry has
module _ (pool : List Values) (z : PlainEntry) where
  chosen : ℕ → ℕ → Bool
  chosen c n = is_member (set_at z c) (get_or (values_at pool c) n (OfAlarm false))

  into_numbers : (a : NumberedEntry) → AreNumbersOf pool a → IsBelow (plain_entry pool a) z → IsBelowNumbers a (numbers_passing pool chosen)
  unfolding chosen
  into_numbers a known below = record {
    each = λ c n h.
        (let vs = values_at pool c in
        let lt = known.known c n h in
        let v = get_or vs n (OfAlarm false) in
        let at : get_or vs n v ≡ v = get_or_default vs n v (OfAlarm false) lt in
        let was : is_member (set_at (plain_entry pool a) c) v ≡ true =
        ap (λ (s : ValueSet). is_member s v) (plain_set_at pool a c) ∙ member_of_plain vs (numbers_at a c) v ∙ value_with_number vs (has_number (numbers_at a c)) n v lt at h in
        there_at pool chosen c n lt ∙ below.each c v was);
  }

  out_of_numbers : (x : NumberedEntry) → IsBelowNumbers x (numbers_passing pool chosen) → IsBelow (plain_entry pool x) z
  unfolding chosen
  out_of_numbers x below = record {
    each = λ c v h.
        (let vs = values_at pool c in
        let was : has_value vs (has_number (numbers_at x c)) v ≡ true = sym (member_of_plain vs (numbers_at x c) v) ∙ sym (ap (λ (s : ValueSet). is_member s v) (plain_set_at pool x c)) ∙ h in
        let f = found vs (has_number (numbers_at x c)) v was in
        let picked : is_member (set_at z c) (get_or vs f.number (OfAlarm false)) ≡ true = sym (there_at pool chosen c f.number f.known) ∙ below.each c f.number f.there in
        subst (λ (w : PartValue). is_member (set_at z c) w ≡ true) (f.is (OfAlarm false)) picked);
  }

abbrev pub AreAlikeNumbers : NumberedEntry → NumberedEntry → Type 0
AreAlikeNumbers a b = number_domains a ≡ number_domains b

abbrev pub AreAlikeEntries : PlainEntry → PlainEntry → Type 0
AreAlikeEntries a b = domains a ≡ domains b

module _ (pool : List Values) (cell after : Cell NumberedEntry) (entry : NumberedEntry) (all : All AreValues pool) (known : AreNumbersOf pool cell.entry) (too : AreNumbersOf pool entry) (h : IsRaised AreSoundNumbers AreAlikeNumbers IsBelowNumbers entry_numbers cell entry after) where
  below_every : (a : NumberedEntry) → AreNumbersOf pool a → IsBelowNumbers a (numbers_passing pool (λ c n. true))
  below_every a of_pool = record { each = λ c n has. there_at pool (λ k m. true) c n (of_pool.known c n has) }

  pub raised_known : AreNumbersOf pool after.entry
  raised_known = record {
    domains = sym h.alike ∙ known.domains;
    known = λ c n has. known_there pool (λ k m. true) c n ((h.least (numbers_passing pool (λ k m. true)) (below_every cell.entry known) (below_every entry too)).each c n has);
  }

  pub raised_plain : IsRaised IsSoundEntry AreAlikeEntries IsBelow entry_values (plain_cell pool cell) (plain_entry pool entry) (plain_cell pool after)
  raised_plain = record {
    point = h.point;
    number = h.number;
    element = plain_sound pool after.entry all raised_known h.element.few;
    alike = same_domains pool 0 cell.entry.sets ∙ h.alike ∙ sym (same_domains pool 0 after.entry.sets);
    grows = order_onward pool cell.entry after.entry h.grows;
    joins = order_onward pool entry after.entry h.joins;
    least = λ z left right. out_of_numbers pool z after.entry (h.least (numbers_passing pool (chosen pool z)) (into_numbers pool z cell.entry known left) (into_numbers pool z entry too right));
    stays = h.stays;
    counts = (let old = same_count pool cell.entry all known in let new = same_count pool after.entry all raised_known in omega (arith, old, new, h.counts));
    evaluated = λ z was. let x = numbered_was pool after z was in subst (WasEvaluatedWith (plain_cell pool cell)) x.2 (plain_was pool cell x.0 (h.evaluated x.0 x.1));
    known = λ exits is. let before = h.known exits is in (before.0, ap (plain_entry pool) before.1);
  }
