-- Numbers of what a rule makes of the values that pass, set by set.
use Rattle.std.proofs.Common.{◌≡◌, ℕ, zero, suc, ◌+◌, ◌^◌, ◌<◌, ◌≤◌, Bool, true, false, ◌||◌, List, [], ◌∷◌, ◌++◌, length, get_or, set, take, map, refl, sym, ap, ap₂, subst, ◌∙◌, inl, inr, arith, IsTrue}
use Rattle.std.specs.{Prelude.{if◌then◌else◌}, List.{list_any}}
use Rattle.std.proofs.{Math.ListN.{get_or-map, get_or-eq_default}, lemmas.Bool.{cases_lt, cases_eq, or_cases, eqb-true}}
use Rattle.std.proofs.lemmas.List.{length-append, get_or_append_left, get_or_default, take_all, append-nil, Elements.{All-from_get_or}}
use Rattle.bit_words.proofs.BitCounts.{has_either, has_one}
use Rattle.osek_values.specs.Bits.{has_bit}
use Rattle.abstract_state.specs.declared.value.{Domain.{Domain}, PartValue.{PartValue, TheVariants.{OfAlarm}}}
use Rattle.abstract_state.specs.declared.value.Domain.TheVariants as domain
use Rattle.abstract_state.specs.{declared.table.ValueSet.{ValueSet}, ValueOrder.{same_part, IsAscending}, Tables.{empty_set, set_at}}
use Rattle.flow_model.specs.{declared.rule.Rule.{Rule}, Tests.{is_failed, value_after}, Rules.{Applies}}
use Rattle.numbered_sets.specs.{declared.numbered_entry.NumberedEntry.{NumberedEntry}, Numbers.{Numbers, numbers, has_number, with_number}}
use Rattle.numbered_sets.specs.{NumberedEntries.{no_set, numbers_at, number_domains}, Pools.{Values, no_values, value_seen, seen_at, values_at, domain_at, IsNumberOf, IsLonger}}
use Rattle.numbered_sets.specs.Views.{values_with, in_order, plain_set, plain_entry, AreNumbersOf}
use Rattle.numbered_sets.proofs.PlainLaws.{ascending_in_order, any_in_order, has_value, member_of_plain, values_with_none, values_more, value_of_either, plain_set_at, length_plain}
use Rattle.numbered_sets.proofs.{ViewLaws.{false_unless, longer_with, only_value, same_domains}, KnownNumbers.{no_bit_of_none}}
use Rattle.numbered_sets.proofs.NumberingLaws.{longer_itself, longer_onward, known_on, values_on}
use Rattle.point_exits.specs.Passing.{ArePassed}
use Rattle.point_exits.proofs.Passing.{IsWithValue, passed_one, passed_none}
use Rattle.point_exits.specs.{Passing.{AreTaken}, Applying.{IsPassedSoFar, IsPassedSet}, Changing.{AreAllPassed}}

-- the values of the numbers up to one, with the next one or without
pub next_value : (vs : List PartValue) (has : ℕ → Bool) (k : ℕ) (v : PartValue) → IsNumberOf vs v k → has k ≡ true → values_with (take (k + 1) vs) has ≡ values_with (take k vs) has ++ v ∷ []
next_value vs has k v is there =
    values_more vs k v has is.known (is.is v) ∙ ap (λ (b : Bool). values_with (take k vs) has ++ (if b then v ∷ [] else [])) there

pub no_next_value : (vs : List PartValue) (has : ℕ → Bool) (k : ℕ) → k < length vs → has k ≡ false → values_with (take (k + 1) vs) has ≡ values_with (take k vs) has
no_next_value vs has k lt none =
    let v = get_or vs k (OfAlarm false) in
    values_more vs k v has lt (get_or_default vs k v (OfAlarm false) lt) ∙ ap (λ (b : Bool). values_with (take k vs) has ++ (if b then v ∷ [] else [])) none ∙ append-nil (values_with (take k vs) has)

-- and past numbers that aren't there
pub values_skip_to : (vs : List PartValue) (has : ℕ → Bool) (k m : ℕ) → k ≤ m → m ≤ length vs → ((i : ℕ) → k ≤ i → i < m → has i ≡ false) → values_with (take m vs) has ≡ values_with (take k vs) has
values_skip_to vs has k zero le whole none = (let same : 0 ≡ k = omega (arith, le) in ap (λ (j : ℕ). values_with (take j vs) has) same)
values_skip_to vs has k (suc m) le whole none = elim (cases_eq k (suc m)) [
  | inl same ↦ ap (λ (j : ℕ). values_with (take j vs) has) (sym same)
  | inr differ ↦
      (let more : suc m ≡ m + 1 = omega arith in
      ap (λ (j : ℕ). values_with (take j vs) has) more ∙ no_next_value vs has m (omega (arith, whole)) (none m (omega (arith, le, differ)) (omega arith))
      ∙ values_skip_to vs has k m (omega (arith, le, differ)) (omega (arith, whole)) (λ i above below. none i above (omega (arith, below))))
]

-- ---- what is made

passed_same : (rule : Rule) (c : ℕ) (d : Domain) (old ys : List PartValue) (s : ValueSet) → ((v : PartValue) → list_any (same_part v) old ≡ list_any (same_part v) ys) → ArePassed rule c d old s → ArePassed rule c d ys s
passed_same rule c d old ys s same h = record {
  domain = h.domain;
  ascending = h.ascending;
  from = λ v m. (let o = h.from v m in record { was = o.was; there = sym (same o.was) ∙ o.there; passes = o.passes; becomes = o.becomes });
  to = λ v m p. h.to v (same v ∙ m) p;
}

pub none_passes_bit : (n : ℕ) → has_bit 0 n ≡ false
none_passes_bit n = false_unless (has_bit 0 n) ⊥ (no_bit_of_none n) (λ no. no)

pub passed_begun : (rule : Rule) (pool : List Values) (c : ℕ) (d : Domain) → IsPassedSoFar rule pool c d [] pool (numbers d 0)
passed_begun rule pool c d =
    let none : plain_set (values_at pool c) (numbers d 0) ≡ record { domain = d; members = [] } =
    (λ i. record { domain = d; members = in_order (values_with_none (values_at pool c) (has_bit 0) none_passes_bit i) }) in
    record {
      longer = longer_itself pool;
      domain = refl;
      known = λ n h. absurd (no_bit_of_none n h);
      passed = subst (ArePassed rule c d []) (sym none) (passed_none rule c d);
    }

module _ (rule : Rule) (before : List Values) (c : ℕ) (d : Domain) (done : List PartValue) (pool : List Values) (x : Numbers) (v : PartValue) (n : ℕ) (after : List Values) (h : IsPassedSoFar rule before c d done pool x)
    (known : c < length pool) (grown : after ≡ set pool c (value_seen (seen_at pool c) (value_after rule.changes c v))) (is : IsNumberOf (values_at after c) (value_after rule.changes c v) n) where
  grows : IsLonger pool after
  grows = subst (IsLonger pool) (sym grown) (longer_with pool c (value_after rule.changes c v) known)

  more : IsWithValue (plain_set (values_at pool c) x) (value_after rule.changes c v) (plain_set (values_at after c) (with_number x n))
  more = record {
    domain = refl;
    ascending = ascending_in_order (values_with (values_at after c) (has_number (with_number x n)));
    members = λ w.
        member_of_plain (values_at after c) (with_number x n) w
        ∙ value_of_either (values_at after c) (has_number x) (has_bit (2 ^ n)) (has_number (with_number x n)) w (has_either x.bits (2 ^ n))
        ∙ ap₂ (λ (p q : Bool). p || q)
        (ap (list_any (same_part w)) (values_on (values_at pool c) (values_at after c) x (grows.values c) h.known) ∙ sym (member_of_plain (values_at pool c) x w))
        (only_value (values_at after c) (has_bit (2 ^ n)) n (value_after rule.changes c v) w (has_one n) is.known (is.is (value_after rule.changes c v)));
  }

  pub passed_more : list_any (is_failed c v) rule.conditions ≡ false → IsPassedSoFar rule before c d (done ++ v ∷ []) after (with_number x n)
  passed_more passes = record {
    longer = longer_onward before pool after h.longer grows;
    domain = h.domain;
    known = λ m has. elim (or_cases (has_number x m) (has_bit (2 ^ n) m) (sym (has_either x.bits (2 ^ n) m) ∙ has)) [
      | inl old ↦ known_on (values_at pool c) (values_at after c) x (grows.values c) h.known m old
      | inr new ↦ (let number : m ≡ n = eqb-true m n (sym (has_one n m) ∙ new) in omega (arith, number, is.known))
    ];
    passed = passed_one rule c d done v (plain_set (values_at pool c) x) h.passed (plain_set (values_at after c) (with_number x n)) passes more;
  }

pub passed_whole : (rule : Rule) (before : List Values) (c : ℕ) (old : Numbers) (k : ℕ) (pool : List Values) (x : Numbers) → length (values_at before c) ≤ k → IsPassedSoFar rule before c old.domain (values_with (take k (values_at before c)) (has_number old)) pool x → IsPassedSet rule before c old pool x
passed_whole rule before c old k pool x whole h = record {
  domain = h.domain;
  known = h.known;
  passed =
      passed_same rule c old.domain (values_with (take k (values_at before c)) (has_number old)) (plain_set (values_at before c) old).members (plain_set (values_at pool c) x)
      (λ v. ap (λ (us : List PartValue). has_value us (has_number old) v) (take_all k (values_at before c) whole) ∙ sym (any_in_order v (values_with (values_at before c) (has_number old))))
      h.passed;
}

-- a number of the pool before is one of the pool after, of the same value
pub number_on : (before pool : List Values) (c n : ℕ) (v : PartValue) → IsLonger before pool → IsNumberOf (values_at before c) v n → IsNumberOf (values_at pool c) v n
number_on before pool c n v longer is =
    let more = longer.values c in
    record {
      known = omega (arith, is.known, ap length more.is, length-append (values_at before c) more.more);
      is = λ d. ap (λ (us : List PartValue). get_or us n d) more.is ∙ get_or_append_left (values_at before c) more.more d n is.known ∙ is.is d;
    }

-- ---- the sets of an entry

-- a set that was made stays so as the pool grows
pub passed_on : (rule : Rule) (before : List Values) (c : ℕ) (old : Numbers) (pool after : List Values) (x : Numbers) → IsLonger pool after → IsPassedSet rule before c old pool x → IsPassedSet rule before c old after x
passed_on rule before c old pool after x longer h =
    let values = values_on (values_at pool c) (values_at after c) x (longer.values c) h.known in
    let same : plain_set (values_at pool c) x ≡ plain_set (values_at after c) x = (λ i. record { domain = x.domain; members = in_order (sym values i) }) in
    record {
      domain = h.domain;
      known = known_on (values_at pool c) (values_at after c) x (longer.values c) h.known;
      passed = subst (ArePassed rule c old.domain (plain_set (values_at before c) old).members) same h.passed;
    }

pub domains_alike : (xs ys : List Numbers) → length xs ≡ length ys → ((c : ℕ) → (get_or xs c no_set).domain ≡ (get_or ys c no_set).domain) → map (λ (x : Numbers). x.domain) xs ≡ map (λ (x : Numbers). x.domain) ys
domains_alike [] [] e h = refl
domains_alike [] (y ∷ ys) e h = absurd (omega (arith, e))
domains_alike (x ∷ xs) [] e h = absurd (omega (arith, e))
domains_alike (x ∷ xs) (y ∷ ys) e h = ap₂ (λ (d : Domain) (ds : List Domain). d ∷ ds) (h 0) (domains_alike xs ys (omega (arith, e)) (λ c. h (suc c)))

module _ (rule : Rule) (before : List Values) (entry : NumberedEntry) (k : ℕ) (pool : List Values) (new : NumberedEntry) (whole : k ≡ length entry.sets) (known : AreNumbersOf before entry) (h : AreAllPassed (λ c. rule) before entry k pool new.sets) where
  same_domain_there : (c : ℕ) → (numbers_at new c).domain ≡ (numbers_at entry c).domain
  same_domain_there c = elim (cases_lt c k) [
    | inl lt ↦ (h.each c lt).domain
    | inr le ↦ ap (λ (x : Numbers). x.domain) (get_or-eq_default new.sets no_set (omega (arith, h.size, le)) ∙ sym (get_or-eq_default entry.sets no_set (omega (arith, whole, le))))
  ]

  same_number_domains : number_domains new ≡ number_domains entry
  same_number_domains = domains_alike new.sets entry.sets (omega (arith, h.size, whole)) same_domain_there

  at_entry : (c : ℕ) → c < length (plain_entry before entry).sets → c < k
  at_entry c lt = (let long = length_plain before 0 entry.sets in omega (arith, lt, long, whole))

  made_at : (c : ℕ) → c < length (plain_entry before entry).sets → ArePassed rule c (numbers_at entry c).domain (set_at (plain_entry before entry) c).members (set_at (plain_entry pool new) c)
  made_at c lt =
      subst (λ (s : ValueSet). ArePassed rule c (numbers_at entry c).domain s.members (set_at (plain_entry pool new) c)) (sym (plain_set_at before entry c))
      (subst (ArePassed rule c (numbers_at entry c).domain (plain_set (values_at before c) (numbers_at entry c)).members) (sym (plain_set_at pool new c)) (h.each c (at_entry c lt)).passed)

  pub made_applies : AreTaken rule (plain_entry before entry) → Applies rule (plain_entry before entry) (plain_entry pool new)
  made_applies taken = record {
    domains = same_domains pool 0 new.sets ∙ same_number_domains ∙ sym (same_domains before 0 entry.sets);
    ascending = All-from_get_or (λ (s : ValueSet). IsAscending s.members) (plain_entry pool new).sets empty_set (λ c _.
        subst (λ (s : ValueSet). IsAscending s.members) (sym (plain_set_at pool new c)) (ascending_in_order (values_with (values_at pool c) (has_number (numbers_at new c)))));
    from = λ c v lt m. (let o = (made_at c lt).from v m in record { taken = record { was = o.was; there = o.there; passes = o.passes }; becomes = o.becomes });
    to = λ c v lt m p. (made_at c lt).to v m p;
    filled = taken;
  }

-- what a set of the entry says over the pool as it is by then
module _ (before pool : List Values) (entry : NumberedEntry) (k : ℕ) (x : Numbers) (known : AreNumbersOf before entry) (longer : IsLonger before pool) (at : numbers_at entry k ≡ x) where
  pub alike_there : x.domain ≡ domain_at pool k
  alike_there =
      ap (λ (y : Numbers). y.domain) (sym at)
      ∙ sym (get_or-map (λ (y : Numbers). y.domain) entry.sets k no_set)
      ∙ ap (λ (ds : List Domain). get_or ds k domain.Alarm) (known.domains ∙ sym longer.domains)
      ∙ get_or-map (λ (y : Values). y.domain) pool k (no_values domain.Alarm)

  known_then : (n : ℕ) → IsTrue (has_number x n) → n < length (values_at before k)
  known_then n has = known.known k n (ap (λ (y : Numbers). has_number y n) at ∙ has)

  pub known_there : (n : ℕ) → IsTrue (has_number x n) → n < length (values_at pool k)
  known_there = known_on (values_at before k) (values_at pool k) x (longer.values k) known_then
