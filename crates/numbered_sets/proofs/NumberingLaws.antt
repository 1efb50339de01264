-- The numbers of the values of a set and of an entry, as the pool grows by them.
use Rattle.std.proofs.Common.{◌≡◌, ℕ, ◌+◌, ◌^◌, ◌<◌, ◌≤◌, Bool, false, ◌||◌, List, [], ◌∷◌, ◌++◌, length, get_or, set, take, map, refl, sym, ap, ap₂, subst, ◌∙◌, inl, inr, arith, IsTrue, append_assoc, get_or-set_same, get_or-set_other}
use Rattle.std.specs.List.{list_any}
use Rattle.std.proofs.{Math.ListN.{get_or-map, get_or-eq_default}, lemmas.{Bool.{cases_eq, cases_lt, or_cases, eqb-true}, List.{length-append, length-map, take_all}}}
use Rattle.std.proofs.lemmas.List.Folds.{list_any_more}
use Rattle.bit_words.proofs.BitCounts.{has_either, has_one}
use Rattle.osek_values.specs.Bits.{has_bit}
use Rattle.abstract_state.specs.declared.value.{Domain.{Domain}, PartValue.{PartValue}}
use Rattle.abstract_state.specs.declared.value.Domain.TheVariants as domain
use Rattle.abstract_state.specs.{declared.table.{ValueSet.{ValueSet}, PlainEntry.{PlainEntry}}, ValueOrder.{same_part}, Domains.{domains, IsSound}}
use Rattle.abstract_state.specs.Tables.{empty_set, set_at, is_member}
use Rattle.abstract_state.proofs.{JoinLaws.{equal_sets}, EntryJoins.{same_sets}}
use Rattle.numbered_sets.specs.{declared.numbered_entry.NumberedEntry.{NumberedEntry}, Numbers.{Numbers, numbers, has_number, with_number}, NumberedEntries.{no_set}}
use Rattle.numbered_sets.specs.Pools.{Values, no_values, value_seen, seen_at, values_at, domain_at, pool_domains, IsNumberOf, IsExtended, IsLonger}
use Rattle.numbered_sets.specs.Views.{values_with, in_order, plain_set, plain_entry, AreNumbersOf, IsNumberedSet}
use Rattle.numbered_sets.proofs.PlainLaws.{ascending_in_order, has_value, member_of_plain, values_with_none, values_longer, value_of_either, plain_set_at, length_plain}
use Rattle.numbered_sets.proofs.{ViewLaws.{false_unless, extended_by_none, longer_with, only_value}, KnownNumbers.{no_bit_of_none}, CopiedEntries.{domains_put}}

pub longer_itself : (pool : List Values) → IsLonger pool pool
longer_itself pool = record { domains = refl; values = λ c. extended_by_none (values_at pool c) }

pub extended_onward : (us vs ws : List PartValue) → IsExtended us vs → IsExtended vs ws → IsExtended us ws
extended_onward us vs ws h k = record { more = h.more ++ k.more; is = k.is ∙ ap (λ (xs : List PartValue). xs ++ k.more) h.is ∙ append_assoc us h.more k.more }

pub longer_onward : (a b c : List Values) → IsLonger a b → IsLonger b c → IsLonger a c
longer_onward a b c h k = record { domains = k.domains ∙ h.domains; values = λ i. extended_onward (values_at a i) (values_at b i) (values_at c i) (h.values i) (k.values i) }

pub as_long : (a b : List Values) → IsLonger a b → length b ≡ length a
as_long a b h = sym (length-map b (λ (x : Values). x.domain)) ∙ ap length h.domains ∙ length-map a (λ (x : Values). x.domain)

pub same_domain : (a b : List Values) (c : ℕ) → IsLonger a b → domain_at b c ≡ domain_at a c
same_domain a b c h =
    sym (get_or-map (λ (x : Values). x.domain) b c (no_values domain.Alarm))
    ∙ ap (λ (ds : List Domain). get_or ds c domain.Alarm) h.domains
    ∙ get_or-map (λ (x : Values). x.domain) a c (no_values domain.Alarm)

-- numbers of the first values stay those of the same ones
module _ (vs ws : List PartValue) (x : Numbers) (longer : IsExtended vs ws) (known : (n : ℕ) → IsTrue (has_number x n) → n < length vs) where
  pub known_on : (n : ℕ) → IsTrue (has_number x n) → n < length ws
  known_on n h = omega (arith, known n h, ap length longer.is, length-append vs longer.more)

  pub values_on : values_with ws (has_number x) ≡ values_with vs (has_number x)
  values_on =
      ap (λ (us : List PartValue). values_with us (has_number x)) longer.is
      ∙ values_longer vs longer.more (has_number x) (λ n le. false_unless (has_number x n) (n < length vs) (known n) (λ lt. omega (arith, lt, le)))

-- the numbers of the first members of a set
pub record IsNumberedUpTo (before : List Values) (c : ℕ) (d : Domain) (members : List PartValue) (k : ℕ) (pool : List Values) (x : Numbers) : Type 0 where
  pub longer : IsLonger before pool
  pub domain : x.domain ≡ d
  pub known : (n : ℕ) → IsTrue (has_number x n) → n < length (values_at pool c)
  pub values : (w : PartValue) → has_value (values_at pool c) (has_number x) w ≡ list_any (same_part w) (take k members)

none_passes : (n : ℕ) → has_bit 0 n ≡ false
none_passes n = false_unless (has_bit 0 n) ⊥ (no_bit_of_none n) (λ no. no)

pub numbered_begun : (pool : List Values) (c : ℕ) (d : Domain) (members : List PartValue) → IsNumberedUpTo pool c d members 0 pool (numbers d 0)
numbered_begun pool c d members = record {
  longer = longer_itself pool;
  domain = refl;
  known = λ n h. absurd (no_bit_of_none n h);
  values = λ w. ap (list_any (same_part w)) (values_with_none (values_at pool c) (has_bit 0) none_passes);
}

module _ (before : List Values) (c : ℕ) (d : Domain) (members : List PartValue) (k : ℕ) (pool : List Values) (x : Numbers) (v : PartValue) (n : ℕ) (after : List Values) (so_far : IsNumberedUpTo before c d members k pool x)
    (lt : k < length members) (at : get_or members k v ≡ v) (known : c < length pool) (grown : after ≡ set pool c (value_seen (seen_at pool c) v)) (is : IsNumberOf (values_at after c) v n) where
  grows : IsLonger pool after
  grows = subst (IsLonger pool) (sym grown) (longer_with pool c v known)

  pub grows_on : IsLonger before after
  grows_on = longer_onward before pool after so_far.longer grows

  pub numbered_more : IsNumberedUpTo before c d members (k + 1) after (with_number x n)
  numbered_more = record {
    longer = grows_on;
    domain = so_far.domain;
    known = λ m h. elim (or_cases (has_number x m) (has_bit (2 ^ n) m) (sym (has_either x.bits (2 ^ n) m) ∙ h)) [
      | inl old ↦ known_on (values_at pool c) (values_at after c) x (grows.values c) so_far.known m old
      | inr new ↦ (let number : m ≡ n = eqb-true m n (sym (has_one n m) ∙ new) in omega (arith, number, is.known))
    ];
    values = λ w.
        value_of_either (values_at after c) (has_number x) (has_bit (2 ^ n)) (has_number (with_number x n)) w (has_either x.bits (2 ^ n))
        ∙ ap₂ (λ (p q : Bool). p || q)
        (ap (list_any (same_part w)) (values_on (values_at pool c) (values_at after c) x (grows.values c) so_far.known) ∙ so_far.values w)
        (only_value (values_at after c) (has_bit (2 ^ n)) n v w (has_one n) is.known (is.is v))
        ∙ ap (λ (y : PartValue). list_any (same_part w) (take k members) || same_part w y) (sym at)
        ∙ sym (list_any_more (same_part w) members k v lt);
  }

pub numbered_whole : (before : List Values) (c : ℕ) (s : ValueSet) (k : ℕ) (pool : List Values) (x : Numbers) → IsSound s → length s.members ≤ k → IsNumberedUpTo before c s.domain s.members k pool x → IsNumberedSet pool c s x
numbered_whole before c s k pool x sound whole h =
    let same : (w : PartValue) → is_member (plain_set (values_at pool c) x) w ≡ is_member s w = λ w.
    (member_of_plain (values_at pool c) x w ∙ h.values w ∙ ap (list_any (same_part w)) (take_all k s.members whole)) in
    record {
      domain = h.domain;
      known = h.known;
      plain =
          equal_sets (plain_set (values_at pool c) x) s (ascending_in_order (values_with (values_at pool c) (has_number x))) sound.ascending h.domain
          (λ w m. sym (same w) ∙ m) (λ w m. same w ∙ m);
    }

-- a set stays numbered as the pool grows
pub numbered_on : (pool after : List Values) (c : ℕ) (s : ValueSet) (x : Numbers) → IsLonger pool after → IsNumberedSet pool c s x → IsNumberedSet after c s x
numbered_on pool after c s x longer h =
    let values = values_on (values_at pool c) (values_at after c) x (longer.values c) h.known in
    record {
      domain = h.domain;
      known = known_on (values_at pool c) (values_at after c) x (longer.values c) h.known;
      plain = (λ i. record { domain = x.domain; members = in_order (values i) }) ∙ h.plain;
    }

-- the sets of an entry, of which those up to one are numbered
pub record AreNumberedUpTo (before : List Values) (entry : PlainEntry) (k : ℕ) (pool : List Values) (sets : List Numbers) : Type 0 where
  pub longer : IsLonger before pool
  pub domains : map (λ (x : Numbers). x.domain) sets ≡ map (λ (s : ValueSet). s.domain) entry.sets
  pub each : (c : ℕ) → c < k → IsNumberedSet pool c (set_at entry c) (get_or sets c no_set)

domains_of_none : (ds : List Domain) → map (λ (x : Numbers). x.domain) (map (λ (d : Domain). numbers d 0) ds) ≡ ds
domains_of_none [] = refl
domains_of_none (d ∷ ds) = ap (λ (es : List Domain). d ∷ es) (domains_of_none ds)

pub none_numbered_yet : (pool : List Values) (entry : PlainEntry) (sets : List Numbers) → sets ≡ map (λ (d : Domain). numbers d 0) (domains entry) → AreNumberedUpTo pool entry 0 pool sets
none_numbered_yet pool entry sets is = record {
  longer = longer_itself pool;
  domains = ap (map (λ (x : Numbers). x.domain)) is ∙ domains_of_none (domains entry);
  each = λ c lt. absurd (omega (arith, lt));
}

module _ (sets : List Numbers) (entry : PlainEntry) (alike : map (λ (x : Numbers). x.domain) sets ≡ map (λ (s : ValueSet). s.domain) entry.sets) where
  pub as_many_sets : length sets ≡ length entry.sets
  as_many_sets = sym (length-map sets (λ (x : Numbers). x.domain)) ∙ ap length alike ∙ length-map entry.sets (λ (s : ValueSet). s.domain)

  pub domain_there : (c : ℕ) → (get_or sets c no_set).domain ≡ (set_at entry c).domain
  domain_there c =
      sym (get_or-map (λ (x : Numbers). x.domain) sets c no_set) ∙ ap (λ (ds : List Domain). get_or ds c domain.Alarm) alike
      ∙ get_or-map (λ (s : ValueSet). s.domain) entry.sets c empty_set

-- a set in its place
pub numbered_next : (before : List Values) (entry : PlainEntry) (k : ℕ) (pool after : List Values) (sets : List Numbers) (s : ValueSet) (x : Numbers) → k < length sets → AreNumberedUpTo before entry k pool sets → IsLonger pool after → set_at entry k ≡ s → IsNumberedSet after k s x
    → AreNumberedUpTo before entry (k + 1) after (set sets k x)
numbered_next before entry k pool after sets s x known h longer at is = record {
  longer = longer_onward before pool after h.longer longer;
  domains = domains_put sets k x known (is.domain ∙ sym (domain_there sets entry h.domains k ∙ ap (λ (y : ValueSet). y.domain) at)) ∙ h.domains;
  each = λ c lt. elim (cases_eq c k) [
    | inl same ↦
        subst (λ (j : ℕ). IsNumberedSet after j (set_at entry j) (get_or (set sets k x) j no_set)) (sym same)
        (subst (IsNumberedSet after k (set_at entry k)) (sym (get_or-set_same sets k x no_set known)) (subst (λ (y : ValueSet). IsNumberedSet after k y x) (sym at) is))
    | inr differ ↦
        (let below : c < k = omega (arith, lt, differ) in
        subst (IsNumberedSet after c (set_at entry c)) (sym (get_or-set_other sets k c x no_set differ)) (numbered_on pool after c (set_at entry c) (get_or sets c no_set) longer (h.each c below)))
  ];
}

module _ (before : List Values) (entry : PlainEntry) (pool : List Values) (numbered : NumberedEntry) (k : ℕ) (whole : k ≡ length entry.sets) (alike : domains entry ≡ pool_domains before) (h : AreNumberedUpTo before entry k pool numbered.sets) where
  pub numbered_known : AreNumbersOf pool numbered
  numbered_known = record {
    domains = h.domains ∙ alike ∙ sym h.longer.domains;
    known = λ c n member. elim (cases_lt c k) [
      | inl lt ↦ (h.each c lt).known n member
      | inr le ↦ absurd (no_bit_of_none n (sym (ap (λ (x : Numbers). has_number x n) (get_or-eq_default numbered.sets no_set (let many = as_many_sets numbered.sets entry h.domains in omega (arith, many, whole, le)))) ∙ member))
    ];
  }

  pub numbered_plain : plain_entry pool numbered ≡ entry
  numbered_plain =
      let sets =
      same_sets (plain_entry pool numbered).sets entry.sets (length_plain pool 0 numbered.sets ∙ as_many_sets numbered.sets entry h.domains) (λ c. elim (cases_lt c k) [
        | inl lt ↦ plain_set_at pool numbered c ∙ (h.each c lt).plain
        | inr le ↦
            get_or-eq_default (plain_entry pool numbered).sets empty_set (let many = as_many_sets numbered.sets entry h.domains in omega (arith, length_plain pool 0 numbered.sets, many, whole, le))
            ∙ sym (get_or-eq_default entry.sets empty_set (omega (arith, whole, le)))
      ]) in
      λ i. record { sets = sets i }
