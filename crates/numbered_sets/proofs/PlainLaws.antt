-- Plain sets: their members in order, and what their numbers do to them.
use Rattle.std.proofs.Common.{◌≡◌, ℕ, zero, suc, ◌+◌, ◌<◌, ◌≤◌, Bool, true, false, ◌||◌, ◌&&◌, List, [], ◌∷◌, ◌++◌, length, get_or, take, refl, sym, ap, ap₂, subst, ◌∙◌, inl, inr, arith}
use Rattle.std.specs.Prelude.{if◌then◌else◌, ◌==◌}
use Rattle.std.proofs.lemmas.Nat.Bits.{bit_at-zero}
use Rattle.std.specs.{BTreeSet.{insert_key}, List.{All, list_any, Sorted.{IsStrictlySortedBy}}, Ordering.{match_ordering, ordering_reverse, is_eq}}
use Rattle.std.specs.declared.cmp.Ordering.{Ordering, TheVariants.{Less, Equal, Greater}}
use Rattle.std.proofs.{Math.{ListN.{get_or-eq_default}, Seq.{get_or-append_seam}}, lemmas.Bool.{cases_lt, cases_eq}}
use Rattle.std.proofs.lemmas.List.{length-append, take_all, get_or_append_left, get_or_default, Elements.{All-cons, All-weaker, All-from_recursion, recursion_from_All}}
use Rattle.std.proofs.lemmas.{List.Folds.{list_any-append}, Map.{Keys.{sorted_head, sorted_tail}, Views.{All-insert_key}}}
use Rattle.abstract_state.specs.{declared.{value.PartValue.{PartValue, TheVariants.{OfAlarm}}, table.ValueSet.{ValueSet}}, ValueOrder.{part_order, same_part, IsAscending}}
use Rattle.abstract_state.specs.Tables.{empty_set, set_at, is_member}
use Rattle.abstract_state.proofs.{JoinLaws.{equal_sets}, EntryJoins.{same_sets}, OrderLaws.{order_total, part_itself, part_right, ascending_none}}
use Rattle.numbered_sets.specs.{declared.numbered_entry.NumberedEntry.{NumberedEntry}, Numbers.{Numbers, has_number}, NumberedEntries.{no_set, numbers_at}}
use Rattle.numbered_sets.specs.{Pools.{Values, values_at}, Views.{values_with, in_order, plain_set, plain_sets, plain_entry}}
use Rattle.abstract_state.specs.declared.{value.PartValue.{PartValue}, table.ValueSet.{ValueSet}}

abbrev Before : PartValue → PartValue → Type 0
Before v w = part_order v w ≡ Less

-- the cases of an order, with what it is
pub ordered : (P : Ordering → Type 0) (o : Ordering) → (o ≡ Less → P Less) → (o ≡ Equal → P Equal) → (o ≡ Greater → P Greater) → P o
ordered P Less less equal greater = less refl
ordered P Equal less equal greater = equal refl
ordered P Greater less equal greater = greater refl

abbrev pub placed : PartValue → PartValue → List PartValue → Ordering → List PartValue
placed v x xs o = match_ordering o (v ∷ x ∷ xs) (x ∷ xs) (x ∷ insert_key part_order xs v)

all_before : (x : PartValue) (xs : List PartValue) → IsAscending (x ∷ xs) → All (Before x) xs
all_before x xs up = All-from_recursion (Before x) xs (sorted_head part_order x xs up)

ascending_first : (v : PartValue) (xs : List PartValue) → All (Before v) xs → IsAscending xs → IsAscending (v ∷ xs)
unfolding IsStrictlySortedBy
ascending_first v xs h up = (recursion_from_All (Before v) xs h, up)

ascending_with : (xs : List PartValue) (v : PartValue) → IsAscending xs → IsAscending (insert_key part_order xs v)
ascending_with [] v up = ascending_first v [] (λ i d lt. absurd (omega (arith, lt))) ascending_none
ascending_with (x ∷ xs) v up =
    ordered (λ (o : Ordering). IsAscending (placed v x xs o)) (part_order v x)
    (λ less. ascending_first v (x ∷ xs) (All-cons (Before v) x xs less (All-weaker (Before x) (Before v) (λ y k. order_total.trans v x y less k) xs (all_before x xs up))) up)
    (λ _. up)
    (λ greater.
    let before : Before x v = order_total.antisymm x v ∙ ap ordering_reverse greater in
    ascending_first x (insert_key part_order xs v) (All-insert_key part_order v (Before x) xs (all_before x xs up) before) (ascending_with xs v (sorted_tail part_order x xs up)))

pub ascending_in_order : (xs : List PartValue) → IsAscending (in_order xs)
ascending_in_order [] = ascending_none
ascending_in_order (x ∷ xs) = ascending_with (in_order xs) x (ascending_in_order xs)

or_swap : (a b c : Bool) → (a || (b || c)) ≡ (b || (a || c))
or_swap true true c = refl
or_swap true false c = refl
or_swap false true c = refl
or_swap false false c = refl

or_twice : (a b : Bool) → (a || b) ≡ (a || (a || b))
or_twice true b = refl
or_twice false b = refl

any_with : (w : PartValue) (xs : List PartValue) (v : PartValue) → list_any (same_part w) (insert_key part_order xs v) ≡ (same_part w v || list_any (same_part w) xs)
any_with w [] v = refl
any_with w (x ∷ xs) v =
    ordered (λ (o : Ordering). list_any (same_part w) (placed v x xs o) ≡ (same_part w v || list_any (same_part w) (x ∷ xs))) (part_order v x)
    (λ _. refl)
    (λ equal.
    let same : v ≡ x = part_right v x (ap is_eq equal) in
    subst (λ (y : PartValue). list_any (same_part w) (x ∷ xs) ≡ (same_part w y || list_any (same_part w) (x ∷ xs))) (sym same) (or_twice (same_part w x) (list_any (same_part w) xs)))
    (λ _. ap (λ (b : Bool). same_part w x || b) (any_with w xs v) ∙ or_swap (same_part w x) (same_part w v) (list_any (same_part w) xs))

pub any_in_order : (w : PartValue) (xs : List PartValue) → list_any (same_part w) (in_order xs) ≡ list_any (same_part w) xs
any_in_order w [] = refl
any_in_order w (x ∷ xs) = any_with w (in_order xs) x ∙ ap (λ (b : Bool). same_part w x || b) (any_in_order w xs)

-- whether a value has one of the numbers
abbrev pub has_value : List PartValue → (ℕ → Bool) → PartValue → Bool
has_value vs has w = list_any (same_part w) (values_with vs has)

pub member_of_plain : (vs : List PartValue) (x : Numbers) (w : PartValue) → is_member (plain_set vs x) w ≡ has_value vs (has_number x) w
member_of_plain vs x w = any_in_order w (values_with vs (has_number x))

-- with or without a first value
pub any_first : (b : Bool) (v w : PartValue) (xs : List PartValue) → list_any (same_part w) ((if b then v ∷ [] else []) ++ xs) ≡ ((b && same_part w v) || list_any (same_part w) xs)
any_first true v w xs = refl
any_first false v w xs = refl

-- where no number passes
pub values_with_none : (vs : List PartValue) (has : ℕ → Bool) → ((n : ℕ) → has n ≡ false) → values_with vs has ≡ []
values_with_none [] has none = refl
values_with_none (v ∷ vs) has none =
    ap (λ (b : Bool). (if b then v ∷ [] else []) ++ values_with vs (λ n. has (suc n))) (none 0) ∙ values_with_none vs (λ n. has (suc n)) (λ n. none (suc n))

append_first : (b : Bool) (v : PartValue) (xs ys : List PartValue) → (if b then v ∷ [] else []) ++ (xs ++ ys) ≡ ((if b then v ∷ [] else []) ++ xs) ++ ys
append_first true v xs ys = refl
append_first false v xs ys = refl

-- the values up to a number, and one more
pub values_more : (vs : List PartValue) (k : ℕ) (v : PartValue) (has : ℕ → Bool) → k < length vs → get_or vs k v ≡ v → values_with (take (k + 1) vs) has ≡ values_with (take k vs) has ++ (if has k then v ∷ [] else [])
values_more [] k v has lt at = absurd (omega (arith, lt))
values_more (x ∷ xs) zero v has lt at =
    let one : take (0 + 1) (x ∷ xs) ≡ x ∷ [] = refl in
    ap (λ (y : PartValue). (if has 0 then y ∷ [] else []) ++ []) at ∙ unit_first (has 0) v
  where
    unit_first : (b : Bool) (y : PartValue) → (if b then y ∷ [] else []) ++ [] ≡ (if b then y ∷ [] else [])
    unit_first true y = refl
    unit_first false y = refl
values_more (x ∷ xs) (suc k) v has lt at =
    let next : suc k + 1 ≡ suc (k + 1) = omega arith in
    ap (λ (n : ℕ). values_with (take n (x ∷ xs)) has) next
    ∙ ap (λ (ws : List PartValue). (if has 0 then x ∷ [] else []) ++ ws) (values_more xs k v (λ n. has (suc n)) (omega (arith, lt)) at)
    ∙ append_first (has 0) x (values_with (take k xs) (λ n. has (suc n))) (if has (suc k) then v ∷ [] else [])

-- values beyond the numbers
pub values_longer : (vs ws : List PartValue) (has : ℕ → Bool) → ((n : ℕ) → length vs ≤ n → has n ≡ false) → values_with (vs ++ ws) has ≡ values_with vs has
values_longer [] ws has none = values_with_none ws has (λ n. none n (omega arith))
values_longer (v ∷ vs) ws has none =
    ap (λ (us : List PartValue). (if has 0 then v ∷ [] else []) ++ us) (values_longer vs ws (λ n. has (suc n)) (λ n le. none (suc n) (omega (arith, le))))

-- the values of either
either : (f g s a b : Bool) → (((f || g) && s) || (a || b)) ≡ (((f && s) || a) || ((g && s) || b))
either true true true a b = refl
either true false true a b = refl
either false true true true b = refl
either false true true false b = refl
either false false true a b = refl
either true true false a b = refl
either true false false a b = refl
either false true false a b = refl
either false false false a b = refl

pub value_of_either : (vs : List PartValue) (f g h : ℕ → Bool) (w : PartValue) → ((n : ℕ) → h n ≡ (f n || g n)) → has_value vs h w ≡ (has_value vs f w || has_value vs g w)
value_of_either [] f g h w e = refl
value_of_either (v ∷ vs) f g h w e =
    any_first (h 0) v w (values_with vs (λ n. h (suc n)))
    ∙ ap₂ (λ (b c : Bool). (b && same_part w v) || c) (e 0) (value_of_either vs (λ n. f (suc n)) (λ n. g (suc n)) (λ n. h (suc n)) w (λ n. e (suc n)))
    ∙ either (f 0) (g 0) (same_part w v) (has_value vs (λ n. f (suc n)) w) (has_value vs (λ n. g (suc n)) w)
    ∙ sym (ap₂ (λ (b c : Bool). b || c) (any_first (f 0) v w (values_with vs (λ n. f (suc n)))) (any_first (g 0) v w (values_with vs (λ n. g (suc n)))))

-- a value with its number
pub value_with_number : (vs : List PartValue) (has : ℕ → Bool) (n : ℕ) (v : PartValue) → n < length vs → get_or vs n v ≡ v → has n ≡ true → has_value vs has v ≡ true
value_with_number [] has n v lt at passes = absurd (omega (arith, lt))
value_with_number (x ∷ xs) has zero v lt at passes =
    any_first (has 0) x v (values_with xs (λ n. has (suc n)))
    ∙ ap₂ (λ (b : Bool) (y : PartValue). (b && same_part v y) || has_value xs (λ n. has (suc n)) v) passes at
    ∙ ap (λ (b : Bool). b || has_value xs (λ n. has (suc n)) v) (part_itself v)
value_with_number (x ∷ xs) has (suc n) v lt at passes =
    any_first (has 0) x v (values_with xs (λ k. has (suc k)))
    ∙ or_last (has 0 && same_part v x) (has_value xs (λ k. has (suc k)) v) (value_with_number xs (λ k. has (suc k)) n v (omega (arith, lt)) at passes)
  where
    or_last : (a b : Bool) → b ≡ true → (a || b) ≡ true
    or_last true b e = refl
    or_last false b e = e

-- ---- entries

pub plain_at : (pool : List Values) (c k : ℕ) (xs : List Numbers) → get_or (plain_sets pool c xs) k empty_set ≡ plain_set (values_at pool (c + k)) (get_or xs k no_set)
plain_at pool c k [] = sym (ap (λ (ws : List PartValue). in_set (in_order ws)) (values_with_none (values_at pool (c + k)) (has_number no_set) no_bit))
  where
    in_set : List PartValue → ValueSet
    in_set ws = record { domain = no_set.domain; members = ws }

    no_bit : (n : ℕ) → has_number no_set n ≡ false
    no_bit n = ap (λ (b : ℕ). b == 1) (bit_at-zero n)
plain_at pool c zero (x ∷ xs) = (let same : c ≡ c + 0 = omega arith in ap (λ (n : ℕ). plain_set (values_at pool n) x) same)
plain_at pool c (suc k) (x ∷ xs) = (let same : suc c + k ≡ c + suc k = omega arith in plain_at pool (suc c) k xs ∙ ap (λ (n : ℕ). plain_set (values_at pool n) (get_or xs k no_set)) same)

pub plain_set_at : (pool : List Values) (entry : NumberedEntry) (c : ℕ) → set_at (plain_entry pool entry) c ≡ plain_set (values_at pool c) (numbers_at entry c)
plain_set_at pool entry c = (let same : 0 + c ≡ c = omega arith in plain_at pool 0 c entry.sets ∙ ap (λ (n : ℕ). plain_set (values_at pool n) (numbers_at entry c)) same)

pub length_plain : (pool : List Values) (c : ℕ) (xs : List Numbers) → length (plain_sets pool c xs) ≡ length xs
length_plain pool c [] = refl
length_plain pool c (x ∷ xs) = (let rest = length_plain pool (suc c) xs in omega (arith, rest))

-- a set with the values of the numbers below one
pub record IsPlainUpTo (vs : List PartValue) (x : Numbers) (k : ℕ) (set : ValueSet) : Type 0 where
  pub domain : set.domain ≡ x.domain
  pub ascending : IsAscending set.members
  pub members : (w : PartValue) → is_member set w ≡ has_value (take k vs) (has_number x) w

pub plain_begun : (vs : List PartValue) (x : Numbers) (set : ValueSet) → set ≡ record { domain = x.domain; members = [] } → IsPlainUpTo vs x 0 set
plain_begun vs x set e =
    subst (IsPlainUpTo vs x 0) (sym e) (record { domain = refl; ascending = ascending_none; members = λ w. refl })

one_more : (b : Bool) (w v : PartValue) → list_any (same_part w) (if b then v ∷ [] else []) ≡ (b && same_part w v)
one_more true w v = or_end (same_part w v)
  where
    or_end : (b : Bool) → (b || false) ≡ b
    or_end true = refl
    or_end false = refl
one_more false w v = refl

pub plain_more : (vs : List PartValue) (x : Numbers) (k : ℕ) (set after : ValueSet) (v : PartValue) → k < length vs → get_or vs k v ≡ v → IsPlainUpTo vs x k set
    → after.domain ≡ set.domain → IsAscending after.members → ((w : PartValue) → is_member after w ≡ (is_member set w || (has_number x k && same_part w v))) → IsPlainUpTo vs x (k + 1) after
plain_more vs x k set after v lt at h domain up members = record {
  domain = domain ∙ h.domain;
  ascending = up;
  members = λ w.
      members w
      ∙ ap₂ (λ (a b : Bool). a || b) (h.members w) (sym (one_more (has_number x k) w v))
      ∙ sym (list_any-append (same_part w) (values_with (take k vs) (has_number x)) (if has_number x k then v ∷ [] else []))
      ∙ sym (ap (list_any (same_part w)) (values_more vs k v (has_number x) lt at));
}

or_neither : (a b c : Bool) → b ≡ false → a ≡ (a || (b && c))
or_neither a true c e = absurd (cc)
or_neither true false c e = refl
or_neither false false c e = refl

or_both : (a b c : Bool) → b ≡ true → (a || c) ≡ (a || (b && c))
or_both a true c e = refl
or_both a false c e = absurd (cc)

-- the next value's number is in the set, or it isn't
pub plain_put : (vs : List PartValue) (x : Numbers) (k : ℕ) (set after : ValueSet) (v : PartValue) → k < length vs → get_or vs k v ≡ v → IsPlainUpTo vs x k set → has_number x k ≡ true
    → after.domain ≡ set.domain → IsAscending after.members → ((w : PartValue) → is_member after w ≡ (is_member set w || same_part w v)) → IsPlainUpTo vs x (k + 1) after
plain_put vs x k set after v lt at h has domain up members =
    plain_more vs x k set after v lt at h domain up (λ w. members w ∙ or_both (is_member set w) (has_number x k) (same_part w v) has)

pub plain_skip : (vs : List PartValue) (x : Numbers) (k : ℕ) (set : ValueSet) → k < length vs → IsPlainUpTo vs x k set → has_number x k ≡ false → IsPlainUpTo vs x (k + 1) set
plain_skip vs x k set lt h none =
    let v = get_or vs k (OfAlarm false) in
    plain_more vs x k set set v lt (get_or_default vs k v (OfAlarm false) lt) h refl h.ascending (λ w. or_neither (is_member set w) (has_number x k) (same_part w v) none)

pub plain_whole : (vs : List PartValue) (x : Numbers) (k : ℕ) (set : ValueSet) → length vs ≤ k → IsPlainUpTo vs x k set → set ≡ plain_set vs x
plain_whole vs x k set whole h =
    let same : (w : PartValue) → is_member set w ≡ is_member (plain_set vs x) w = λ w.
    (h.members w ∙ ap (λ (us : List PartValue). has_value us (has_number x) w) (take_all k vs whole) ∙ sym (member_of_plain vs x w)) in
    equal_sets set (plain_set vs x) h.ascending (ascending_in_order (values_with vs (has_number x))) h.domain (λ w m. sym (same w) ∙ m) (λ w m. same w ∙ m)

-- the first sets of an entry
pub record AreFirstPlain (pool : List Values) (entry : NumberedEntry) (k : ℕ) (sets : List ValueSet) : Type 0 where
  pub size : length sets ≡ k
  pub each : (c : ℕ) → c < k → get_or sets c empty_set ≡ set_at (plain_entry pool entry) c

pub plain_next : (pool : List Values) (entry : NumberedEntry) (k : ℕ) (sets : List ValueSet) (x : Numbers) (set : ValueSet) → AreFirstPlain pool entry k sets → numbers_at entry k ≡ x → set ≡ plain_set (values_at pool k) x
    → AreFirstPlain pool entry (k + 1) (sets ++ set ∷ [])
plain_next pool entry k sets x set h at is = record {
  size = omega (arith, length-append sets (set ∷ []), h.size);
  each = λ c lt. elim (cases_lt c k) [
    | inl below ↦ get_or_append_left sets (set ∷ []) empty_set c (omega (arith, below, h.size)) ∙ h.each c below
    | inr above ↦
        (let same : c ≡ k = omega (arith, lt, above) in
        ap (λ (n : ℕ). get_or (sets ++ set ∷ []) n empty_set) (same ∙ sym h.size) ∙ get_or-append_seam sets set [] empty_set ∙ is
        ∙ ap (plain_set (values_at pool k)) (sym at) ∙ sym (plain_set_at pool entry k) ∙ ap (set_at (plain_entry pool entry)) (sym same))
  ];
}

pub all_plain : (pool : List Values) (entry : NumberedEntry) (k : ℕ) (sets : List ValueSet) → k ≡ length entry.sets → AreFirstPlain pool entry k sets → sets ≡ (plain_entry pool entry).sets
all_plain pool entry k sets whole h =
    same_sets sets (plain_entry pool entry).sets (omega (arith, h.size, whole, length_plain pool 0 entry.sets)) (λ c. elim (cases_lt c k) [
      | inl lt ↦ h.each c lt
      | inr le ↦
          get_or-eq_default sets empty_set (omega (arith, h.size, le))
          ∙ sym (get_or-eq_default (plain_entry pool entry).sets empty_set (omega (arith, whole, le, length_plain pool 0 entry.sets)))
    ])

pub plain_skip_to : (vs : List PartValue) (x : Numbers) (k : ℕ) (set : ValueSet) (m : ℕ) → k ≤ m → m ≤ length vs → IsPlainUpTo vs x k set → ((i : ℕ) → k ≤ i → i < m → has_number x i ≡ false) → IsPlainUpTo vs x m set
plain_skip_to vs x k set zero le whole h none = (let same : k ≡ 0 = omega (arith, le) in subst (λ (j : ℕ). IsPlainUpTo vs x j set) same h)
plain_skip_to vs x k set (suc m) le whole h none = elim (cases_eq k (suc m)) [
  | inl same ↦ subst (λ (j : ℕ). IsPlainUpTo vs x j set) same h
  | inr differ ↦
      (let rest = plain_skip_to vs x k set m (omega (arith, le, differ)) (omega (arith, whole)) h (λ i above below. none i above (omega (arith, below))) in
      let more : m + 1 ≡ suc m = omega arith in
      subst (λ (j : ℕ). IsPlainUpTo vs x j set) more (plain_skip vs x m set (omega (arith, whole)) rest (none m (omega (arith, le, differ)) (omega arith))))
]
