-- Values that were sorted, each with its number: whichever numbers are asked for, theirs come in order.
use Rattle.std.proofs.Common.{◌≡◌, ℕ, suc, ◌+◌, ◌<◌, Bool, true, false, ◌||◌, ◌&&◌, cond, List, [], ◌∷◌, ◌++◌, length, map, filter, take, get_or, refl, sym, ap, ap₂, ◌∙◌, arith}
use Rattle.std.specs.{Prelude.{if◌then◌else◌}, List.{list_any, IsDistinct, AllByRecursion, Sorted.{IsStrictlySortedBy, IsSortedBy, IsPermutation}}}
use Rattle.std.specs.{Ordering.{is_eq, is_lt, ordering_reverse}, declared.cmp.Ordering.{Ordering, TheVariants.{Less}}}
use Rattle.std.proofs.lemmas.List.{take_more, length-take-le, Elements.{recursion_from_All}, Kept.{IsStrictlySortedBy-filter}}
use Rattle.std.proofs.lemmas.{List.Sorted.{ranks_by, sorted_far, list_any-IsPermutation}, Map.Keys.{IsDistinct-IsPermutation, apart_from_distinct}}
use Rattle.abstract_state.specs.{declared.value.PartValue.{PartValue}, ValueOrder.{part_order, same_part, IsAscending}}
use Rattle.abstract_state.proofs.OrderLaws.{order_total, part_laws, same_list}
use Rattle.numbered_sets.specs.{Numbers.{has_number}, Views.{values_with, in_order}}
use Rattle.numbered_sets.proofs.PlainLaws.{ordered, any_first, any_in_order, ascending_in_order}
use Rattle.table_codec.specs.{declared.ascending.NumberedValue.{NumberedValue}, Ascending.{values_in, AreInOrder, numbered_value, numbered_from}}

abbrev pub number_order : NumberedValue → NumberedValue → Ordering
number_order a b = part_order a.value b.value

abbrev pub number_less : NumberedValue → NumberedValue → Bool
number_less a b = is_lt (part_order a.value b.value)

abbrev same_value : NumberedValue → NumberedValue → Bool
same_value a b = same_part a.value b.value

less_by : (a b : PartValue) → is_lt (part_order b a) ≡ false → same_part a b ≡ false → part_order a b ≡ Less
less_by a b behind other =
    ordered (λ (o : Ordering). o ≡ Less) (part_order a b)
    (λ e. refl)
    (λ e. absurd (let same : same_part a b ≡ true = ap is_eq e in cc))
    (λ e. absurd (let before : part_order b a ≡ Less = order_total.antisymm b a ∙ ap ordering_reverse e in let no : is_lt (part_order b a) ≡ true = ap is_lt before in cc))

strict_from : (xs : List NumberedValue) → ((i j : ℕ) (d : NumberedValue) → i < j → j < length xs → number_order (get_or xs i d) (get_or xs j d) ≡ Less) → IsStrictlySortedBy number_order xs
unfolding IsStrictlySortedBy
strict_from [] h = tt
strict_from (x ∷ xs) h = (
  recursion_from_All (λ (y : NumberedValue). number_order x y ≡ Less) xs (λ k d lt. h 0 (suc k) d (omega arith) (omega (arith, lt))),
  strict_from xs (λ i j d lt below. h (suc i) (suc j) d (omega (arith, lt)) (omega (arith, below))),
)

map_ascends : (xs : List NumberedValue) → IsStrictlySortedBy number_order xs → IsAscending (map (λ (v : NumberedValue). v.value) xs)
unfolding IsStrictlySortedBy
map_ascends [] up = tt
map_ascends (x ∷ xs) up = (heads x xs up.0, map_ascends xs up.1)
  where
    heads : (y : NumberedValue) (ys : List NumberedValue) → AllByRecursion (λ (z : NumberedValue). number_order y z ≡ Less) ys → AllByRecursion (λ (w : PartValue). part_order y.value w ≡ Less) (map (λ (v : NumberedValue). v.value) ys)
    heads y [] all = tt
    heads y (z ∷ ys) all = (all.0, heads y ys all.1)

-- ---- which values there are

any_filtered : (w : PartValue) (has : ℕ → Bool) (xs : List NumberedValue) → list_any (same_part w) (map (λ (v : NumberedValue). v.value) (filter (λ (v : NumberedValue). has v.number) xs)) ≡ list_any (λ (v : NumberedValue). has v.number && same_part w v.value) xs
any_filtered w has [] = refl
any_filtered w has (x ∷ xs) = by_test (has x.number) (any_filtered w has xs)
  where
    by_test : (b : Bool) → list_any (same_part w) (map (λ (v : NumberedValue). v.value) (filter (λ (v : NumberedValue). has v.number) xs)) ≡ list_any (λ (v : NumberedValue). has v.number && same_part w v.value) xs
        → list_any (same_part w) (map (λ (v : NumberedValue). v.value) (cond b (x ∷ filter (λ (v : NumberedValue). has v.number) xs) (filter (λ (v : NumberedValue). has v.number) xs)))
        ≡ ((b && same_part w x.value) || list_any (λ (v : NumberedValue). has v.number && same_part w v.value) xs)
    by_test true rest = ap (λ (c : Bool). same_part w x.value || c) rest
    by_test false rest = rest

pub values_same : (vs : List PartValue) (f g : ℕ → Bool) → ((n : ℕ) → f n ≡ g n) → values_with vs f ≡ values_with vs g
values_same [] f g e = refl
values_same (v ∷ vs) f g e = ap₂ (λ (b : Bool) (ws : List PartValue). (if b then v ∷ [] else []) ++ ws) (e 0) (values_same vs (λ n. f (suc n)) (λ n. g (suc n)) (λ n. e (suc n)))

any_numbered : (w : PartValue) (has : ℕ → Bool) (vs : List PartValue) (n : ℕ) → list_any (λ (v : NumberedValue). has v.number && same_part w v.value) (numbered_from n vs) ≡ list_any (same_part w) (values_with vs (λ k. has (n + k)))
any_numbered w has [] n = refl
any_numbered w has (v ∷ vs) n =
    let first : n ≡ n + 0 = omega arith in
    ap₂ (λ (b c : Bool). (b && same_part w v) || c) (ap has first)
    (any_numbered w has vs (n + 1) ∙ ap (list_any (same_part w)) (values_same vs (λ k. has (n + 1 + k)) (λ k. has (n + suc k)) (λ k. ap has (omega arith))))
    ∙ sym (any_first (has (n + 0)) v w (values_with vs (λ k. has (n + suc k))))

distinct_numbered : (vs : List PartValue) (n : ℕ) → IsDistinct same_part vs → IsDistinct same_value (numbered_from n vs)
unfolding IsDistinct
distinct_numbered [] n d = tt
distinct_numbered (v ∷ vs) n d = (heads vs (n + 1) d.0, distinct_numbered vs (n + 1) d.1)
  where
    heads : (ws : List PartValue) (m : ℕ) → AllByRecursion (λ w. same_part v w ≡ false) ws → AllByRecursion (λ (w : NumberedValue). same_part v w.value ≡ false) (numbered_from m ws)
    heads [] m all = tt
    heads (w ∷ ws) m all = (all.0, heads ws (m + 1) all.1)

module _ (vs : List PartValue) (all : List NumberedValue) (distinct : IsDistinct same_part vs) (moved : IsPermutation (numbered_from 0 vs) all) (sorted : IsSortedBy number_less all) where
  strict : IsStrictlySortedBy number_order all
  strict =
      let apart = IsDistinct-IsPermutation same_value (λ a b. part_flips a.value b.value) (numbered_from 0 vs) all moved (distinct_numbered vs 0 distinct) in
      strict_from all (λ i j d lt below.
      less_by (get_or all i d).value (get_or all j d).value (sorted_far number_less (ranks_by order_total (λ (v : NumberedValue). v.value)) all sorted i j d (omega (arith, lt)) below)
      (apart_from_distinct same_value all i j d apart lt below))
    where
      part_flips : (a b : PartValue) → same_part a b ≡ same_part b a
      part_flips a b = part_laws.symm a b

  -- Whichever set of numbers is asked for, its values come in order.
  pub sorted_in_order : AreInOrder vs all
  sorted_in_order x =
      same_list (in_order (values_with vs (has_number x))) (values_in x all) (ascending_in_order (values_with vs (has_number x)))
      (map_ascends (filter (λ (v : NumberedValue). has_number x v.number) all) (IsStrictlySortedBy-filter number_order (λ (v : NumberedValue). has_number x v.number) all strict))
      (λ w.
      any_in_order w (values_with vs (has_number x))
      ∙ ap (list_any (same_part w)) (values_same vs (has_number x) (λ k. has_number x (0 + k)) (λ k. ap (has_number x) (omega arith)))
      ∙ sym (any_numbered w (has_number x) vs 0)
      ∙ list_any-IsPermutation (λ (v : NumberedValue). has_number x v.number && same_part w v.value) (numbered_from 0 vs) all moved
      ∙ sym (any_filtered w (has_number x) all))

-- ---- with their numbers, one by one

numbered_push : (n : ℕ) (vs : List PartValue) (v : PartValue) → numbered_from n (vs ++ v ∷ []) ≡ numbered_from n vs ++ numbered_value (n + length vs) v ∷ []
numbered_push n [] v = (let same : n ≡ n + 0 = omega arith in ap (λ (m : ℕ). numbered_value m v ∷ []) same)
numbered_push n (x ∷ vs) v =
    let same : n + 1 + length vs ≡ n + suc (length vs) = omega arith in
    ap (λ (l : List NumberedValue). numbered_value n x ∷ l) (numbered_push (n + 1) vs v ∙ ap (λ (m : ℕ). numbered_from (n + 1) vs ++ numbered_value m v ∷ []) same)

-- the values below a number, and the one with it
pub numbered_more : (vs : List PartValue) (n : ℕ) (v : PartValue) → n < length vs → get_or vs n v ≡ v → numbered_from 0 (take (n + 1) vs) ≡ numbered_from 0 (take n vs) ++ numbered_value n v ∷ []
numbered_more vs n v lt is =
    let size : 0 + length (take n vs) ≡ n = omega (arith, length-take-le n vs (omega (arith, lt))) in
    ap (numbered_from 0) (take_more vs n v lt ∙ ap (λ (w : PartValue). take n vs ++ w ∷ []) is)
    ∙ numbered_push 0 (take n vs) v
    ∙ ap (λ (m : ℕ). numbered_from 0 (take n vs) ++ numbered_value m v ∷ []) size
