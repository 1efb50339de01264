-- The order of values is total and ties no two, so an ascending list has its members at their places alone.
use Rattle.std.proofs.Common.{◌≡◌, ℕ, zero, suc, ◌+◌, ◌-◌, ◌<◌, Bool, true, false, ◌||◌, List, [], ◌∷◌, length, get_or, take, drop, map, refl, sym, subst, ap, ap₂, ◌∙◌, arith}
use Rattle.std.specs.{Cmp.{IsTotalOrder, IsEquivalence, Lexicographic.{slice_cmp}}, List.{list_any, All, insert, Sorted.{IsStrictlySortedBy}}}
use Rattle.std.specs.{Ordering.{is_eq, bool_cmp, nat_cmp, ordering_reverse, ordering_then}, declared.cmp.Ordering.{Ordering, TheVariants.{Less, Equal, Greater}}}
use Rattle.std.proofs.lemmas.Cmp.{on_total, nat_list_cmp_total, eq_by_cmp_equiv}
use Rattle.std.proofs.lemmas.List.Elements.{All-nil, All-cons, All-head, All-tail, All-append, All-weaker, All-take, All-drop, All-more, All-get_or, All-from_recursion, recursion_from_All}
use Rattle.std.proofs.lemmas.{List.{take_all, Sorted.{IsPermutation-insert, list_any-IsPermutation}}, Map.Keys.{sorted_head, sorted_tail}}
use Rattle.std.proofs.lemmas.Map.Lookups.{exact_bytes, btree_set_from_contains}
use Rattle.std.specs.BTreeSet.{BTreeSet}
use Rattle.osek_values.specs.{Numbers.{block_no, res_no}, declared.numbers.ResNo.{ResNo}}
use Rattle.abstract_state.specs.declared.value.{Val.{Val, TheVariants.{Suspended, Live, Waiting}}, SourceVal.{SourceVal}, PartValue.{PartValue, TheVariants.{OfTask, OfEvent, OfAlarm, OfSource}}}
use Rattle.abstract_state.specs.declared.value.SourceVal.TheVariants as source_val
use Rattle.abstract_state.specs.ValueOrder.{val_fields, flag_field, source_fields, part_fields, part_order, same_part, IsAscending, AreBefore, IsPlace, IsGap}

pub order_total : IsTotalOrder part_order
order_total = on_total part_fields nat_list_cmp_total

same_stack : (xs ys : List ResNo) → map (λ (q : ResNo). q.0) xs ≡ map (λ (q : ResNo). q.0) ys → xs ≡ ys
same_stack [] [] e = refl
same_stack (q ∷ xs) (r ∷ ys) e =
    let first : q.0 ≡ r.0 = cc in
    let rest : map (λ (q : ResNo). q.0) xs ≡ map (λ (q : ResNo). q.0) ys = cc in
    ap₂ (λ (x : ResNo) (more : List ResNo). x ∷ more) (ap res_no first) (same_stack xs ys rest)
same_stack [] (r ∷ ys) e = absurd (cc)
same_stack (q ∷ xs) [] e = absurd (cc)

-- resources in their order are in that of their numbers
pub held_order : (xs ys : List ResNo) → slice_cmp (λ (q r : ResNo). nat_cmp q.0 r.0) xs ys ≡ slice_cmp nat_cmp (map (λ (q : ResNo). q.0) xs) (map (λ (q : ResNo). q.0) ys)
held_order [] [] = refl
held_order [] (r ∷ ys) = refl
held_order (q ∷ xs) [] = refl
held_order (q ∷ xs) (r ∷ ys) = ap (ordering_then (nat_cmp q.0 r.0)) (held_order xs ys)

-- a flag that isn't set is before one that is
pub flag_order : (a b : Bool) → bool_cmp a b ≡ nat_cmp (flag_field a) (flag_field b)
flag_order false false = refl
flag_order false true = refl
flag_order true false = refl
flag_order true true = refl

pub same_flag : (a b : Bool) → flag_field a ≡ flag_field b → a ≡ b
same_flag false false e = refl
same_flag true true e = refl
same_flag false true e = absurd (omega (arith, e))
same_flag true false e = absurd (omega (arith, e))

same_val : (v w : Val) → val_fields v ≡ val_fields w → v ≡ w
same_val Suspended Suspended e = refl
same_val (Live x) (Live y) e =
    let block : x.block.0 ≡ y.block.0 = cc in
    let further : x.further ≡ y.further = cc in
    let flag : flag_field x.inside ≡ flag_field y.inside = cc in
    let inside = same_flag x.inside y.inside flag in
    let stack : map (λ (q : ResNo). q.0) x.held ≡ map (λ (q : ResNo). q.0) y.held = cc in
    let held = same_stack x.held y.held stack in
    λ i. Live (record { block = block_no (block i); further = further i; inside = inside i; held = held i })
same_val (Waiting b) (Waiting c) e = let block : b.0 ≡ c.0 = cc in ap (λ (n : ℕ). Waiting (block_no n)) block
same_val _ _ e = absurd (cc)

same_source : (v w : SourceVal) → source_fields v ≡ source_fields w → v ≡ w
same_source source_val.Out source_val.Out e = refl
same_source (source_val.In x) (source_val.In y) e =
    let block : x.block.0 ≡ y.block.0 = cc in
    let stack : map (λ (q : ResNo). q.0) x.held ≡ map (λ (q : ResNo). q.0) y.held = cc in
    let held = same_stack x.held y.held stack in
    λ i. source_val.In (record { block = block_no (block i); held = held i })
same_source _ _ e = absurd (cc)

same_fields : (v w : PartValue) → part_fields v ≡ part_fields w → v ≡ w
same_fields (OfTask v) (OfTask w) e = let fields : val_fields v ≡ val_fields w = cc in ap OfTask (same_val v w fields)
same_fields (OfEvent a) (OfEvent b) e = let flag : flag_field a ≡ flag_field b = cc in ap OfEvent (same_flag a b flag)
same_fields (OfAlarm a) (OfAlarm b) e = let flag : flag_field a ≡ flag_field b = cc in ap OfAlarm (same_flag a b flag)
same_fields (OfSource v) (OfSource w) e = let fields : source_fields v ≡ source_fields w = cc in ap OfSource (same_source v w fields)
same_fields _ _ e = absurd (cc)

tied : (o : Ordering) → is_eq o ≡ true → o ≡ Equal
tied Equal e = refl
tied Less e = absurd (cc)
tied Greater e = absurd (cc)

pub tied_same : (v w : PartValue) → part_order v w ≡ Equal → v ≡ w
tied_same v w e = same_fields v w (exact_bytes (part_fields v) (part_fields w) e)

pub part_right : (v w : PartValue) → same_part v w ≡ true → v ≡ w
part_right v w e = tied_same v w (tied (part_order v w) e)

pub part_laws : IsEquivalence same_part
part_laws = eq_by_cmp_equiv order_total

pub part_itself : (v : PartValue) → same_part v v ≡ true
part_itself v = part_laws.refl v

differ_after : (v w : PartValue) → part_order v w ≡ Less → same_part v w ≡ false
differ_after v w h = ap is_eq h

differ_before : (v w : PartValue) → part_order w v ≡ Less → same_part v w ≡ false
differ_before v w h = ap is_eq (order_total.antisymm v w ∙ ap ordering_reverse h)

none_of : (a b : Bool) → a ≡ false → b ≡ false → (a || b) ≡ false
none_of a b e f = ap₂ (λ (x y : Bool). x || y) e f

abbrev Before : PartValue → PartValue → Type 0
Before v w = part_order v w ≡ Less

-- what is before the first is before all
all_after : (v x : PartValue) (xs : List PartValue) → IsAscending (x ∷ xs) → Before v x → All (Before v) (x ∷ xs)
all_after v x xs up h =
    All-cons (Before v) x xs h
    (All-weaker (Before x) (Before v) (λ y k. order_total.trans v x y h k) xs (All-from_recursion (Before x) xs (sorted_head part_order x xs up)))

pub none_passed : (xs : List PartValue) (v : PartValue) → AreBefore xs 0 v
none_passed xs v = record { known = omega arith; each = All-nil (λ (w : PartValue). Before w v) }

-- where the last is before a value, all are
all_before : (xs : List PartValue) (m v : PartValue) → IsAscending xs → 0 < length xs → get_or xs (length xs - 1) m ≡ m → Before m v → All (λ (w : PartValue). Before w v) xs
all_before [] m v up some is h = absurd (omega (arith, some))
all_before (x ∷ []) m v up some is h = All-cons (λ (w : PartValue). Before w v) x [] (subst (λ (w : PartValue). Before w v) (sym is) h) (All-nil (λ (w : PartValue). Before w v))
all_before (x ∷ y ∷ ys) m v up some is h =
    let place : length (x ∷ y ∷ ys) - 1 ≡ suc (length (y ∷ ys) - 1) = omega arith in
    let last : get_or (y ∷ ys) (length (y ∷ ys) - 1) m ≡ m = ap (λ (i : ℕ). get_or (x ∷ y ∷ ys) i m) (sym place) ∙ is in
    let rest = all_before (y ∷ ys) m v (sorted_tail part_order x (y ∷ ys) up) (omega arith) last h in
    let next : Before x y = All-head (Before x) y ys (All-from_recursion (Before x) (y ∷ ys) (sorted_head part_order x (y ∷ ys) up)) in
    All-cons (λ (w : PartValue). Before w v) x (y ∷ ys) (order_total.trans x y v next (All-head (λ (w : PartValue). Before w v) y ys rest)) rest

pub all_passed : (xs : List PartValue) (m v : PartValue) → IsAscending xs → 0 < length xs → get_or xs (length xs - 1) m ≡ m → part_order m v ≡ Less → AreBefore xs (length xs) v
all_passed xs m v up some is h = record {
  known = omega arith;
  each = subst (All (λ (w : PartValue). Before w v)) (sym (take_all (length xs) xs (omega arith))) (all_before xs m v up some is h);
}

-- the gap of a value before the first
first_gap : (v : PartValue) (xs : List PartValue) → All (Before v) xs → IsGap xs 0 v
first_gap v xs h = record {
  passed = none_passed xs v;
  next = λ d lt. All-get_or (Before v) xs 0 d lt h;
}

module _ (x : PartValue) (xs : List PartValue) (p : ℕ) (v : PartValue) (gap : IsGap (x ∷ xs) (suc p) v) where
  pub further_gap : IsGap xs p v
  further_gap = record {
    passed = record { known = omega (arith, gap.passed.known); each = All-tail (λ (w : PartValue). Before w v) x (take p xs) gap.passed.each };
    next = λ d lt. gap.next d (omega (arith, lt));
  }

  pub first_before : Before x v
  first_before = All-head (λ (w : PartValue). Before w v) x (take p xs) gap.passed.each

pub absent : (xs : List PartValue) (p : ℕ) (v : PartValue) → IsAscending xs → IsGap xs p v → list_any (same_part v) xs ≡ false
absent [] p v up gap = refl
absent (x ∷ xs) zero v up gap =
    let h = gap.next x (omega arith) in
    none_of (same_part v x) (list_any (same_part v) xs) (differ_after v x h)
    (absent xs zero v (sorted_tail part_order x xs up) (first_gap v xs (All-tail (Before v) x xs (all_after v x xs up h))))
absent (x ∷ xs) (suc p) v up gap =
    none_of (same_part v x) (list_any (same_part v) xs) (differ_before v x (first_before x xs p v gap))
    (absent xs p v (sorted_tail part_order x xs up) (further_gap x xs p v gap))

pub ascending_none : IsAscending []
unfolding IsStrictlySortedBy
ascending_none = tt

ascending_first : (v : PartValue) (xs : List PartValue) → All (Before v) xs → IsAscending xs → IsAscending (v ∷ xs)
unfolding IsStrictlySortedBy
ascending_first v xs h up = (recursion_from_All (Before v) xs h, up)

pub ascending_one : (v : PartValue) → IsAscending (v ∷ [])
ascending_one v = ascending_first v [] (All-nil (Before v)) ascending_none

-- with a value in its gap it is ascending
pub ascending_with : (xs : List PartValue) (p : ℕ) (v : PartValue) → IsAscending xs → IsGap xs p v → IsAscending (insert xs p v)
ascending_with [] zero v up gap = ascending_one v
ascending_with [] (suc p) v up gap = absurd (omega (arith, gap.passed.known))
ascending_with (x ∷ xs) zero v up gap = ascending_first v (x ∷ xs) (all_after v x xs up (gap.next x (omega arith))) up
ascending_with (x ∷ xs) (suc p) v up gap =
    let after = All-from_recursion (Before x) xs (sorted_head part_order x xs up) in
    ascending_first x (insert xs p v)
    (All-append (Before x) (take p xs) (v ∷ drop p xs) (All-take (Before x) p xs after) (All-cons (Before x) v (drop p xs) (first_before x xs p v gap) (All-drop (Before x) p xs after)))
    (ascending_with xs p v (sorted_tail part_order x xs up) (further_gap x xs p v gap))

pub any_with : (xs : List PartValue) (p : ℕ) (v w : PartValue) → list_any (same_part w) (insert xs p v) ≡ (same_part w v || list_any (same_part w) xs)
any_with xs p v w = sym (list_any-IsPermutation (same_part w) (v ∷ xs) (insert xs p v) (IsPermutation-insert xs p v))

-- one list has each set of values in order
pub same_list : (xs ys : List PartValue) → IsAscending xs → IsAscending ys → ((v : PartValue) → list_any (same_part v) xs ≡ list_any (same_part v) ys) → xs ≡ ys
same_list xs ys up too same =
    let one : BTreeSet PartValue = record { keys = xs } in
    let other : BTreeSet PartValue = record { keys = ys } in
    btree_set_from_contains order_total one other up too same tied_same

-- what is told at a place of an ascending list
module _ (xs : List PartValue) (p : ℕ) (v m : PartValue) (passed : AreBefore xs p v) (lt : p < length xs) (at : (d : PartValue) → get_or xs p d ≡ m) where
  pub passed_more : part_order m v ≡ Less → AreBefore xs (p + 1) v
  passed_more h = record {
    known = omega (arith, lt);
    each = All-more (λ (w : PartValue). Before w v) xs p m lt passed.each (ap (λ (w : PartValue). part_order w v) (at m) ∙ h);
  }

  pub place_found : part_order m v ≡ Equal → IsPlace xs p v
  place_found h = record { known = lt; passed = passed; is = λ d. at d ∙ tied_same m v h }

  pub gap_found : part_order m v ≡ Greater → IsGap xs p v
  gap_found h = record { passed = passed; next = λ d k. ap (part_order v) (at d) ∙ order_total.antisymm v m ∙ ap ordering_reverse h }

-- what is passed for a value is passed for one after it
pub passed_on : (xs : List PartValue) (p : ℕ) (v w : PartValue) → AreBefore xs p v → Before v w → AreBefore xs p w
passed_on xs p v w passed h = record {
  known = passed.known;
  each = All-weaker (λ (x : PartValue). Before x v) (λ (x : PartValue). Before x w) (λ x k. order_total.trans x v w k h) (take p xs) passed.each;
}
