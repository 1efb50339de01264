-- A value is above those of an ascending list where it is above the last.
use Rattle.std.proofs.Common.{◌≡◌, ◌↔◌, Bool, true, IsTrue, refl, sym, ◌-◌, ◌<◌, List, [], ◌∷◌, ◌++◌, length, get_or, ap, subst, ◌∙◌, arith}
use Rattle.std.specs.{Prelude.{All}, Ordering.{is_lt}, declared.cmp.Ordering.{Ordering, TheVariants.{Less, Equal, Greater}}}
use Rattle.std.proofs.lemmas.List.{take_all, Elements.{All-get_or, All-from_recursion, recursion_from_All}}
use Rattle.abstract_state.specs.{declared.value.PartValue.{PartValue}, ValueOrder.{part_order, IsAscending}}
use Rattle.abstract_state.proofs.OrderLaws.{all_passed, ascending_one}
use Rattle.table_codec.proofs.Ascends.{sorted_push, sorted_last}

pub above_none : (xs : List PartValue) (v : PartValue) → length xs ≡ 0 → IsAscending (xs ++ v ∷ [])
above_none [] v e = ascending_one v
above_none (x ∷ xs) v e = absurd (omega (arith, e))

pub above_last : (xs : List PartValue) (m v : PartValue) → IsAscending xs → 0 < length xs → get_or xs (length xs - 1) m ≡ m → (part_order m v ≡ Less) ↔ IsAscending (xs ++ v ∷ [])
above_last xs m v up some is = (
  λ h.
      let passed = (all_passed xs m v up some is h).each in
      let all : All IsBelow xs = subst (All IsBelow) (take_all (length xs) xs (omega arith)) passed in
      sorted_push part_order xs v up (recursion_from_All IsBelow xs all),
  λ h.
      let all : All IsBelow xs = All-from_recursion IsBelow xs (sorted_last part_order xs v h) in
      subst IsBelow is (All-get_or IsBelow xs (length xs - 1) m (omega (arith, some)) all),
)
  where
    IsBelow : PartValue → Type 0
    IsBelow w = part_order w v ≡ Less

-- the same of a test of the order
pub less_test : (xs : List PartValue) (m v : PartValue) (b : Bool) → IsAscending xs → 0 < length xs → get_or xs (length xs - 1) m ≡ m → (o : Ordering) → o ≡ part_order m v → b ≡ is_lt o → IsTrue b ↔ IsAscending (xs ++ v ∷ [])
less_test xs m v b up some is o order test =
    let above = above_last xs m v up some is in
    (λ h. above.0 (sym order ∙ less_from o (sym test ∙ h)), λ h. test ∙ ap is_lt (order ∙ above.1 h))
  where
    less_from : (x : Ordering) → is_lt x ≡ true → x ≡ Less
    less_from Less e = refl
    less_from Equal e = absurd (cc)
    less_from Greater e = absurd (cc)
