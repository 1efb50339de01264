-- The numbers that an entry has, and the values that they mean.
use Rattle.std.proofs.Common.{◌≡◌, ◌⊎◌, ℕ, zero, suc, ◌<◌, ◌≤◌, Bool, true, ◌&&◌, List, [], ◌∷◌, length, refl, sym, ap, ◌∙◌, inl, inr, arith, IsTrue}
use Rattle.std.proofs.lemmas.Bool.{or_cases, and_parts}
use Rattle.osek_standard.specs.declared.app.App.{App}
use Rattle.abstract_state.specs.{declared.{value.PartValue.{PartValue}, table.ValueSet.{ValueSet}}, ValueOrder.{same_part}, Components.{component_count}}
use Rattle.abstract_state.specs.Tables.{set_at, is_member}
use Rattle.abstract_state.proofs.OrderLaws.{part_right}
use Rattle.flow_exits.specs.Exits.{IsFilled}
use Rattle.numbered_sets.specs.{declared.numbered_entry.NumberedEntry.{NumberedEntry}, Numbers.{Numbers, has_number}, NumberedEntries.{numbers_at, AreFilled}}
use Rattle.numbered_sets.specs.{Pools.{Values, values_at, IsNumberOf}, Views.{values_with, plain_entry, AreNumbersOf}}
use Rattle.numbered_sets.proofs.{PlainLaws.{has_value, member_of_plain, any_first, value_with_number, plain_set_at}, ViewLaws.{below_power}, KnownNumbers.{no_bit_of_none}}
use Rattle.numbered_sets.proofs.SiftLaws.{some_bit, some_value}

-- a value with a number that passes
pub record HasNumber (vs : List PartValue) (has : ℕ → Bool) (v : PartValue) : Type 0 where
  pub number : ℕ
  pub has_it : has number ≡ true
  pub is : IsNumberOf vs v number

number_of : (vs : List PartValue) (has : ℕ → Bool) (w : PartValue) → has_value vs has w ≡ true → HasNumber vs has w
number_of [] has w e = absurd (cc)
number_of (v ∷ vs) has w e = elim (or_cases (has 0 && same_part w v) (has_value vs (λ n. has (suc n)) w) (sym (any_first (has 0) v w (values_with vs (λ n. has (suc n)))) ∙ e)) [
  | inl here ↦ (let parts = and_parts (has 0) (same_part w v) here in
      record { number = 0; has_it = parts.0; is = record { known = omega arith; is = λ d. sym (part_right w v parts.1) } })
  | inr later ↦ (let x = number_of vs (λ n. has (suc n)) w later in
      record { number = suc x.number; has_it = x.has_it; is = record { known = omega (arith, x.is.known); is = x.is.is } })
]

-- a set that isn't empty has a number
pub some_number : (x : Numbers) → 0 < x.bits → (n : ℕ) × IsTrue (has_number x n)
some_number x some = some_bit x.bits x.bits (below_power x.bits) some

pub number_fills : (x : Numbers) (n : ℕ) → IsTrue (has_number x n) → 0 < x.bits
number_fills x n has = elim (cases_zero x.bits) [
  | inl none ↦ absurd (no_bit_of_none n (sym (ap (λ (m : ℕ). has_number (record { domain = x.domain; bits = m }) n) none) ∙ has))
  | inr some ↦ some
]
  where
    cases_zero : (m : ℕ) → (m ≡ 0) ⊎ (0 < m)
    cases_zero zero = inl refl
    cases_zero (suc m) = inr (omega arith)

module _ (pool : List Values) (entry : NumberedEntry) (c : ℕ) (v : PartValue) where
  pub member_number : IsTrue (is_member (set_at (plain_entry pool entry) c) v) → HasNumber (values_at pool c) (has_number (numbers_at entry c)) v
  member_number m =
      number_of (values_at pool c) (has_number (numbers_at entry c)) v
      (sym (member_of_plain (values_at pool c) (numbers_at entry c) v) ∙ sym (ap (λ (s : ValueSet). is_member s v) (plain_set_at pool entry c)) ∙ m)

  pub number_member : (n : ℕ) → IsTrue (has_number (numbers_at entry c) n) → IsNumberOf (values_at pool c) v n → IsTrue (is_member (set_at (plain_entry pool entry) c) v)
  number_member n has is =
      ap (λ (s : ValueSet). is_member s v) (plain_set_at pool entry c)
      ∙ member_of_plain (values_at pool c) (numbers_at entry c) v
      ∙ value_with_number (values_at pool c) (has_number (numbers_at entry c)) n v is.known (is.is v) has

pub filled_plain : (app : App) (pool : List Values) (entry : NumberedEntry) → AreNumbersOf pool entry → AreFilled entry → component_count app ≤ length entry.sets → IsFilled app (plain_entry pool entry)
filled_plain app pool entry known filled size c lt =
    let some = some_value (values_at pool c) (numbers_at entry c) (known.known c) (filled.each c (omega (arith, lt, size))) in
    record { value = some.0; member = ap (λ (s : ValueSet). is_member s some.0) (plain_set_at pool entry c) ∙ some.1 }
