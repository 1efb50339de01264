-- Changes to one value: the set that it leaves has that value's number alone.
use Rattle.std.proofs.Common.{◌≡◌, ℕ, ◌<◌, ◌^◌, Bool, true, false, ◌||◌, List, refl, sym, ap, subst, ◌∙◌, inl, inr, arith, IsTrue}
use Rattle.std.specs.{Prelude.{◌==◌}, Bool.{OnTrue}, List.{list_any}}
use Rattle.std.proofs.lemmas.Bool.{cases_eq, eqb-true, eq-eqb}
use Rattle.bit_words.proofs.BitCounts.{has_either, has_one}
use Rattle.osek_values.specs.Bits.{has_bit}
use Rattle.abstract_state.specs.{declared.value.{Domain.{Domain}, PartValue.{PartValue}}, ValueOrder.{same_part}, Tables.{is_member}}
use Rattle.abstract_state.proofs.OrderLaws.{part_right, part_itself}
use Rattle.flow_model.specs.{declared.change.Change.{Change}, Tests.{value_after}}
use Rattle.numbered_sets.specs.{Numbers.{Numbers, numbers, has_number, with_number}, Pools.{Values, values_at, domain_at, IsNumberOf}, Views.{values_with, plain_set}}
use Rattle.numbered_sets.proofs.{PlainLaws.{ascending_in_order, member_of_plain, values_with_none}, ViewLaws.{only_value}, KnownNumbers.{no_bit_of_none}}
use Rattle.point_exits.specs.{Applying.{IsPassedSet, IsAloneIn}, Changing.{making}}
use Rattle.point_exits.proofs.NumbersPassing.{none_passes_bit}

-- numbers of nothing have no value
pub no_member : (vs : List PartValue) (x : Numbers) → x.bits ≡ 0 → (w : PartValue) → is_member (plain_set vs x) w ≡ false
no_member vs x none w =
    member_of_plain vs x w ∙ ap (list_any (same_part w)) (values_with_none vs (has_number x) (λ n. ap (λ m. has_bit m n) none ∙ none_passes_bit n))

pub none_passed : (xs : List Change) (pool : List Values) (c : ℕ) (old : Numbers) → old.bits ≡ 0 → IsPassedSet (making xs) pool c old pool (numbers old.domain 0)
none_passed xs pool c old none = record {
  domain = refl;
  known = λ n h. absurd (no_bit_of_none n h);
  passed = record {
    domain = refl;
    ascending = ascending_in_order (values_with (values_at pool c) (has_number (numbers old.domain 0)));
    from = λ w m. (let no = no_member (values_at pool c) (numbers old.domain 0) refl w in absurd (cc));
    to = λ w m p. (let no = no_member (values_at pool c) old none w in absurd (cc));
  };
}

module _ (xs : List Change) (before : List Values) (c : ℕ) (old : Numbers) (after : List Values) (n : ℕ) (v : PartValue) (sets : (w : PartValue) → value_after xs c w ≡ v)
    (some : PartValue) (there : IsTrue (is_member (plain_set (values_at before c) old) some)) (is : IsNumberOf (values_at after c) v n) where
  only : (k : ℕ) → has_number (with_number (numbers old.domain 0) n) k ≡ (k == n)
  only k = has_either 0 (2 ^ n) k ∙ ap (λ (b : Bool). b || has_bit (2 ^ n) k) (none_passes_bit k) ∙ has_one n k

  its_member : (w : PartValue) → is_member (plain_set (values_at after c) (with_number (numbers old.domain 0) n)) w ≡ same_part w v
  its_member w =
      member_of_plain (values_at after c) (with_number (numbers old.domain 0) n) w
      ∙ only_value (values_at after c) (has_number (with_number (numbers old.domain 0) n)) n v w only is.known (is.is v)

  pub set_passed : IsPassedSet (making xs) before c old after (with_number (numbers old.domain 0) n)
  set_passed = record {
    domain = refl;
    known = λ m has. (let number : m ≡ n = eqb-true m n (sym (only m) ∙ has) in omega (arith, number, is.known));
    passed = record {
      domain = refl;
      ascending = ascending_in_order (values_with (values_at after c) (has_number (with_number (numbers old.domain 0) n)));
      from = λ w m.
          (let same : w ≡ v = part_right w v (sym (its_member w) ∙ m) in
          record { was = some; there = there; passes = λ y listed _. absurd (let none = listed.1 in omega (arith, none)); becomes = sets some ∙ sym same });
      to = λ w m p. subst (λ (u : PartValue). IsTrue (is_member (plain_set (values_at after c) (with_number (numbers old.domain 0) n)) u)) (sym (sets w)) (its_member v ∙ part_itself v);
    };
  }

-- so it is with the set of that number alone
pub alone_passed : (xs : List Change) (pool : List Values) (c : ℕ) (old : Numbers) (v : PartValue) → ((w : PartValue) → value_after xs c w ≡ v) → (some : PartValue) → IsTrue (is_member (plain_set (values_at pool c) old) some) →
    old.domain ≡ domain_at pool c → (made : Numbers) → IsAloneIn pool c v made → IsPassedSet (making xs) pool c old pool made
alone_passed xs pool c old v sets some there like made alone =
    subst (IsPassedSet (making xs) pool c old pool) (ap (λ (d : Domain). with_number (numbers d 0) alone.number) like ∙ sym alone.only)
    (set_passed xs pool c old pool alone.number v sets some there alone.is)

-- a value that is the same as one with a number has it
pub same_number : (b : Bool) (vs : List PartValue) (v w : PartValue) (n : ℕ) → b ≡ same_part v w → IsNumberOf vs v n → OnTrue b (IsNumberOf vs w n)
same_number true vs v w n e h = subst (λ (u : PartValue). IsNumberOf vs u n) (part_right v w (sym e)) h
same_number false vs v w n e h = tt

pub some_left : (x : Numbers) → (x.bits == 0) ≡ false → 0 < x.bits
some_left x none = elim (cases_eq x.bits 0) [
  | inl e ↦ (let yes = eq-eqb x.bits 0 e in absurd (cc))
  | inr some ↦ omega (arith, some)
]
