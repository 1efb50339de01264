-- What updates made of sets: as values come in, and as sets get further numbers.
use Rattle.std.proofs.Common.{◌≡◌, ℕ, ◌<◌, ◌≤◌, Bool, true, false, ◌||◌, ◌&&◌, not, List, [], ◌∷◌, ◌++◌, length, get_or, set, refl, sym, ap, subst, ◌∙◌, inl, inr, arith, IsTrue}
use Rattle.std.proofs.lemmas.{Bool.{cases_eq, or_cases, and_parts}, List.{length-append, length-set, get_or-set_same, get_or-set_other, Elements.{Contains-push_cases}}}
use Rattle.bit_words.proofs.BitCounts.{has_either}
use Rattle.abstract_state.specs.declared.value.PartValue.{PartValue}
use Rattle.flow_model.specs.{declared.change.Update.{Update}, Tests.{updated}}
use Rattle.numbered_sets.specs.declared.made_sets.MadeSet.{MadeSet}
use Rattle.numbered_sets.specs.{Keeping.{made_set, with_further, IsMadeSet, AreMadeSets}, Made.{AreMade}, Numbers.{Numbers, has_number, joined_numbers, other_numbers}, Pools.{IsExtended}}
use Rattle.numbered_sets.proofs.{MadeLaws.{made_on, made_grown}, MeetLaws.{has_other}, WithinLaws.{within_set}}

-- no number is past those of the values
none_past : (given : Numbers) (k : ℕ) → ((n : ℕ) → IsTrue (has_number given n) → n < k) → (n : ℕ) → k ≤ n → has_number given n ≡ false
none_past given k known n le = by (has_number given n) refl
  where
    by : (b : Bool) → has_number given n ≡ b → b ≡ false
    by true e = absurd (omega (arith, known n e, le))
    by false e = refl

longer : (vs ws : List PartValue) → IsExtended vs ws → length vs ≤ length ws
longer vs ws grown = omega (arith, ap length grown.is, length-append vs grown.more)

-- what was made of all numbers of the values before
pub kept_as : (vs ws : List PartValue) (place : ℕ) (u : Update) (given made : Numbers) → IsExtended vs ws → ((n : ℕ) → IsTrue (has_number given n) → n < length vs) → AreMade (updated u) ws given (length vs) made
    → IsMadeSet ws (made_set place u given made)
kept_as vs ws place u given made grown known h =
    let le = longer vs ws grown in
    record {
      known = λ n has. omega (arith, known n has, le);
      made = made_on (updated u) ws given made (length vs) (length ws) le (λ n past lt. none_past given (length vs) known n past) h;
    }

-- values came in
pub kept_longer : (vs ws : List PartValue) (sets : List MadeSet) → IsExtended vs ws → AreMadeSets vs sets → AreMadeSets ws sets
kept_longer vs ws sets grown h x m =
    let k = h x m in
    kept_as vs ws x.place x.update x.given x.made grown k.known (made_grown (updated x.update) vs ws x.given x.made (length vs) grown k.known k.made)

-- one more is kept
pub kept_push : (vs : List PartValue) (sets : List MadeSet) (x : MadeSet) → AreMadeSets vs sets → IsMadeSet vs x → AreMadeSets vs (sets ++ x ∷ [])
kept_push vs sets x h k y m = elim (Contains-push_cases sets x y m) [
  | inl old ↦ h y old
  | inr new ↦ subst (IsMadeSet vs) new k
]

-- another one is kept in place of one
pub kept_put : (vs : List PartValue) (sets : List MadeSet) (place : ℕ) (y : MadeSet) → AreMadeSets vs sets → IsMadeSet vs y → AreMadeSets vs (set sets place y)
kept_put vs sets place y h k x m =
    let known : m.0 < length sets = omega (arith, m.1, length-set sets place y) in
    elim (cases_eq m.0 place) [
      | inl same ↦
          (let at : get_or (set sets place y) place x ≡ x = subst (λ (n : ℕ). get_or (set sets place y) n x ≡ x) same m.2 in
          subst (IsMadeSet vs) (sym (get_or-set_same sets place y x (omega (arith, known, same))) ∙ at) k)
      | inr other ↦ h x (m.0, known, sym (get_or-set_other sets place m.0 y x other) ∙ m.2)
    ]

pub none_kept : (vs : List PartValue) → AreMadeSets vs []
none_kept vs x m = absurd (omega (arith, m.1))

or_true : (b : Bool) → (b || true) ≡ true
or_true true = refl
or_true false = refl

-- a number of either is one of both
of_first : (x y : Numbers) (n : ℕ) → IsTrue (has_number x n) → IsTrue (has_number (joined_numbers x y) n)
of_first x y n has = has_either x.bits y.bits n ∙ ap (λ (b : Bool). b || has_number y n) has

of_second : (x y : Numbers) (n : ℕ) → IsTrue (has_number y n) → IsTrue (has_number (joined_numbers x y) n)
of_second x y n has = has_either x.bits y.bits n ∙ ap (λ (b : Bool). has_number x n || b) has ∙ or_true (has_number x n)

-- what is made of two sets is what is made of their numbers
made_of_both : (becomes : PartValue → PartValue) (vs : List PartValue) (x y made too : Numbers) (k : ℕ) → AreMade becomes vs x k made → AreMade becomes vs y k too → AreMade becomes vs (joined_numbers x y) k (joined_numbers made too)
made_of_both becomes vs x y made too k h j = record {
  domain = h.domain;
  to = λ n v lt has at. elim (or_cases (has_number x n) (has_number y n) (sym (has_either x.bits y.bits n) ∙ has)) [
    | inl one ↦ (let m = h.to n v lt one at in (m.0, m.1, of_first made too m.0 m.2))
    | inr other ↦ (let m = j.to n v lt other at in (m.0, m.1, of_second made too m.0 m.2))
  ];
  from = λ m has. elim (or_cases (has_number made m) (has_number too m) (sym (has_either made.bits too.bits m) ∙ has)) [
    | inl one ↦ (let i = h.from m one in record { number = i.number; value = i.value; below = i.below; there = of_first x y i.number i.there; was = i.was; is = i.is })
    | inr other ↦ (let i = j.from m other in record { number = i.number; value = i.value; below = i.below; there = of_second x y i.number i.there; was = i.was; is = i.is })
  ];
}

-- further numbers of values that were there before
pub kept_further : (vs ws : List PartValue) (x : MadeSet) (since made : Numbers) → IsExtended vs ws → IsMadeSet vs x → ((n : ℕ) → IsTrue (has_number since n) → n < length vs)
    → AreMade (updated x.update) ws since (length vs) made → IsMadeSet ws (with_further x since made)
kept_further vs ws x since made grown h known j =
    kept_as vs ws x.place x.update (joined_numbers x.given since) (joined_numbers x.made made) grown
    (λ n has. elim (or_cases (has_number x.given n) (has_number since n) (sym (has_either x.given.bits since.bits n) ∙ has)) [ inl one ↦ h.known n one | inr other ↦ known n other ])
    (made_of_both (updated x.update) ws x.given since x.made made (length vs) (made_grown (updated x.update) vs ws x.given x.made (length vs) grown h.known h.made) j)

-- a number of a set that another lacks is one of the set
pub of_others : (x y : Numbers) (n : ℕ) → IsTrue (has_number (other_numbers x y) n) → IsTrue (has_number x n)
of_others x y n has = (and_parts (has_number x n) (not (has_number y n)) (sym (has_other x y n) ∙ has)).0

-- two sets have the same numbers
pub record HaveSame (x y : Numbers) : Type 0 where
  pub onward : (n : ℕ) → IsTrue (has_number x n) → IsTrue (has_number y n)
  pub back : (n : ℕ) → IsTrue (has_number y n) → IsTrue (has_number x n)

-- a set within another, with the numbers of that one beside it
pub same_with_others : (x y : Numbers) → (other_numbers y x).bits ≡ 0 → HaveSame x (joined_numbers y (other_numbers x y))
same_with_others x y within = record {
  onward = λ n has. by n has (has_number y n) refl;
  back = λ n has. elim (or_cases (has_number y n) (has_number (other_numbers x y) n) (sym (has_either y.bits (other_numbers x y).bits n) ∙ has)) [
    | inl one ↦ within_set y x within n one
    | inr other ↦ of_others x y n other
  ];
}
  where
    by : (n : ℕ) → IsTrue (has_number x n) → (b : Bool) → has_number y n ≡ b → IsTrue (has_number (joined_numbers y (other_numbers x y)) n)
    by n has true e = of_first y (other_numbers x y) n e
    by n has false e = of_second y (other_numbers x y) n (has_other x y n ∙ ap (λ (b : Bool). b && not (has_number y n)) has ∙ ap not e)

-- and where that one has none beside it
pub same_as_within : (x y : Numbers) → (other_numbers y x).bits ≡ 0 → (other_numbers x y).bits ≡ 0 → HaveSame x y
same_as_within x y within none = record { onward = within_set x y none; back = within_set y x within }

-- what is kept is the answer for a set with the same numbers
pub kept_answer : (vs : List PartValue) (x : MadeSet) (u : Update) (asked answer : Numbers) (k : ℕ) → IsMadeSet vs x → x.update ≡ u → HaveSame asked x.given → ((n : ℕ) → IsTrue (has_number asked n) → n < k)
    → answer ≡ record { domain = asked.domain; bits = x.made.bits } → AreMade (updated u) vs asked k answer
kept_answer vs x u asked answer k h its same known is =
    subst (AreMade (updated u) vs asked k) (sym is)
    (subst (λ (w : Update). AreMade (updated w) vs asked k (record { domain = asked.domain; bits = x.made.bits })) its (record {
      domain = refl;
      to = λ n v lt has at. h.made.to n v (h.known n (same.onward n has)) (same.onward n has) at;
      from = λ m has. (let i = h.made.from m has in record { number = i.number; value = i.value; below = known i.number (same.back i.number i.there); there = same.back i.number i.there; was = i.was; is = i.is });
    }))
