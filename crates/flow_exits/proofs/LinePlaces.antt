-- Where tasks stand in a line that goes on with more places.
use Rattle.std.proofs.Common.{◌≡◌, ◌≢◌, ℕ, ◌+◌, ◌<◌, List, [], ◌∷◌, ◌++◌, length, refl, ap, inl, inr, arith, nat_eq}
use Rattle.std.proofs.lemmas.Bool.{cases_Bool, cases_eq, eq-eqb}
use Rattle.osek_values.specs.{declared.numbers.TaskNo.{TaskNo}, Line.{place_in_line}}
use Rattle.osek_standard.proofs.{PlaceLaws.{places_in, one_if, one_first}, TurnLaws.{place_once}}

-- a task that has no place in the first part stands behind it
pub place_behind : (line : List TaskNo) (t : ℕ) (rest : List TaskNo) → places_in line t ≡ 0 → place_in_line (line ++ rest) t ≡ length line + place_in_line rest t
place_behind [] t rest none = omega arith
place_behind (n ∷ line) t rest none = elim (cases_Bool (nat_eq n.0 t)) [
  | inl e ↦ absurd (omega (arith, none, one_first t n line, ap one_if e))
  | inr e ↦ (let first = one_first t n line in let other = ap one_if e in let fewer : places_in line t ≡ 0 = omega (arith, none, first, other) in rw e (omega (arith, place_behind line t rest fewer)))
]

-- and one that has a place there stands in it
pub place_within : (line : List TaskNo) (t : ℕ) (rest : List TaskNo) → 0 < places_in line t → place_in_line (line ++ rest) t < length line
place_within [] t rest some = absurd (omega (arith, some))
place_within (n ∷ line) t rest some = elim (cases_Bool (nat_eq n.0 t)) [
  | inl e ↦ (rw e (omega arith))
  | inr e ↦ (let first = one_first t n line in let other = ap one_if e in let still : 0 < places_in line t = omega (arith, some, first, other) in rw e (omega (arith, place_within line t rest still)))
]

-- and where it did
pub place_before : (line : List TaskNo) (t : ℕ) (rest : List TaskNo) → 0 < places_in line t → place_in_line (line ++ rest) t ≡ place_in_line line t
place_before [] t rest some = absurd (omega (arith, some))
place_before (n ∷ line) t rest some = elim (cases_Bool (nat_eq n.0 t)) [
  | inl e ↦ (rw e refl)
  | inr e ↦ (let first = one_first t n line in let other = ap one_if e in let still : 0 < places_in line t = omega (arith, some, first, other) in rw e (ap (λ (k : ℕ). 1 + k) (place_before line t rest still)))
]

-- a task behind its own place
pub place_of_itself : (t : TaskNo) → place_in_line (t ∷ []) t.0 ≡ 0
place_of_itself t = rw (eq-eqb t.0 t.0 refl) refl

-- where one comes first each other one doesn't
pub behind_first : (line : List TaskNo) (t u : ℕ) → place_in_line line t ≡ 0 → u ≢ t → 0 < place_in_line line u
behind_first line t u first other = elim (cases_eq (place_in_line line u) 0) [
  | inl e ↦ absurd (other (place_once line u t (omega (arith, e, first))))
  | inr e ↦ omega (arith, e)
]
