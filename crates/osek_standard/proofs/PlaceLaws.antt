-- How often a task stands in a line: with one more place, and with its first place taken out.
use Rattle.std.proofs.Common.{◌≡◌, ◌≢◌, ℕ, zero, suc, ◌+◌, ◌<◌, ◌≤◌, ◌==◌, Bool, true, false, cond, List, [], ◌∷◌, ◌++◌, refl, sym, ◌∙◌, ap, subst, inl, inr, arith, nat_eq, map}
use Rattle.std.proofs.lemmas.{Bool.{cases_eq, eq-eqb, ne_eqb, eqb-true}, List.Sums.{sum_by-cons, sum_by_push}}
use Rattle.std.specs.List.{count_by, filter, range_with_len}
use Rattle.osek_values.specs.{declared.numbers.TaskNo.{TaskNo}, Numbers.{task_no}, Line.{without_first}}

abbrev pub places_in : List TaskNo → ℕ → ℕ
places_in line t = count_by (λ (n : TaskNo). n.0 == t) line

abbrev pub one_if : Bool → ℕ
one_if b = cond b 1 0

pub one_first : (t : ℕ) (n : TaskNo) (line : List TaskNo) → places_in (n ∷ line) t ≡ one_if (nat_eq n.0 t) + places_in line t
one_first t n line = sum_by-cons (λ (n : TaskNo). one_if (nat_eq n.0 t)) n line

pub one_last : (t : ℕ) (n : TaskNo) (line : List TaskNo) → places_in (line ++ n ∷ []) t ≡ places_in line t + one_if (nat_eq n.0 t)
one_last t n line = sum_by_push (λ (n : TaskNo). one_if (nat_eq n.0 t)) line n

-- one more place of the task itself
pub itself_first : (n : TaskNo) (line : List TaskNo) → places_in (n ∷ line) n.0 ≡ places_in line n.0 + 1
itself_first n line = omega (arith, one_first n.0 n line, ap one_if (eq-eqb n.0 n.0 refl))

pub itself_last : (n : TaskNo) (line : List TaskNo) → places_in (line ++ n ∷ []) n.0 ≡ places_in line n.0 + 1
itself_last n line = omega (arith, one_last n.0 n line, ap one_if (eq-eqb n.0 n.0 refl))

-- and of another
pub other_first : (t : ℕ) (n : TaskNo) (line : List TaskNo) → t ≢ n.0 → places_in (n ∷ line) t ≡ places_in line t
other_first t n line other = omega (arith, one_first t n line, ap one_if (ne_eqb n.0 t (λ e. other (sym e))))

pub other_last : (t : ℕ) (n : TaskNo) (line : List TaskNo) → t ≢ n.0 → places_in (line ++ n ∷ []) t ≡ places_in line t
other_last t n line other = omega (arith, one_last t n line, ap one_if (ne_eqb n.0 t (λ e. other (sym e))))

other_by : (b : Bool) (t u : ℕ) (n : TaskNo) (line rest : List TaskNo) → nat_eq n.0 t ≡ b → u ≢ t → places_in rest u ≡ places_in line u
    → places_in (cond b line (n ∷ rest)) u ≡ places_in (n ∷ line) u
other_by true t u n line rest e other h = sym (other_first u n line (λ f. other (f ∙ eqb-true n.0 t e)))
other_by false t u n line rest e other h = one_first u n rest ∙ ap (λ (k : ℕ). one_if (nat_eq n.0 u) + k) h ∙ sym (one_first u n line)

-- another task stands there as often as before
pub without_other : (t u : ℕ) (line : List TaskNo) → u ≢ t → places_in (without_first line t) u ≡ places_in line u
without_other t u [] other = refl
without_other t u (n ∷ line) other = other_by (nat_eq n.0 t) t u n line (without_first line t) refl other (without_other t u line other)

same_by : (b : Bool) (t : ℕ) (n : TaskNo) (line rest : List TaskNo) → nat_eq n.0 t ≡ b → (0 < places_in line t → places_in rest t + 1 ≡ places_in line t)
    → 0 < places_in (n ∷ line) t → places_in (cond b line (n ∷ rest)) t + 1 ≡ places_in (n ∷ line) t
same_by true t n line rest e k h =
    let c : places_in (n ∷ line) t ≡ one_if (nat_eq n.0 t) + places_in line t = one_first t n line in
    let d : one_if (nat_eq n.0 t) ≡ 1 = ap one_if e in
    omega (arith, c, d)
same_by false t n line rest e k h =
    let c : places_in (n ∷ line) t ≡ one_if (nat_eq n.0 t) + places_in line t = one_first t n line in
    let d : one_if (nat_eq n.0 t) ≡ 0 = ap one_if e in
    let r : places_in (n ∷ rest) t ≡ one_if (nat_eq n.0 t) + places_in rest t = one_first t n rest in
    let some : 0 < places_in line t = omega (arith, c, d, h) in
    let j : places_in rest t + 1 ≡ places_in line t = k some in
    omega (arith, c, d, r, j)

-- the task that is taken out stands there once less
pub without_same : (t : ℕ) (line : List TaskNo) → 0 < places_in line t → places_in (without_first line t) t + 1 ≡ places_in line t
without_same t [] h = absurd (omega (arith, h))
without_same t (n ∷ line) h = same_by (nat_eq n.0 t) t n line (without_first line t) refl (without_same t line) h

-- the numbers in a row that pass a test, as a line
abbrev pub passing_line : (ℕ → Bool) → ℕ → ℕ → List TaskNo
passing_line q a n = map task_no (filter q (range_with_len a n))

skip_by : (q : ℕ → Bool) (a n t : ℕ) (b : Bool) → q a ≡ b → t ≢ a
    → places_in (map task_no (cond b (a ∷ filter q (range_with_len (a + 1) n)) (filter q (range_with_len (a + 1) n)))) t ≡ places_in (passing_line q (a + 1) n) t
skip_by q a n t true e other = other_first t (task_no a) (passing_line q (a + 1) n) other
skip_by q a n t false e other = refl

-- a number outside of the row has no place
pub none_outside : (q : ℕ → Bool) (a n t : ℕ) → ((a ≤ t) → a + n ≤ t) → places_in (passing_line q a n) t ≡ 0
none_outside q a zero t out = refl
none_outside q a (suc n) t out =
    let other : t ≢ a = λ e. absurd (omega (arith, out (omega (arith, e)), e)) in
    skip_by q a n t (q a) refl other ∙ none_outside q (a + 1) n t (λ h. omega (arith, out (omega (arith, h))))

here_by : (q : ℕ → Bool) (a n : ℕ) (b : Bool) → q a ≡ b → places_in (map task_no (cond b (a ∷ filter q (range_with_len (a + 1) n)) (filter q (range_with_len (a + 1) n)))) a ≡ one_if b
here_by q a n true e = let rest = none_outside q (a + 1) n a (λ h. absurd (omega (arith, h))) in
    omega (arith, itself_first (task_no a) (passing_line q (a + 1) n), rest)
here_by q a n false e = none_outside q (a + 1) n a (λ h. absurd (omega (arith, h)))

-- one in the row has a place where it passes
pub one_inside : (q : ℕ → Bool) (a n t : ℕ) → a ≤ t → t < a + n → places_in (passing_line q a n) t ≡ one_if (q t)
one_inside q a zero t low high = absurd (omega arith)
one_inside q a (suc n) t low high = elim (cases_eq t a) [
  | inl e ↦ subst (λ (u : ℕ). places_in (passing_line q a (suc n)) u ≡ one_if (q u)) (sym e) (here_by q a n (q a) refl)
  | inr other ↦ skip_by q a n t (q a) refl other ∙ one_inside q (a + 1) n t (omega (arith, low, other)) (omega (arith, high))
]
