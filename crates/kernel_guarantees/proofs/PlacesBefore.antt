-- How often a task stands before another one's first place, where a task goes first, goes last, or loses its first place.
use Rattle.std.proofs.Common.{◌≡◌, ◌≢◌, ℕ, ◌+◌, ◌<◌, Bool, true, false, cond, List, [], ◌∷◌, ◌++◌, length, refl, sym, subst, ap, ◌∙◌, inl, inr, arith, nat_eq}
use Rattle.std.proofs.lemmas.Bool.{cases_Bool, eqb-true, eqb-false, eq-eqb, ne_eqb}
use Rattle.osek_values.specs.{declared.numbers.TaskNo.{TaskNo}, Line.{place_in_line, without_first}}
use Rattle.osek_standard.proofs.PlaceLaws.{other_first, places_in}
use Rattle.kernel_guarantees.specs.{Activations.{one_if}, Readiness.{places_before}}
use Rattle.kernel_guarantees.proofs.Lines.{place_behind, place_first}

-- none before who is first, and one more where another one goes first
before_first : (n : TaskNo) (line : List TaskNo) (t u : ℕ) → n.0 ≡ t → places_before (n ∷ line) t u ≡ 0
before_first n line t u e = ap (λ (b : Bool). cond b 0 (one_if (nat_eq n.0 u) + places_before line t u)) (eq-eqb n.0 t e)

pub before_behind : (n : TaskNo) (line : List TaskNo) (t u : ℕ) → t ≢ n.0 → places_before (n ∷ line) t u ≡ one_if (nat_eq n.0 u) + places_before line t u
before_behind n line t u other = ap (λ (b : Bool). cond b 0 (one_if (nat_eq n.0 u) + places_before line t u)) (ne_eqb n.0 t (λ e. other (sym e)))

module _ (t u : ℕ) where
  pub before_appended : (x : TaskNo) (line : List TaskNo) → 0 < places_in line t → places_before (line ++ x ∷ []) t u ≡ places_before line t u
  before_appended x [] some = absurd (omega (arith, some))
  before_appended x (n ∷ line) some = elim (cases_Bool (nat_eq n.0 t)) [
    | inl e ↦ (let same = eqb-true n.0 t e in before_first n (line ++ x ∷ []) t u same ∙ sym (before_first n line t u same))
    | inr e ↦ (let apart : t ≢ n.0 = λ f. eqb-false n.0 t e (sym f) in
        let deeper = before_appended x line (omega (arith, some, other_first t n line apart)) in
        omega (arith, deeper, before_behind n line t u apart, before_behind n (line ++ x ∷ []) t u apart))
  ]

  other_by : (b : Bool) (x : ℕ) (n : TaskNo) (line : List TaskNo) → nat_eq n.0 x ≡ b → t ≢ x → u ≢ x → places_before (without_first line x) t u ≡ places_before line t u
      → places_before (cond b line (n ∷ without_first line x)) t u ≡ places_before (n ∷ line) t u
  other_by true x n line e other also deeper =
      let same = eqb-true n.0 x e in
      let none : one_if (nat_eq n.0 u) ≡ 0 = ap one_if (ne_eqb n.0 u (λ f. also (sym f ∙ same))) in
      omega (arith, none, before_behind n line t u (λ f. other (f ∙ same)))
  other_by false x n line e other also deeper = elim (cases_Bool (nat_eq n.0 t)) [
    | inl f ↦ (let same = eqb-true n.0 t f in before_first n (without_first line x) t u same ∙ sym (before_first n line t u same))
    | inr f ↦ (let apart : t ≢ n.0 = λ g. eqb-false n.0 t f (sym g) in omega (arith, deeper, before_behind n line t u apart, before_behind n (without_first line x) t u apart))
  ]

  pub before_without_other : (x : ℕ) (line : List TaskNo) → t ≢ x → u ≢ x → places_before (without_first line x) t u ≡ places_before line t u
  before_without_other x [] other also = refl
  before_without_other x (n ∷ line) other also = other_by (nat_eq n.0 x) x n line refl other also (before_without_other x line other also)

  itself_by : (b : Bool) (n : TaskNo) (line : List TaskNo) → nat_eq n.0 u ≡ b → t ≢ u → place_in_line (n ∷ line) u < length (n ∷ line) → place_in_line (n ∷ line) u < place_in_line (n ∷ line) t
      → (place_in_line line u < length line → place_in_line line u < place_in_line line t → places_before (without_first line u) t u + 1 ≡ places_before line t u)
      → places_before (cond b line (n ∷ without_first line u)) t u + 1 ≡ places_before (n ∷ line) t u
  itself_by true n line e other within order deeper =
      let same = eqb-true n.0 u e in
      let one : one_if (nat_eq n.0 u) ≡ 1 = ap one_if e in
      omega (arith, one, before_behind n line t u (λ f. other (f ∙ same)))
  itself_by false n line e other within order deeper = elim (cases_Bool (nat_eq n.0 t)) [
    | inl f ↦ absurd (let same = eqb-true n.0 t f in
        let none : place_in_line (n ∷ line) t ≡ 0 = subst (λ (v : ℕ). place_in_line (n ∷ line) v ≡ 0) same (place_first n line) in omega (arith, order, none))
    | inr f ↦ (let apart : t ≢ n.0 = λ g. eqb-false n.0 t f (sym g) in
        let beside : u ≢ n.0 = λ g. eqb-false n.0 u e (sym g) in
        let p = place_behind n line t apart in
        let q = place_behind n line u beside in
        let less = deeper (omega (arith, within, q)) (omega (arith, order, p, q)) in
        omega (arith, less, before_behind n line t u apart, before_behind n (without_first line u) t u apart))
  ]

  pub before_without_itself : (line : List TaskNo) → t ≢ u → place_in_line line u < length line → place_in_line line u < place_in_line line t → places_before (without_first line u) t u + 1 ≡ places_before line t u
  before_without_itself [] other within order = absurd (omega (arith, within))
  before_without_itself (n ∷ line) other within order = itself_by (nat_eq n.0 u) n line refl other within order (λ w o. before_without_itself line other w o)
