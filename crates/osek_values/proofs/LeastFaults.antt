-- The least fault: found by judging the rules in their order, and one at most.
use Rattle.std.proofs.Common.{◌≡◌, ℕ, suc, zero, ◌+◌, ◌<◌, ◌≤◌, ◌⊎◌, min, inl, inr, ⊎_elim, Bool, true, List, [], ◌∷◌, length, get_or, refl, sym, ap, ◌∙◌, subst, arith, below_more}
use Rattle.std.proofs.{str.Laws.{order as compare}, lemmas.Bool.Decides.{nat_tests}}
use Rattle.std.specs.Prelude.{Option, Some, None, nat_lt, ◌&&◌}
use Rattle.osek_values.specs.{declared.refused.LineFault.{LineFault}, Lines.{sooner, least, IsOneOf}, LeastFaults.{HasNoFault, IsLeastFault, IsLeastOrNone}}

-- the least of some lines

abbrev IsLeast : Option ℕ → List ℕ → Type 0
IsLeast None xs = (l : ℕ) → IsOneOf l xs → ⊥
IsLeast (Some l) xs = IsOneOf l xs × ((m : ℕ) → IsOneOf m xs → l ≤ m)

least_cons : (x : ℕ) (xs : List ℕ) (best : Option ℕ) → IsLeast best xs → IsLeast (sooner (Some x) best) (x ∷ xs)
least_cons x xs None h = (inl refl, λ m z. ⊎_elim (λ e. omega (arith, e)) (λ i. absurd (h m i)) z)
least_cons x xs (Some l) h =
    ⊎_elim
    (λ le. let e : min x l ≡ x = omega (arith, le) in subst (λ (q : ℕ). IsLeast (Some q) (x ∷ xs)) (sym e) (inl refl, λ m z. ⊎_elim (λ q. omega (arith, q)) (λ i. let b = h.1 m i in omega (arith, le, b)) z))
    (λ lt. let e : min x l ≡ l = omega (arith, lt) in subst (λ (q : ℕ). IsLeast (Some q) (x ∷ xs)) (sym e) (inr h.0, λ m z. ⊎_elim (λ q. omega (arith, q, lt)) (λ i. h.1 m i) z))
    (compare x l)

least_is : (xs : List ℕ) → IsLeast (least xs) xs
least_is [] = λ l h. absurd h
least_is (x ∷ xs) = least_cons x xs (least xs) (least_is xs)

least_none : (xs : List ℕ) → least xs ≡ None → (l : ℕ) → IsOneOf l xs → ⊥
least_none xs e = subst (λ (o : Option ℕ). IsLeast o xs) e (least_is xs)

least_some : (xs : List ℕ) (l : ℕ) → least xs ≡ Some l → IsOneOf l xs × ((m : ℕ) → IsOneOf m xs → l ≤ m)
least_some xs l e = subst (λ (o : Option ℕ). IsLeast o xs) e (least_is xs)

module _ {Rule : Type 0} (order : Rule → ℕ) (lines : Rule → List ℕ) where
  pub no_fault : (f : LineFault Rule) → IsLeastFault order lines f.rule f.line → HasNoFault order lines → ⊥
  no_fault f x h = h f.rule f.line x.violated

  -- each rule's number is below that of the next
  abbrev pub climbs : List Rule → Bool
  climbs [] = true
  climbs (r ∷ []) = true
  climbs (r ∷ (s ∷ rest)) = nat_lt (order r) (order s) && climbs (s ∷ rest)

  rises : (none : Rule) (rules : List Rule) → climbs rules ≡ true → (i k : ℕ) → i < k → k < length rules → order (get_or rules i none) < order (get_or rules k none)
  rises none [] e i k lt h = absurd (omega (arith, h))
  rises none (r ∷ []) e i k lt h = absurd (omega (arith, h, lt))
  rises none (r ∷ (s ∷ rest)) e i zero lt h = absurd (omega (arith, lt))
  rises none (r ∷ (s ∷ rest)) e zero (suc zero) lt h = grind (arith, nat_tests, e)
  rises none (r ∷ (s ∷ rest)) e zero (suc (suc k)) lt h =
      let tail : climbs (s ∷ rest) ≡ true = grind (arith, nat_tests, e) in
      let more = rises none (s ∷ rest) tail 0 (suc k) (omega arith) (omega (arith, h)) in
      let head : order r < order s = grind (arith, nat_tests, e) in
      omega (arith, head, more)
  rises none (r ∷ (s ∷ rest)) e (suc i) (suc k) lt h =
      let tail : climbs (s ∷ rest) ≡ true = grind (arith, nat_tests, e) in
      rises none (s ∷ rest) tail i k (omega (arith, lt)) (omega (arith, h))

  -- The rules that are judged, in their order; past their end stands any.
  module _ (rules : List Rule) (none : Rule) where
    abbrev pub rule_at : ℕ → Rule
    rule_at i = get_or rules i none

    abbrev pub IsJudged : Rule → Type 0
    IsJudged r = (k : ℕ) × (k < length rules) × (rule_at k ≡ r)

    -- each rule is judged, or has no lines
    pub record AreAll : Type 0 where
      pub each : (r : Rule) → IsJudged r ⊎ (lines r ≡ [])
      pub in_order : climbs rules ≡ true

    -- the rules before a place aren't violated
    abbrev pub AreCleanBelow : ℕ → Type 0
    AreCleanBelow i = (k : ℕ) → k < i → least (lines (rule_at k)) ≡ None

    module _ (all : AreAll) where
      judged : (r : Rule) (l : ℕ) → IsOneOf l (lines r) → IsJudged r
      judged r l v = ⊎_elim (λ p. p) (λ e. absurd (subst (λ (xs : List ℕ). IsOneOf l xs) e v)) (all.each r)

      -- a place is one of before, at, and behind another
      places : (i k : ℕ) → i < length rules → k < length rules → ((k < i) × (order (rule_at k) < order (rule_at i))) ⊎ (order (rule_at i) ≤ order (rule_at k)) × ((order (rule_at i) ≡ order (rule_at k)) → i ≡ k)
      places i k hi hk =
          ⊎_elim
          (λ lt. inl (lt, rises none rules all.in_order k i lt hi))
          (λ ge. ⊎_elim
          (λ lt. let more = rises none rules all.in_order i k lt hk in inr (omega (arith, more), λ e. absurd (omega (arith, more, e))))
          (λ le. let same : i ≡ k = omega (arith, ge, le) in let e : order (rule_at i) ≡ order (rule_at k) = ap (λ (q : ℕ). order (rule_at q)) same in inr (omega (arith, e), λ x. same))
          (compare i k))
          (compare k i)

      earlier : (i k : ℕ) → i < length rules → k < length rules → order (rule_at k) < order (rule_at i) → k < i
      earlier i k hi hk less = ⊎_elim (λ p. p.0) (λ p. let ge = p.0 in absurd (omega (arith, less, ge))) (places i k hi hk)

      none_below : (i : ℕ) → i < length rules → AreCleanBelow i → (other : Rule) (l : ℕ) → order other < order (rule_at i) → IsOneOf l (lines other) → ⊥
      none_below i h clean other l less v =
          let (k, lt, is) = judged other l v in
          let lower : order (rule_at k) < order (rule_at i) = subst (λ (r : Rule). order r < order (rule_at i)) (sym is) less in
          least_none (lines (rule_at k)) (clean k (earlier i k h lt lower)) l (subst (λ (r : Rule). IsOneOf l (lines r)) (sym is) v)

      pub found : (i : ℕ) → i < length rules → AreCleanBelow i → (line : ℕ) → least (lines (rule_at i)) ≡ Some line → IsLeastFault order lines (rule_at i) line
      found i h clean line e =
          let is = least_some (lines (rule_at i)) line e in
          record { violated = is.0; least_rule = none_below i h clean; least_line = is.1 }

      pub clean_all : (i : ℕ) → length rules ≤ i → AreCleanBelow i → HasNoFault order lines
      clean_all i h clean r l v =
          let (k, lt, is) = judged r l v in
          least_none (lines (rule_at k)) (clean k (omega (arith, h, lt))) l (subst (λ (r : Rule). IsOneOf l (lines r)) (sym is) v)

      -- two rules of one number that are both violated are one
      one_rule : (r s : Rule) (l m : ℕ) → IsOneOf l (lines r) → IsOneOf m (lines s) → order r ≡ order s → r ≡ s
      one_rule r s l m x y e =
          let (k, k_in, is) = judged r l x in
          let (j, j_in, is') = judged s m y in
          let orders : order (rule_at k) ≡ order (rule_at j) = ap order is ∙ e ∙ sym (ap order is') in
          let same : k ≡ j = ⊎_elim (λ p. let lt = p.1 in absurd (omega (arith, orders, lt))) (λ p. p.1 orders) (places k j k_in j_in) in
          sym is ∙ ap (λ (q : ℕ). rule_at q) same ∙ is'

      same_rule : (r s : Rule) (l m : ℕ) → IsLeastFault order lines r l → IsLeastFault order lines s m → r ≡ s
      same_rule r s l m x y =
          ⊎_elim
          (λ lt. absurd (y.least_rule r l lt x.violated))
          (λ ge. ⊎_elim (λ lt. absurd (x.least_rule s m lt y.violated)) (λ le. one_rule r s l m x.violated y.violated (omega (arith, ge, le))) (compare (order s) (order r)))
          (compare (order r) (order s))

      same_line : (r s : Rule) (l m : ℕ) → r ≡ s → IsLeastFault order lines r l → IsLeastFault order lines s m → l ≡ m
      same_line r s l m e x y =
          let a : l ≤ m = x.least_line m (subst (λ (q : Rule). IsOneOf m (lines q)) (sym e) y.violated) in
          let b : m ≤ l = y.least_line l (subst (λ (q : Rule). IsOneOf l (lines q)) e x.violated) in
          omega (arith, a, b)

      -- one fault at most
      pub same_fault : (f g : LineFault Rule) → IsLeastFault order lines f.rule f.line → IsLeastFault order lines g.rule g.line → f ≡ g
      same_fault f g x y =
          let rules : f.rule ≡ g.rule = same_rule f.rule g.rule f.line g.line x y in
          let lines : f.line ≡ g.line = same_line f.rule g.rule f.line g.line rules x y in
          (λ i. record { rule = rules i; line = lines i })

      abbrev Answer : Type 0
      Answer = (fault : Option (LineFault Rule)) × IsLeastOrNone order lines fault

      judge : (i : ℕ) → i < length rules → AreCleanBelow i → (AreCleanBelow (i + 1) → Answer) → (line : Option ℕ) → least (lines (rule_at i)) ≡ line → Answer
      judge i lt clean onward (Some line) e = (Some (record { rule = rule_at i; line = line }), found i lt clean line e)
      judge i lt clean onward None e = onward (below_more (λ (k : ℕ). least (lines (rule_at k)) ≡ None) i clean e)

      judge_from : (left i : ℕ) → i + left ≡ length rules → AreCleanBelow i → Answer
      judge_from zero i e clean = (None, clean_all i (omega (arith, e)) clean)
      judge_from (suc left) i e clean = judge i (omega (arith, e)) clean (judge_from left (i + 1) (omega (arith, e))) (least (lines (rule_at i))) refl

      -- and a least fault or none
      pub least_or_none : Answer
      least_or_none = judge_from (length rules) 0 (omega arith) (λ k lt. absurd (omega (arith, lt)))
