-- Items one after the other at the start of bytes, each read after those before it: where each reading has one answer, so
-- has that of all of them.
use Rattle.std.proofs.Common.{◌≡◌, ◌⊎◌, ℕ, ◌<◌, List, [], ◌∷◌, ◌++◌, length, refl, sym, ap, subst, ◌∙◌, inl, inr, arith, append_assoc, append-nil, length-append}
use Rattle.table_codec.specs.declared.fault.Fault.{Fault}

module _ {X : Type 0} (Reads : List X → List ℕ → List ℕ → X → Type 0) where
  -- behind items before, these stand at the start of the bytes, and the rest follows them
  abbrev pub Runs : List X → List ℕ → List X → List ℕ → Type 0
  Runs before bytes [] rest = bytes ≡ rest
  Runs before bytes (x ∷ xs) rest = (mid : List ℕ) × Reads before bytes mid x × Runs (before ++ x ∷ []) mid xs rest

  -- of two runs over the same bytes the second goes on where the first ends
  pub record IsOver (before xs : List X) (r : List ℕ) (ys : List X) (s : List ℕ) : Type 0 where
    pub more : List X
    pub is : ys ≡ xs ++ more
    pub runs : Runs (before ++ xs) r more s

  module _ (one : (before : List X) (bytes r s : List ℕ) (x y : X) → Reads before bytes r x → Reads before bytes s y → (x ≡ y) × (r ≡ s)) where
    over_none : (before : List X) (bytes r s : List ℕ) (ys : List X) → bytes ≡ r → Runs before bytes ys s → IsOver before [] r ys s
    over_none before bytes r s ys e k = record {
      more = ys;
      is = refl;
      runs = subst (λ (b : List X). Runs b r ys s) (sym (append-nil before)) (subst (λ (b : List ℕ). Runs before b ys s) e k);
    }

    over_more : (before : List X) (r s : List ℕ) (x y : X) (xs ys : List X) → x ≡ y → IsOver (before ++ x ∷ []) xs r ys s → IsOver before (x ∷ xs) r (y ∷ ys) s
    over_more before r s x y xs ys e h = record {
      more = h.more;
      is = ap (λ (z : X). z ∷ ys) (sym e) ∙ ap (λ (zs : List X). x ∷ zs) h.is;
      runs = subst (λ (b : List X). Runs b r h.more s) (append_assoc before (x ∷ []) xs) h.runs;
    }

    pub runs_meet : (before : List X) (bytes r s : List ℕ) (xs ys : List X) → Runs before bytes xs r → Runs before bytes ys s → IsOver before xs r ys s ⊎ IsOver before ys s xs r
    runs_meet before bytes r s [] ys h k = inl (over_none before bytes r s ys h k)
    runs_meet before bytes r s (x ∷ xs) [] h k = inr (over_none before bytes s r (x ∷ xs) k h)
    runs_meet before bytes r s (x ∷ xs) (y ∷ ys) h k =
        let same = one before bytes h.0 k.0 x y h.1 k.1 in
        let others = subst (λ (b : List ℕ). Runs (before ++ x ∷ []) b ys s) (sym same.1) (subst (λ (z : X). Runs (before ++ z ∷ []) k.0 ys s) (sym same.0) k.2) in
        elim (runs_meet (before ++ x ∷ []) h.0 r s xs ys h.2 others) [
          | inl a ↦ inl (over_more before r s x y xs ys same.0 a)
          | inr a ↦ inr (over_more before s r y x ys xs (sym same.0) (subst (λ (z : X). IsOver (before ++ z ∷ []) ys s xs r) same.0 a))
        ]

    -- with as many items, they are the same
    same_over : (before : List X) (r s : List ℕ) (xs ys : List X) → length xs ≡ length ys → IsOver before xs r ys s → (xs ≡ ys) × (r ≡ s)
    same_over before r s xs ys size h = no_more h.more h.is h.runs
      where
        no_more : (more : List X) → ys ≡ xs ++ more → Runs (before ++ xs) r more s → (xs ≡ ys) × (r ≡ s)
        no_more [] is runs = (sym (is ∙ append-nil xs), runs)
        no_more (m ∷ more) is runs = absurd (omega (arith, size, ap length is, length-append xs (m ∷ more)))

    pub one_run : (before : List X) (bytes r s : List ℕ) (xs ys : List X) → Runs before bytes xs r → Runs before bytes ys s → length xs ≡ length ys → (xs ≡ ys) × (r ≡ s)
    one_run before bytes r s xs ys h k size = elim (runs_meet before bytes r s xs ys h k) [
      | inl a ↦ same_over before r s xs ys size a
      | inr a ↦ (let same = same_over before s r ys xs (sym size) a in (sym same.0, sym same.1))
    ]

    module _ (Fails : List X → List ℕ → Fault → Type 0)
        (clash : (before : List X) (bytes r : List ℕ) (x : X) (f : Fault) → Reads before bytes r x → Fails before bytes f → ⊥) where
      -- where the next item has a fault no run goes on
      fails_there : (before : List X) (r s : List ℕ) (more : List X) (f : Fault) → Fails before r f → Runs before r more s → 0 < length more → ⊥
      fails_there before r s [] f bad runs some = absurd (omega (arith, some))
      fails_there before r s (x ∷ more) f bad runs some = clash before r runs.0 x f runs.1 bad

      over_fails : (before : List X) (r s : List ℕ) (xs ys : List X) (f : Fault) → Fails (before ++ xs) r f → length xs < length ys → IsOver before xs r ys s → ⊥
      over_fails before r s xs ys f bad less h =
          let some : 0 < length h.more = omega (arith, less, ap length h.is, length-append xs h.more) in
          fails_there (before ++ xs) r s h.more f bad h.runs some

      not_under : (before : List X) (r s : List ℕ) (xs ys : List X) → length xs < length ys → IsOver before ys s xs r → ⊥
      not_under before r s xs ys less h = omega (arith, less, ap length h.is, length-append ys h.more)

      -- a run that goes on has no fault there
      pub no_fault : (before : List X) (bytes r s : List ℕ) (xs ys : List X) (f : Fault) → Runs before bytes xs r → Fails (before ++ xs) r f → Runs before bytes ys s → length xs < length ys → ⊥
      no_fault before bytes r s xs ys f h bad k less = elim (runs_meet before bytes r s xs ys h k) [
        | inl a ↦ over_fails before r s xs ys f bad less a
        | inr a ↦ not_under before r s xs ys less a
      ]

      module _ (same : (before : List X) (bytes : List ℕ) (f g : Fault) → Fails before bytes f → Fails before bytes g → f ≡ g) where
        over_same : (before : List X) (r s : List ℕ) (xs ys : List X) (f g : Fault) → Fails (before ++ xs) r f → Fails (before ++ ys) s g → IsOver before xs r ys s → f ≡ g
        over_same before r s xs ys f g bad worse h = by_more h.more h.is h.runs
          where
            by_more : (more : List X) → ys ≡ xs ++ more → Runs (before ++ xs) r more s → f ≡ g
            by_more [] is runs =
                same (before ++ xs) r f g bad (subst (λ (b : List ℕ). Fails (before ++ xs) b g) (sym runs) (subst (λ (zs : List X). Fails (before ++ zs) s g) (is ∙ append-nil xs) worse))
            by_more (m ∷ more) is runs = absurd (fails_there (before ++ xs) r s (m ∷ more) f bad runs (omega arith))

        -- two runs that end at a fault have the same one
        pub one_fault : (before : List X) (bytes r s : List ℕ) (xs ys : List X) (f g : Fault) → Runs before bytes xs r → Fails (before ++ xs) r f → Runs before bytes ys s → Fails (before ++ ys) s g → f ≡ g
        one_fault before bytes r s xs ys f g h bad k worse = elim (runs_meet before bytes r s xs ys h k) [
          | inl a ↦ over_same before r s xs ys f g bad worse a
          | inr a ↦ sym (over_same before s r ys xs g f worse bad a)
        ]
