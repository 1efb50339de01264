-- The greatest of a number and of what the elements of a list give.
use Rattle.std.proofs.{Common.{◌≡◌, ℕ, ◌≤◌, max, Bool, true, false, ◌||◌, List, [], ◌∷◌, refl, sym, ap, ◌∙◌, ◌⊎◌, inl, inr, arith, nat_eq}}
use Rattle.std.proofs.{lemmas.Bool.{cases_lt, eq-eqb, eqb-true, false≢true}}
use Rattle.osek_values.specs.declared.numbers.ResNo.{ResNo}
use Rattle.osek_standard.specs.{declared.app.App.{App}, TaskStates.{holds}, Priority.{ceiling, highest}, Levels.{highest_level, interrupt_ceiling}}
use Rattle.osek_standard.proofs.{Greatest.{greatest, greatest_from, greatest_of}, Members.{Among}}
use Rattle.kernel_guarantees.proofs.StackSteps.{or_cases}

module _ {X : Type 0} (f : X → ℕ) where
  -- it is one of them
  pub greatest_is : (n : ℕ) (xs : List X) → (greatest f n xs ≡ n) ⊎ ((x : X) × Among x xs × (greatest f n xs ≡ f x))
  greatest_is n [] = inl refl
  greatest_is n (y ∷ xs) = elim (greatest_is (max n (f y)) xs) [
    | inl e ↦ elim (cases_lt n (f y)) [
      | inl h ↦ inr (y, inl refl, omega (arith, e, h))
      | inr h ↦ inl (omega (arith, e, h))
    ]
    | inr m ↦ inr (m.0, inr m.1, m.2)
  ]

-- a stack has what is among it
pub among_held : (xs : List ResNo) (q : ResNo) → Among q xs → holds xs q.0 ≡ true
among_held [] q m = absurd m
among_held (x ∷ xs) q (inl e) = rw (ap (λ (p : ResNo). nat_eq p.0 q.0) (sym e) ∙ eq-eqb q.0 q.0 refl) refl
among_held (x ∷ xs) q (inr m) = rw (among_held xs q m) (elim (nat_eq x.0 q.0) as (λ (b : Bool). (b || true) ≡ true) [ true ↦ refl | false ↦ refl ])

pub held_among : (xs : List ResNo) (r : ℕ) → holds xs r ≡ true → (q : ResNo) × Among q xs × (q.0 ≡ r)
held_among [] r e = absurd (false≢true e)
held_among (x ∷ xs) r e = elim (or_cases (nat_eq x.0 r) (holds xs r) e) [
  | inl f ↦ (x, inl refl, eqb-true x.0 r f)
  | inr f ↦ (let m = held_among xs r f in (m.0, inr m.1, m.2))
]

-- the greatest of a number and of the ceilings of a stack
pub record IsGreatest (gives : ℕ → ℕ) (least : ℕ) (stack : List ResNo) (n : ℕ) : Type 0 where
  pub from : least ≤ n
  pub each : (r : ℕ) → holds stack r ≡ true → gives r ≤ n
  pub one_is : (n ≡ least) ⊎ ((r : ℕ) × (holds stack r ≡ true) × (n ≡ gives r))

fold_is_greatest : (gives : ℕ → ℕ) (least : ℕ) (stack : List ResNo) → IsGreatest gives least stack (greatest (λ (r : ResNo). gives r.0) least stack)
fold_is_greatest gives least stack = record {
  from = greatest_from (λ (r : ResNo). gives r.0) least stack;
  each = λ r h. let m = held_among stack r h in omega (arith, greatest_of (λ (r : ResNo). gives r.0) least stack m.0 m.1, ap gives m.2);
  one_is = elim (greatest_is (λ (r : ResNo). gives r.0) least stack) [
    | inl e ↦ inl e
    | inr m ↦ inr (m.0.0, among_held stack m.0 m.1, m.2)
  ];
}

module _ (app : App) where
  pub highest_is : (base : ℕ) (stack : List ResNo) → IsGreatest (ceiling app) base stack (highest app base stack)
  unfolding highest
  highest_is base stack = fold_is_greatest (ceiling app) base stack

  pub highest_level_is : (least : ℕ) (stack : List ResNo) → IsGreatest (interrupt_ceiling app) least stack (highest_level app least stack)
  unfolding highest_level
  highest_level_is least stack = fold_is_greatest (interrupt_ceiling app) least stack
