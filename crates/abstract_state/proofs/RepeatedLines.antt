-- A line in which each task stands as often as is wanted.
use Rattle.std.proofs.Common.{◌≡◌, ◌≢◌, ℕ, zero, suc, ◌+◌, ◌<◌, ◌≤◌, Bool, true, false, List, [], ◌++◌, replicate, refl, sym, ◌∙◌, ap, subst, inl, inr, arith, nat_eq, nat_lt}
use Rattle.std.specs.Prelude.{if◌then◌else◌}
use Rattle.std.proofs.lemmas.{Bool.{cases_eq, cases_lt, Decides.{nat_tests}}, List.Sums.{sum_by-append}}
use Rattle.osek_values.specs.{declared.numbers.TaskNo.{TaskNo}, Numbers.{task_no}}
use Rattle.osek_standard.proofs.PlaceLaws.{places_in, one_if, itself_first, other_first}

-- tasks from number a on, so many, each so often
abbrev pub repeated_line : (ℕ → ℕ) → ℕ → ℕ → List TaskNo
repeated_line f a zero = []
repeated_line f a (suc n) = replicate (f a) (task_no a) ++ repeated_line f (a + 1) n

places_joined : (xs ys : List TaskNo) (t : ℕ) → places_in (xs ++ ys) t ≡ places_in xs t + places_in ys t
places_joined xs ys t = sum_by-append (λ (n : TaskNo). one_if (nat_eq n.0 t)) xs ys

itself_repeated : (a k : ℕ) → places_in (replicate k (task_no a)) a ≡ k
itself_repeated a zero = refl
itself_repeated a (suc k) = itself_first (task_no a) (replicate k (task_no a)) ∙ omega (arith, itself_repeated a k)

other_repeated : (a t k : ℕ) → t ≢ a → places_in (replicate k (task_no a)) t ≡ 0
other_repeated a t zero other = refl
other_repeated a t (suc k) other = other_first t (task_no a) (replicate k (task_no a)) other ∙ other_repeated a t k other

module _ (f : ℕ → ℕ) where
  -- a task outside of these has no place
  repeated_outside : (a n t : ℕ) → (a ≤ t → a + n ≤ t) → places_in (repeated_line f a n) t ≡ 0
  repeated_outside a zero t out = refl
  repeated_outside a (suc n) t out =
      let other : t ≢ a = λ e. absurd (omega (arith, out (omega (arith, e)), e)) in
      let rest = repeated_outside (a + 1) n t (λ h. omega (arith, out (omega (arith, h)))) in
      places_joined (replicate (f a) (task_no a)) (repeated_line f (a + 1) n) t ∙ omega (arith, other_repeated a t (f a) other, rest)

  repeated_inside : (a n t : ℕ) → a ≤ t → t < a + n → places_in (repeated_line f a n) t ≡ f t
  repeated_inside a zero t low high = absurd (omega (arith, low, high))
  repeated_inside a (suc n) t low high = elim (cases_eq t a) [
    | inl same ↦ subst (λ (u : ℕ). places_in (repeated_line f a (suc n)) u ≡ f u) (sym same)
        (let rest = repeated_outside (a + 1) n a (λ h. absurd (omega (arith, h))) in
        places_joined (replicate (f a) (task_no a)) (repeated_line f (a + 1) n) a ∙ omega (arith, itself_repeated a (f a), rest))
    | inr other ↦
        (let rest = repeated_inside (a + 1) n t (omega (arith, low, other)) (omega (arith, high)) in
        places_joined (replicate (f a) (task_no a)) (repeated_line f (a + 1) n) t ∙ omega (arith, other_repeated a t (f a) other, rest))
  ]

  pub repeated_counted : (n t : ℕ) → places_in (repeated_line f 0 n) t ≡ (if nat_lt t n then f t else 0)
  repeated_counted n t = elim (cases_lt t n) [
    | inl lt ↦ (let e : nat_lt t n ≡ true = grind (arith, nat_tests) in repeated_inside 0 n t (omega arith) (omega (arith, lt)) ∙ ap (λ (b : Bool). if b then f t else 0) (sym e))
    | inr past ↦ (let e : nat_lt t n ≡ false = grind (arith, nat_tests) in repeated_outside 0 n t (λ _. omega (arith, past)) ∙ ap (λ (b : Bool). if b then f t else 0) (sym e))
  ]
