-- How many counts are left until a counter comes to a value, and how one count lowers it.
use Rattle.std.proofs.Common.{◌≡◌, ◌≢◌, ℕ, ◌+◌, ◌-◌, ◌%◌, ◌<◌, ◌≤◌, Bool, false, cond, nat_eq, ap, ◌∙◌, inl, inr, arith}
use Rattle.std.proofs.lemmas.Bool.{cases_eq, cases_lt, eq-eqb, Decides.{nat_tests}}
use Rattle.std.proofs.Math.Nat.{add-mod_right, mod-eq_of_lt}

-- the counts until a counter that stands at v comes to `at`: a whole round where it stands there
abbrev pub left : ℕ → ℕ → ℕ → ℕ
left max v at = cond (nat_eq at v) (max + 1) ((at + (max + 1) - v) % (max + 1))

-- the value after one count
abbrev pub next : ℕ → ℕ → ℕ
next max v = cond (nat_eq v max) 0 (v + 1)

not_eq : (m n : ℕ) → m ≢ n → nat_eq m n ≡ false
not_eq m n e = grind (arith, nat_tests)

wraps : (n k m : ℕ) → m ≡ n + k → n < k → m % k ≡ n
wraps n k m e low = ap (λ (i : ℕ). i % k) e ∙ add-mod_right n k ∙ mod-eq_of_lt low

module _ (max v at : ℕ) where
  pub left_here : at ≡ v → left max v at ≡ max + 1
  left_here e = ap (λ (b : Bool). cond b (max + 1) ((at + (max + 1) - v) % (max + 1))) (eq-eqb at v e)

  left_else : at ≢ v → left max v at ≡ (at + (max + 1) - v) % (max + 1)
  left_else ne = ap (λ (b : Bool). cond b (max + 1) ((at + (max + 1) - v) % (max + 1))) (not_eq at v ne)

  left_above : v < at → at ≤ max → left max v at + v ≡ at
  left_above above low =
      let e = left_else (λ f. omega (arith, above, f)) in
      let m : (at + (max + 1) - v) % (max + 1) ≡ at - v = wraps (at - v) (max + 1) (at + (max + 1) - v) (omega (arith, above)) (omega (arith, low)) in
      omega (arith, e, m, above)

  left_below : at < v → v ≤ max → left max v at + v ≡ at + (max + 1)
  left_below below low =
      let e = left_else (λ f. omega (arith, below, f)) in
      let small : at + (max + 1) - v < max + 1 = omega (arith, below) in
      let m : (at + (max + 1) - v) % (max + 1) ≡ at + (max + 1) - v = mod-eq_of_lt small in
      omega (arith, e, m, below, low)

next_last : (max v : ℕ) → v ≡ max → next max v ≡ 0
next_last max v e = ap (λ (b : Bool). cond b 0 (v + 1)) (eq-eqb v max e)

next_more : (max v : ℕ) → v < max → next max v ≡ v + 1
next_more max v low = ap (λ (b : Bool). cond b 0 (v + 1)) (not_eq v max (λ e. omega (arith, low, e)))

module _ (max v at : ℕ) (some : 1 ≤ max) (within : v ≤ max) (reachable : at ≤ max) where
  pub left_some : 1 ≤ left max v at
  left_some = elim (cases_lt v at) [
    | inl above ↦ (let h = left_above max v at above reachable in omega (arith, h, above))
    | inr not_above ↦ elim (cases_eq at v) [
      | inl here ↦ (let h = left_here max v at here in omega (arith, h))
      | inr other ↦ (let below : at < v = omega (arith, not_above, other) in let h = left_below max v at below within in omega (arith, h, within))
    ]
  ]

  -- one count: it comes to the value, or one count less is left
  pub counted_due : left max v at ≡ 1 → at ≡ next max v
  counted_due one = elim (cases_lt v at) [
    | inl above ↦ (let h = left_above max v at above reachable in let m = next_more max v (omega (arith, above, reachable)) in omega (arith, h, one, m))
    | inr not_above ↦ elim (cases_eq at v) [
      | inl here ↦ absurd (let h = left_here max v at here in omega (arith, h, one, some))
      | inr other ↦ (let below : at < v = omega (arith, not_above, other) in let h = left_below max v at below within in
          let m = next_last max v (omega (arith, h, one, within, below)) in omega (arith, h, one, within, below, m))
    ]
  ]

  after_more : v < max → 1 < left max v at → left max (v + 1) at + 1 ≡ left max v at
  after_more low more = elim (cases_lt v at) [
    | inl above ↦ (let h = left_above max v at above reachable in
        let far : v + 1 < at = omega (arith, h, more) in
        let k = left_above max (v + 1) at far reachable in
        omega (arith, h, k))
    | inr not_above ↦ (let below : at < v + 1 = omega (arith, not_above) in let k = left_below max (v + 1) at below (omega (arith, low)) in elim (cases_eq at v) [
      | inl here ↦ (let h = left_here max v at here in omega (arith, h, k, here))
      | inr other ↦ (let h = left_below max v at (omega (arith, not_above, other)) within in omega (arith, h, k))
    ])
  ]

  after_last : v ≡ max → 1 < left max v at → left max 0 at + 1 ≡ left max v at
  after_last last more = elim (cases_eq at v) [
    | inl here ↦ (let h = left_here max v at here in let k = left_above max 0 at (omega (arith, here, last, some)) reachable in omega (arith, h, k, here, last))
    | inr other ↦ (let h = left_below max v at (omega (arith, other, last, reachable)) within in
        let k = left_above max 0 at (omega (arith, h, more, last)) reachable in
        omega (arith, h, k, last))
  ]

  pub counted_left : 1 < left max v at → left max (next max v) at + 1 ≡ left max v at
  counted_left more = elim (cases_lt v max) [
    | inl low ↦ ap (λ (n : ℕ). left max n at + 1) (next_more max v low) ∙ after_more low more
    | inr high ↦ (let last : v ≡ max = omega (arith, high, within) in ap (λ (n : ℕ). left max n at + 1) (next_last max v last) ∙ after_last last more)
  ]

-- where it is set so many counts after v, so many are left
pub set_after : (max v i : ℕ) → v ≤ max → 0 < i → i ≤ max → left max v ((v + i) % (max + 1)) ≡ i
set_after max v i within some low = elim (cases_lt (v + i) (max + 1)) [
  | inl fits ↦ (let e : (v + i) % (max + 1) ≡ v + i = mod-eq_of_lt fits in
      let h = left_above max v (v + i) (omega (arith, some)) (omega (arith, fits)) in
      ap (left max v) e ∙ (omega (arith, h)))
  | inr over ↦ (let n : ℕ = v + i - (max + 1) in
      let e : (v + i) % (max + 1) ≡ n = wraps n (max + 1) (v + i) (omega (arith, over)) (omega (arith, over, within, low)) in
      let h = left_below max v n (omega (arith, over, low)) within in
      let is : left max v n ≡ i = omega (arith, h, over) in
      ap (left max v) e ∙ is)
]
