-- The order of findings.
use Rattle.std.proofs.Common.{◌≡◌, ◌⊎◌, ℕ, ◌+◌, ◌<◌, ◌∙◌, inl, inr, arith}
use Rattle.std.proofs.lemmas.Bool.{cases_lt}
use Rattle.flow_report.specs.FindingOrder.{Rank, rank_at, IsBefore}

before_by_number : (r s u : Rank) → r.kind ≡ u.kind → (r.number < s.number) ⊎ ((r.number ≡ s.number) × (r.event < s.event)) → (s.number < u.number) ⊎ ((s.number ≡ u.number) × (s.event < u.event)) → IsBefore r u
before_by_number r s u e (inl a) (inl b) = inr (e, inl (omega (arith, a, b)))
before_by_number r s u e (inl a) (inr b) = inr (e, inl (omega (arith, a, b.0)))
before_by_number r s u e (inr a) (inl b) = inr (e, inl (omega (arith, a.0, b)))
before_by_number r s u e (inr a) (inr b) = inr (e, inr (a.0 ∙ b.0, omega (arith, a.1, b.1)))

pub before_onward : (r s u : Rank) → IsBefore r s → IsBefore s u → IsBefore r u
before_onward r s u (inl a) (inl b) = inl (omega (arith, a, b))
before_onward r s u (inl a) (inr b) = inl (omega (arith, a, b.0))
before_onward r s u (inr a) (inl b) = inl (omega (arith, a.0, b))
before_onward r s u (inr a) (inr b) = before_by_number r s u (a.0 ∙ b.0) a.1 b.1

-- ---- places in a row

-- before the next number: before this one, or at it
pub next_number : (k i : ℕ) (r : Rank) → IsBefore r (rank_at k (i + 1) 0) → IsBefore r (rank_at k i 0) ⊎ ((r.kind ≡ k) × (r.number ≡ i))
next_number k i r (inl a) = inl (inl a)
next_number k i r (inr (e, inl lt)) = elim (cases_lt r.number i) [
  | inl less ↦ inl (inr (e, inl less))
  | inr le ↦ inr (e, omega (arith, lt, le))
]
next_number k i r (inr (e, inr (n, none))) = absurd (omega (arith, none))

-- before the next kind: before so many numbers of this one, where there are no more
pub next_kind : (k n : ℕ) (r : Rank) → (r.kind ≡ k → r.number < n) → IsBefore r (rank_at (k + 1) 0 0) → IsBefore r (rank_at k n 0)
next_kind k n r few (inl a) = elim (cases_lt r.kind k) [
  | inl less ↦ inl less
  | inr le ↦ (let e : r.kind ≡ k = omega (arith, a, le) in inr (e, inl (few e)))
]
next_kind k n r few (inr (e, inl none)) = absurd (omega (arith, none))
next_kind k n r few (inr (e, inr (m, none))) = absurd (omega (arith, none))
