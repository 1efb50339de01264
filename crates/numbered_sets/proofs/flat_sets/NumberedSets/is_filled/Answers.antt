use Rattle.std.proofs.{Common.{◌≡◌, ◌≢◌, ◌<◌, ℕ, length, get_or, inl, inr, refl, sym, ap, subst, ◌∙◌, arith}, lemmas.Bool.{eq-eqb, cases_lt, eqb-true, OnTrue_at}}
use Rattle.bit_words.specs.Further.{further_at}
use Rattle.numbered_sets.specs.SetLists.{set_of}
use Rattle.numbered_sets.proofs.FlatLaws.{as_many, read_is, some_words}
use Rattle.numbered_sets.proofs.flat_sets.NumberedSets.is_filled.Goals as goal

pub returns-then-have_bits-clause-filled : goal.returns-then-have_bits-clause-filled
returns-then-have_bits-clause-filled c =
    λ k lt.
    let many = as_many c.self.inside.domains.value.items c.self.inside.low.items c.self.inside.high.items c.self.inside.more c.args.self.now c.self.view_is in
    let first = ap length c.as_slice.ensures.value in
    let some = OnTrue_at c.if-have_bits.true c.have_bits.ensures k (omega (arith, many, first, lt, c.self.invariant.0)) in
    subst (λ (m : ℕ). 0 < m)
    (read_is c.self.inside.domains.value.items c.self.inside.low.items c.self.inside.high.items c.self.inside.more c.args.self.now c.self.view_is c.self.invariant.0 c.self.invariant.1 c.self.invariant.2 k
    (get_or c.as_slice.result.now k 0) (get_or c.as_slice-2.result.now k 0) c.as_slice.result.now c.as_slice-2.result.now (further_at c.self.inside.more k) c.as_slice.ensures.value c.as_slice-2.ensures.value refl refl refl)
    (some_words (get_or c.as_slice.result.now k 0) (get_or c.as_slice-2.result.now k 0) (further_at c.self.inside.more k) some)

pub returns-then-is_empty-clause-none : goal.returns-then-is_empty-clause-none
returns-then-is_empty-clause-none c =
    let k = c.loop-component.component in
    let many = as_many c.self.inside.domains.value.items c.self.inside.low.items c.self.inside.high.items c.self.inside.more c.args.self.now c.self.view_is in
    (k, omega (arith, many, c.loop-component-test.true, c.len-component-end.ensures), eqb-true (set_of c.args.self.now k).bits 0 (sym c.is_empty.ensures ∙ c.if-is_empty.true))

pub loop-component-preserved : goal.loop-component-preserved
loop-component-preserved c =
    λ k below. elim (cases_lt k c.loop-component.component) [
      | inl lt ↦ c.loop-component.invariant k lt
      | inr le ↦
          (let same : k ≡ c.loop-component.component = omega (arith, le, below) in
          let some : (set_of c.args.self.now c.loop-component.component).bits ≢ 0 = (λ e. (let none = eq-eqb (set_of c.args.self.now c.loop-component.component).bits 0 e in let some = sym c.is_empty.ensures ∙ c.if-is_empty.false in absurd (cc))) in
          subst (λ (j : ℕ). 0 < (set_of c.args.self.now j).bits) (sym same) (omega (arith, some)))
    ]

pub returns-clause-filled : goal.returns-clause-filled
returns-clause-filled c =
    λ k lt.
    let many = as_many c.self.inside.domains.value.items c.self.inside.low.items c.self.inside.high.items c.self.inside.more c.args.self.now c.self.view_is in
    c.loop-component.invariant k (omega (arith, many, lt, c.loop-component-test.false, c.len-component-end.ensures))
