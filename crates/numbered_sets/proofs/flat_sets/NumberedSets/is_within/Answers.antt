use Rattle.std.proofs.{Common.{◌≡◌, ◌≢◌, ℕ, length, inl, inr, sym, subst, ◌∙◌, arith, IsTrue}, lemmas.Bool.{eq-eqb, eqb-true, cases_lt}}
use Rattle.numbered_sets.specs.{Numbers.{has_number, other_numbers}, SetLists.{set_of}}
use Rattle.numbered_sets.proofs.WithinLaws.{within_set, number_beside, none_past}
use Rattle.numbered_sets.proofs.flat_sets.NumberedSets.is_within.Goals as goal

pub loop-component-preserved : goal.loop-component-preserved
loop-component-preserved c =
    λ k n below h. elim (cases_lt k c.loop-component.component) [
      | inl lt ↦ c.loop-component.invariant k n lt h
      | inr le ↦
          (let here = c.loop-component.component in
          let same : k ≡ here = omega (arith, le, below) in
          let x = set_of c.args.self.now here in
          let y = set_of c.args.other.now here in
          let none : (other_numbers x y).bits ≡ 0 = eqb-true (other_numbers x y).bits 0 (sym c.is_set_within.ensures ∙ c.if-not-is_set_within.false) in
          subst (λ (j : ℕ). IsTrue (has_number (set_of c.args.other.now j) n)) (sym same)
          (within_set x y none n (subst (λ (j : ℕ). IsTrue (has_number (set_of c.args.self.now j) n)) same h)))
    ]

pub returns-then-not-is_set_within-clause-beside : goal.returns-then-not-is_set_within-clause-beside
returns-then-not-is_set_within-clause-beside c =
    let here = c.loop-component.component in
    let x = set_of c.args.self.now here in
    let y = set_of c.args.other.now here in
    let some : (other_numbers x y).bits ≢ 0 = (λ e. (let none = eq-eqb (other_numbers x y).bits 0 e in let some = sym c.is_set_within.ensures ∙ c.if-not-is_set_within.true in absurd (cc))) in
    let beside = number_beside x y some in
    record { component = here; number = beside.number; known = omega (arith, c.loop-component-test.true, c.len-component-end.ensures); has = beside.has; lacks = beside.lacks }

pub returns-clause-within : goal.returns-clause-within
returns-clause-within c = record {
  each = λ k n h. elim (cases_lt k (length c.args.self.now)) [
    | inl lt ↦ c.loop-component.invariant k n (omega (arith, lt, c.loop-component-test.false, c.len-component-end.ensures)) h
    | inr le ↦ absurd (none_past c.args.self.now k n (omega (arith, le)) h)
  ];
}
