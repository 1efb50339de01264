use Rattle.std.proofs.{Common.{◌<◌, ◌+◌, ◌-◌, ℕ, List, length, get_or, sym, ap, inl, inr, arith, subst}, lemmas.{Bool.{cases_eq}, List.{get_or_default}}}
use Rattle.flow_model.specs.declared.change.Change.{Change}
use Rattle.point_exits.proofs.changes.are_in_order.Goals as goal

abbrev Below : List Change → Change → ℕ → ℕ → Type 0
Below xs d j k = (get_or xs j d).component.0 < (get_or xs k d).component.0

-- one more
in_order_more : (xs : List Change) (n : ℕ) → ((j k : ℕ) (d : Change) → j < k → k < n → Below xs d j k) → 0 < n → ((d : Change) → Below xs d (n - 1) n) → (j k : ℕ) (d : Change) → j < k → k < n + 1 → Below xs d j k
in_order_more xs n before some next j k d less known = elim (cases_eq k n) [
  | inl same ↦ subst (Below xs d j) (sym same) (elim (cases_eq j (n - 1)) [
    | inl last ↦ subst (λ (i : ℕ). Below xs d i n) (sym last) (next d)
    | inr early ↦ (let one = before j (n - 1) d (omega (arith, less, same, early)) (omega (arith, some)) in let two = next d in omega (arith, one, two))
  ])
  | inr early ↦ before j k d less (omega (arith, known, early))
]

pub loop-place-preserved : goal.loop-place-preserved
loop-place-preserved c =
    let xs = c.args.changes.now in
    let place = c.loop-place.place in
    let known : place < length xs = omega (arith, c.loop-place-test.true) in
    in_order_more xs place c.loop-place.invariant (omega arith) (λ d.
    let low = ap (λ (y : Change). y.component.0) (get_or_default xs (place - 1) d c.index-changes-place-in-loop-place.result (omega (arith, known))) in
    let high = ap (λ (y : Change). y.component.0) (get_or_default xs place d c.index-changes-place.result known) in
    let below = c.if-index.false in
    omega (arith, low, high, below, c.index-in-loop-place.ensures, c.index.ensures))

pub returns : goal.returns
returns c = record { each = λ j k d less known. c.loop-place.invariant j k d less (omega (arith, known)) }
