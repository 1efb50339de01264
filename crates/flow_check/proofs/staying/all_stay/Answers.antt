use Rattle.std.proofs.{Common.{◌≡◌, ℕ, get_or, inl, inr, sym, ap, subst, ◌∙◌, arith}, lemmas.{Bool.{cases_lt, OnTrue_at, OnFalse_at}, List.{get_or_default}}}
use Rattle.point_exits.specs.declared.group.ExitGroup.{ExitGroup}
use Rattle.flow_check.specs.Staying.{AreEndsIn, ends_by}
use Rattle.flow_check.proofs.staying.all_stay.Goals as goal

pub stays-requires-clause-set : goal.stays-requires-clause-set
stays-requires-clause-set c = c.requires.sets c.group-item.result (c.loop-group.group-index, c.loop-group-test.true, sym c.group-item.is)

pub returns-then-not-stay-clause-out : goal.returns-then-not-stay-clause-out
returns-then-not-stay-clause-out c = record {
  group = c.group-item.result;
  among = (c.loop-group.group-index, c.loop-group-test.true, sym c.group-item.is);
  out = OnFalse_at c.if-not-stay.true c.in_ok-stay.ensures.out;
}

pub loop-group-preserved : goal.loop-group-preserved
loop-group-preserved c = λ k d below. elim (cases_lt k c.loop-group.group-index) [
  | inl lt ↦ c.loop-group.invariant k d lt
  | inr le ↦
      (let i = c.loop-group.group-index in
      let groups = c.args.groups.now in
      let same : k ≡ i = omega (arith, le, below) in
      let is : c.group-item.result ≡ get_or groups k d = c.group-item.is ∙ get_or_default groups i c.group-item.result d c.loop-group-test.true ∙ ap (λ (j : ℕ). get_or groups j d) (sym same) in
      subst (λ (g : ExitGroup). AreEndsIn c.args.rows.now (ends_by g.entry g.ends)) is (OnTrue_at c.if-not-stay.false c.in_ok-stay.ensures.stay))
]

pub returns-clause-stay : goal.returns-clause-stay
returns-clause-stay c = λ g m.
    let groups = c.args.groups.now in
    subst (λ (x : ExitGroup). AreEndsIn c.args.rows.now (ends_by x.entry x.ends)) m.2 (c.loop-group.invariant m.0 g (omega (arith, m.1, c.loop-group-test.false)))
