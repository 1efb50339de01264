use Rattle.std.proofs.{Common.{◌≡◌, ℕ, get_or, inl, inr, sym, subst, arith}, lemmas.{Bool.{cases_lt, OnTrue_at, OnFalse_at}, List.{get_or_default}}}
use Rattle.osek_standard.specs.declared.point.Point.{Point}
use Rattle.osek_standard.specs.declared.point.Point.TheVariants as point
use Rattle.flow_check.specs.Staying.{IsIn, end_at}
use Rattle.flow_check.proofs.GroupEnds.{each_in, some_out, in_more}
use Rattle.flow_check.proofs.staying.all_at.Goals as goal

pub returns-then-not-is_in-clause-out : goal.returns-then-not-is_in-clause-out
returns-then-not-is_in-clause-out c =
    some_out c.args.rows.now (λ (p : Point). end_at p c.args.entry.now) c.args.points.now c.loop-point.point-index (get_or c.args.points.now c.loop-point.point-index point.Halted) c.loop-point-test.true (get_or_default c.args.points.now c.loop-point.point-index _ point.Halted c.loop-point-test.true)
    (OnFalse_at c.if-not-is_in.true c.is_in.ensures.out)

pub loop-point-preserved : goal.loop-point-preserved
loop-point-preserved c = λ k d below. elim (cases_lt k c.loop-point.point-index) [
  | inl lt ↦ c.loop-point.invariant k d lt
  | inr le ↦
      (let f = λ (p : Point). end_at p c.args.entry.now in
      let same : k ≡ c.loop-point.point-index = omega (arith, le, below) in
      subst (λ (j : ℕ). IsIn c.args.rows.now (f (get_or c.args.points.now j d))) (sym same)
      (in_more c.args.rows.now f c.args.points.now c.loop-point.point-index (get_or c.args.points.now c.loop-point.point-index point.Halted) c.loop-point-test.true (get_or_default c.args.points.now c.loop-point.point-index _ point.Halted c.loop-point-test.true) (OnTrue_at c.if-not-is_in.false c.is_in.ensures.within) d))
]

pub returns-clause-stay : goal.returns-clause-stay
returns-clause-stay c =
    each_in c.args.rows.now (λ (p : Point). end_at p c.args.entry.now) c.args.points.now (λ k d lt. c.loop-point.invariant k d (omega (arith, lt, c.loop-point-test.false)))
