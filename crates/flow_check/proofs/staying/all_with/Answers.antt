use Rattle.std.proofs.{Common.{◌≡◌, ℕ, get_or, inl, inr, refl, sym, subst, ◌∙◌, arith}, lemmas.Bool.{cases_lt, OnTrue_at, OnFalse_at}}
use Rattle.numbered_sets.specs.declared.numbered_entry.NumberedEntry.{NumberedEntry}
use Rattle.point_exits.specs.{declared.group.NumberEnd.{NumberEnd}, Groups.{with_end}}
use Rattle.flow_check.specs.Staying.{IsIn, IsOut, HasSetOf, end_at}
use Rattle.flow_check.proofs.GroupEnds.{each_in, some_out, in_more}
use Rattle.flow_check.proofs.staying.all_with.Goals as goal

pub loop-end-init : goal.loop-end-init
loop-end-init c = record { same = refl; each = λ k d lt. absurd (omega (arith, lt)) }

pub is_end_in-requires-clause-set : goal.is_end_in-requires-clause-set
is_end_in-requires-clause-set c =
    let x = c.end-item.result in
    subst (λ (e : NumberedEntry). HasSetOf e x) (sym c.loop-end.invariant.same) (c.requires.set x (c.loop-end.end-index, c.loop-end-test.true, sym c.end-item.is))

pub returns-then-not-branch-clause-out : goal.returns-then-not-branch-clause-out
returns-then-not-branch-clause-out c =
    let x = c.end-item.result in
    some_out c.args.rows.now (λ (y : NumberEnd). end_at y.target (with_end c.args.entry y)) c.args.ends.now c.loop-end.end-index x c.loop-end-test.true (sym c.end-item.is)
    (subst (λ (e : NumberedEntry). IsOut c.args.rows.now (end_at x.target (with_end e x))) c.loop-end.invariant.same (OnFalse_at c.if-not-branch.true c.in_ok-is_end_in.ensures.out))

pub loop-end-preserved : goal.loop-end-preserved
loop-end-preserved c =
    let x = c.end-item.result in
    let i = c.loop-end.end-index in
    let f = λ (y : NumberEnd). end_at y.target (with_end c.args.entry y) in
    let here = subst (λ (e : NumberedEntry). IsIn c.args.rows.now (end_at x.target (with_end e x))) c.loop-end.invariant.same (OnTrue_at c.if-not-branch.false c.in_ok-is_end_in.ensures.within) in
    record {
      same = c.in_ok-is_end_in.ensures.entry ∙ c.loop-end.invariant.same;
      each = λ k d below. elim (cases_lt k i) [
        | inl lt ↦ c.loop-end.invariant.each k d lt
        | inr le ↦
            (let same : k ≡ i = omega (arith, le, below) in
            subst (λ (j : ℕ). IsIn c.args.rows.now (f (get_or c.args.ends.now j d))) (sym same) (in_more c.args.rows.now f c.args.ends.now i x c.loop-end-test.true (sym c.end-item.is) here d))
      ];
    }

pub returns-clause-stay : goal.returns-clause-stay
returns-clause-stay c =
    each_in c.args.rows.now (λ (y : NumberEnd). end_at y.target (with_end c.args.entry y)) c.args.ends.now (λ k d lt. c.loop-end.invariant.each k d (omega (arith, lt, c.loop-end-test.false)))
