use Rattle.std.proofs.Common.{rules, ◌≡◌, ◌≢◌, ℕ, ◌≤◌, length, get_or, sym, ap, subst, ◌∙◌, inl, inr, arith}
use Rattle.std.proofs.lemmas.{Bool.{cases_lt, OnTrue_at}, List.{get_or_default}}
use Rattle.point_exits.specs.declared.group.NumberEnd.{NumberEnd}
use Rattle.state_flow.specs.ExitRows.{IsPart}
use Rattle.state_flow.proofs.joining.joined_target.Goals as goal

pub loop-end-preserved : goal.loop-end-preserved
loop-end-preserved c = λ j d lt.
    let items = c.args.ends.now in
    let i = c.loop-end.end-index in
    let x = c.end-item.result in
    let there : x.target ≡ c.index-ends-0-2.result.target = search rules in
    let part : IsPart c.args.entry.now x = OnTrue_at c.if-not-is_part.false c.is_part.ensures in
    let target = there ∙ ap (λ (y : NumberEnd). y.target) c.index-ends-0-2.is in
    elim (cases_lt j i) [
      | inl below ↦ c.loop-end.invariant j d below
      | inr past ↦
          (let same : i ≡ j = omega (arith, past, lt) in
          let at : x ≡ get_or items j d = c.end-item.is ∙ sym (get_or_default items i d x c.loop-end-test.true) ∙ ap (λ (k : ℕ). get_or items k d) same in
          (sym (ap (λ (y : NumberEnd). y.target) at) ∙ target, subst (IsPart c.args.entry.now) at part))
    ]

pub returns : goal.returns
returns c =
    let xs = c.args.ends.now in
    let first = get_or xs 0 c.index-ends-0.result in
    let second = get_or xs 1 c.index-ends-1.result in
    let many : 2 ≤ length xs = omega (arith, c.if-ends-lt2.false) in
    let past = c.loop-end-test.false in
    let apart : first.component ≢ second.component = (λ same. (let other = c.if-ends.false in omega (arith, other, same))) in
    record {
      first = first;
      second = second;
      first_listed = (0, omega (arith, many), get_or_default xs 0 first c.index-ends-0.result (omega (arith, many)));
      second_listed = (1, omega (arith, many), get_or_default xs 1 second c.index-ends-1.result (omega (arith, many)));
      apart = apart;
      target = λ x m.
          (let h = c.loop-end.invariant m.0 x (let lt = m.1 in omega (arith, lt, past)) in
          sym (ap (λ (y : NumberEnd). y.target) m.2) ∙ h.0);
      part = λ x m.
          (let h = c.loop-end.invariant m.0 x (let lt = m.1 in omega (arith, lt, past)) in
          subst (IsPart c.args.entry.now) m.2 h.1);
    }
