use Rattle.std.proofs.{Common.{◌≡◌, ◌+◌, ◌≤◌, ◌<◌, [], ◌∷◌, ℕ, false, length, sym, ap, ◌∙◌, arith}, lemmas.Bool.{OnFalse_from}}
use Rattle.flow_model.specs.{declared.test.{Condition.{Condition}, Test.{Test}}, Tests.{passes}}
use Rattle.numbered_sets.specs.{Numbers.{has_number}, NumberedEntries.{numbers_at}, Pools.{values_at}}
use Rattle.point_exits.specs.Sifting.{LeavesNone}
use Rattle.point_exits.proofs.SiftedSets.{none_there, alone_fails}
use Rattle.point_exits.proofs.changes.NumberedValues.may_pass_alone.Goals as goal

pub returns-then-first-count : goal.returns-then-first-count
returns-then-first-count c =
    let pool = c.args.self.now.pool.now in
    let entry = c.args.self.now.entry.now in
    let k = c.args.component in
    OnFalse_from false ((x : Condition) → x.component.0 ≡ k → x.test ≡ c.args.test.now → LeavesNone pool (x ∷ []) entry) (λ e x at is.
    none_there pool entry x k at c.requires c.next-first.result (omega (arith, c.if-first-count.true, c.len-count.ensures)) c.next-first.ensures.none)

pub returns : goal.returns
returns c =
    let pool = c.args.self.now.pool.now in
    let entry = c.args.self.now.entry.now in
    let k = c.args.component in
    let behind : (n : ℕ) → c.next-first.result + 1 ≤ n → n < length (values_at pool k) → has_number (numbers_at entry k) n ≡ false =
    (λ n up lt. c.next-second.ensures.none n up (omega (arith, lt, c.if-second-count.false, c.len-count.ensures))) in
    OnFalse_from c.passes.result ((x : Condition) → x.component.0 ≡ k → x.test ≡ c.args.test.now → LeavesNone pool (x ∷ []) entry) (λ e x at is.
    alone_fails pool entry x k at c.requires c.next-first.result c.value.result c.value.ensures c.next-first.ensures.none behind (ap (λ (t : Test). passes t c.value.result) is ∙ sym c.passes.ensures ∙ e))
