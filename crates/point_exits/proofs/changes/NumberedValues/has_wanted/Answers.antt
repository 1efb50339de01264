use Rattle.std.proofs.{Common.{◌<◌, ◌∙◌, ◌∷◌, [], ℕ, length, refl, ap, sym, arith}, lemmas.Bool.{OnFalse_at, OnFalse_from}}
use Rattle.abstract_state.specs.Tables.{is_member}
use Rattle.numbered_sets.specs.{NumberedEntries.{numbers_at}, Pools.{values_at}, Views.{plain_set}}
use Rattle.point_exits.specs.Sifting.{LeavesNone}
use Rattle.point_exits.proofs.SiftedSets.{wants_missing}
use Rattle.point_exits.proofs.changes.NumberedValues.has_wanted.Goals as goal

pub returns-in-Is : goal.returns-in-Is
returns-in-Is c =
    let pool = c.args.self.now.pool.now in
    let entry = c.args.self.now.entry.now in
    let x = c.args.condition.now in
    let known : x.component.0 < length entry.sets = omega (arith, c.if-component-len.false, c.len.ensures, c.index-component.ensures) in
    OnFalse_from c.has_value.result (LeavesNone pool (x ∷ []) entry) (λ e.
    wants_missing pool x c.in-Is.value entry c.in-Is.is known
    (ap (λ (k : ℕ). is_member (plain_set (values_at pool k) (numbers_at entry k)) c.in-Is.value) (sym c.index-component.ensures) ∙ sym c.has_value.ensures ∙ e))

pub may_pass_alone-requires : goal.may_pass_alone-requires
may_pass_alone-requires c = omega (arith, c.if-component-len.false, c.len.ensures)

pub returns-in-IsNot : goal.returns-in-IsNot
returns-in-IsNot c =
    let pool = c.args.self.now.pool.now in
    let entry = c.args.self.now.entry.now in
    let x = c.args.condition.now in
    OnFalse_from c.may_pass_alone.result (LeavesNone pool (x ∷ []) entry) (λ e. OnFalse_at e c.may_pass_alone.ensures x (sym c.index-component.ensures) refl)
