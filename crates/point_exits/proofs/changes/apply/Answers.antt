use Rattle.std.proofs.Common.{IfSome, IfNone, Some, None}
use Rattle.std.specs.declared.option.Option.{Option}
use Rattle.std.proofs.lemmas.{Bool.{OnTrue_at, OnFalse_at}, Option.{IfSome_then}, Result.{IfOk-weaker}}
use Rattle.abstract_state.specs.declared.table.PlainEntry.{PlainEntry}
use Rattle.flow_model.specs.{declared.rule.Rule.{Rule}, Rules.{Applies, HasNone}}
use Rattle.numbered_sets.specs.{declared.numbered_entry.NumberedEntry.{NumberedEntry}, Views.{plain_entry}}
use Rattle.point_exits.specs.Applying.{bare_rule}
use Rattle.point_exits.proofs.{BareRules.{bare_applies, bare_none, may_apply_bare}, SiftedSets.{empty_takes_none}}
use Rattle.point_exits.proofs.changes.apply.Goals as goal

none_left : (rule : Rule) (entry : PlainEntry) (new : Option NumberedEntry) → IfNone new (HasNone (bare_rule rule.conditions rule.changes) entry) → IfNone new (HasNone rule entry)
none_left rule entry None h = bare_none rule entry h
none_left rule entry (Some x) h = h

pub returns-then-not-is_filled-clause-none : goal.returns-then-not-is_filled-clause-none
returns-then-not-is_filled-clause-none c = empty_takes_none c.args.pool.now c.args.rule.now c.args.entry.now (OnFalse_at c.if-not-is_filled.true c.is_filled.ensures.none)

pub applied-requires : goal.applied-requires
applied-requires c =
    may_apply_bare c.args.rule.now c.args.pool.now c.args.entry.now
    (record { numbers = c.requires.numbers; filled = OnTrue_at c.if-not-is_filled.false c.is_filled.ensures.filled; kept = c.requires.domains })

pub returns-clause-some : goal.returns-clause-some
returns-clause-some c =
    let rule = c.args.rule.now in
    let entry = plain_entry c.args.pool.now c.args.entry.now in
    let after = c.applied.new.pool in
    IfOk-weaker c.applied.result (λ new. IfSome new (λ x. Applies (bare_rule rule.conditions rule.changes) entry (plain_entry after x))) (λ new. IfSome new (λ x. Applies rule entry (plain_entry after x)))
    (λ new some. IfSome_then new some (λ x. bare_applies rule entry (plain_entry after x))) c.applied.ensures.some

pub returns-clause-none : goal.returns-clause-none
returns-clause-none c =
    let rule = c.args.rule.now in
    let entry = plain_entry c.args.pool.now c.args.entry.now in
    IfOk-weaker c.applied.result (λ new. IfNone new (HasNone (bare_rule rule.conditions rule.changes) entry)) (λ new. IfNone new (HasNone rule entry)) (none_left rule entry) c.applied.ensures.none
