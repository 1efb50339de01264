use Rattle.std.proofs.Common.{◌∙◌, ◌++◌, ◌∷◌, [], List, sym, ap, arith}
use Rattle.numbered_sets.specs.Pools.{values_at}
use Rattle.table_codec.specs.{declared.ascending.NumberedValue.{NumberedValue}, Ascending.{numbered_value}}
use Rattle.table_codec.proofs.AscendingValues.{numbered_more}
use Rattle.table_codec.proofs.ascending.numbered_values.Goals as goal

pub loop-number-preserved : goal.loop-number-preserved
loop-number-preserved c =
    let value = c.copy-value.result in
    c.in_ok-push.ensures.items ∙ ap (λ (l : List NumberedValue). l ++ numbered_value c.loop-number.number value ∷ []) c.loop-number.invariant
    ∙ sym (numbered_more (values_at c.args.pool.now c.args.component) c.loop-number.number value (omega (arith, c.loop-number-test.true, c.len-number-end.ensures)) (c.value.ensures.is value ∙ sym c.copy-value.ensures))
