use Rattle.std.proofs.{Common.{◌∙◌, ◌-◌, ℕ, sym, ap, arith, get_or}, lemmas.Bool.{eq-eqb}}
use Rattle.table_codec.proofs.AboveLast.{above_none, less_test}
use Rattle.table_codec.proofs.sets.is_above.Goals as goal

pub returns-then-count-eq0 : goal.returns-then-count-eq0
returns-then-count-eq0 c = (λ _. above_none c.args.before.now c.args.value.now (sym c.len-count.ensures ∙ c.if-count-eq0.true), λ _. eq-eqb c.len-count.result 0 c.if-count-eq0.true)

pub returns-else-count-eq0 : goal.returns-else-count-eq0
returns-else-count-eq0 c =
    let last = ap (λ (n : ℕ). get_or c.args.before.now (n - 1) c.at.result.now) (sym c.len-count.ensures) ∙ c.at.ensures.item c.at.result.now in
    less_test c.args.before.now c.at.result.now c.args.value.now c.is_lt.result c.requires (omega (arith, c.if-count-eq0.false, c.len-count.ensures)) last c.order.result c.order.ensures c.is_lt.ensures
