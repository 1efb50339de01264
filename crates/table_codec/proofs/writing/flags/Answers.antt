use Rattle.std.proofs.Common.{◌≡◌, ◌∙◌, ◌+◌, true, sym, arith}
use Rattle.numbered_sets.specs.{Numbers.{has_number}, SetLists.{set_of}}
use Rattle.table_codec.proofs.WriteSteps.{sum_prefix, sum_more}
use Rattle.table_codec.proofs.writing.flags.Goals as goal

pub overflow_add-flags : goal.overflow_add-flags
overflow_add-flags c =
    let x = set_of c.args.sets.now c.args.component in
    let values = c.args.values.now in
    let i = c.loop-found.found-index in
    let has : has_number x c.found-item.result.number ≡ true = sym c.has.ensures ∙ c.if-has.true in
    let more = sum_more x values i c.found-item.result c.loop-found-test.true (sym c.found-item.is) has in
    omega (arith, more, sum_prefix x values (i + 1), c.requires, c.loop-found.invariant, c.flag_number-flags.ensures)
