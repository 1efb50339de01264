use Rattle.std.proofs.Common.{sym, ap, ◌∙◌, arith}
use Rattle.abstract_state.specs.Tables.{value_count}
use Rattle.numbered_sets.specs.Counts.{row_numbers}
use Rattle.numbered_sets.proofs.CountedNumbers.{values_are_numbers}
use Rattle.numbered_sets.proofs.table.Table.values.Goals as goal

pub count_rows-requires : goal.count_rows-requires
count_rows-requires c =
    let same = values_are_numbers c.self.inside.pool c.self.inside.rows c.are_values.ensures c.self.invariant in
    let whole = ap value_count c.self.view_is in
    let slice = ap row_numbers c.as_slice.ensures in
    omega (arith, same, whole, slice, c.requires)

pub returns : goal.returns
returns c =
    c.count_rows.ensures ∙ ap row_numbers c.as_slice.ensures
    ∙ sym (values_are_numbers c.self.inside.pool c.self.inside.rows c.are_values.ensures c.self.invariant) ∙ ap value_count c.self.view_is
