use Rattle.std.proofs.Common.{◌≡◌, List, length, sym, ap, subst, ◌∙◌, arith}
use Rattle.std.specs.Prelude.{Contains}
use Rattle.std.proofs.lemmas.List.{length-map}
use Rattle.abstract_state.specs.declared.value.Domain.{Domain}
use Rattle.numbered_sets.specs.{Numbers.{Numbers}, Pools.{Values}, declared.table.NumberedRow.{NumberedRow}}
use Rattle.flow_cases.proofs.point_tables.text_of.Goals as goal

-- a row has a set for each component of the pool
pub plain-requires : goal.plain-requires
plain-requires c =
    let pool = c.in_ok-numbered.numbered.pool in
    let row = c.row-item.result in
    let among : Contains c.as_slice-row-items.result.now row = (c.loop-row.row-index, c.loop-row-test.true, sym c.row-item.is) in
    let listed : Contains c.in_ok-numbered.numbered.rows.now row = subst (λ (xs : List NumberedRow). Contains xs row) c.as_slice-row-items.ensures among in
    let known = c.in_ok-numbered.ensures.known.each row listed in
    let same : length row.entry.sets ≡ length pool = sym (length-map row.entry.sets (λ (x : Numbers). x.domain)) ∙ ap (λ (ds : List Domain). length ds) known.domains ∙ length-map pool (λ (x : Values). x.domain) in
    omega (arith, same)
