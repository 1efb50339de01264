use Rattle.std.proofs.{Common.{rules, ◌∙◌, ltb, ap, arith}, lemmas.List.{get_or_default, Sorted.{IsPartitionPoint-from_clause}}}
use Rattle.table_rows.proofs.OrderLaws.{parted, gap_found}
use Rattle.table_rows.proofs.order.place_of.Goals.{else-place-xs-via-then-place-xs+else-key, else-place-xs-via-else-place-xs}
use Rattle.table_rows.proofs.order.place_of.Goals as goal

pub returns-else-place-xs-clause-gap : goal.returns-else-place-xs-clause-gap
returns-else-place-xs-clause-gap g c =
    let key = g.X.Keyed.key in
    let xs = c.args.xs.now in
    let n = c.args.key in
    let place = c.partition_point-place.result in
    let parts = IsPartitionPoint-from_clause (λ (x : g.row.X.Denot). ltb (key x) n) xs place c.partition_point-place.ensures.partitioned (parted key xs c.requires n) (λ a r f k. search rules) in
    gap_found key xs c.requires n place c.partition_point-place.ensures.bound parts
    (elim c.else-place-xs.branch [
      | else-place-xs-via-then-place-xs+else-key w ↦ (λ lt d e.
          w.if-key.false (w.key.ensures ∙ ap key (w.index-xs-place.is ∙ get_or_default xs place w.index-xs-place.result d lt) ∙ e))
      | else-place-xs-via-else-place-xs w ↦ (λ lt d e. absurd (omega (arith, lt, w.if-place-xs.false)))
    ])
