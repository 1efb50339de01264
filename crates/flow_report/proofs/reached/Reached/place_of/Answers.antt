use Rattle.std.proofs.{Common.{rules}, lemmas.List.Sorted.{IsPartitionPoint-from_clause}}
use Rattle.numbered_sets.specs.declared.table.NumberedRow.{NumberedRow}
use Rattle.flow_report.specs.Reached.{comes_before}
use Rattle.flow_report.proofs.BlockPlaces.{parted}
use Rattle.flow_report.proofs.reached.Reached.place_of.Goals as goal

pub returns : goal.returns
returns c =
    let self = c.args.self.now in
    let b = c.args.block.0 in
    IsPartitionPoint-from_clause (λ (row : NumberedRow). comes_before row.point b) self.rows.now c.partition_point.result c.partition_point.ensures.partitioned (parted self.app.now self.pool.now self.rows.now c.requires b) (λ a r f k. search rules)
