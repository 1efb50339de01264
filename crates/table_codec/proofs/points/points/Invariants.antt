use Rattle.std.proofs.Common.{◌≡◌, [], ◌∷◌, ◌++◌}
use Rattle.std.specs.List.{flat_map, range_with_len}
use Rattle.osek_standard.specs.declared.point.Point.TheVariants as point
use Rattle.osek_standard.specs.Points.{block_points}
use Rattle.table_codec.proofs.points.points.Given as goal

abbrev pub invariant-loop-block : goal.invariant-loop-block
invariant-loop-block l = l.points ≡ (point.Halted ∷ point.Idle ∷ []) ++ flat_map (block_points l.app) (range_with_len 0 l.block)
