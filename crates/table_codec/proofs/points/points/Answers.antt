use Rattle.std.proofs.Common.{◌≡◌, ◌∙◌, ℕ, [], ◌∷◌, length, subst, arith}
use Rattle.std.specs.List.{flat_map, range_with_len}
use Rattle.osek_standard.specs.declared.point.Point.TheVariants as point
use Rattle.osek_standard.specs.Points.{block_points, points_in_order}
use Rattle.abstract_state.proofs.RangeLaws.{flat_mapped_more}
use Rattle.table_codec.proofs.points.points.Goals as goal

pub loop-block-preserved : goal.loop-block-preserved
loop-block-preserved c = c.in_ok-push_block_points.ensures ∙ flat_mapped_more (point.Halted ∷ point.Idle ∷ []) c.loop-block.points (block_points c.args.app.now) c.loop-block.block c.loop-block.invariant

pub returns : goal.returns
unfolding points_in_order
returns c =
    let all : c.loop-block.block ≡ length c.args.app.now.blocks = omega arith in
    subst (λ (n : ℕ). c.loop-block.points ≡ point.Halted ∷ point.Idle ∷ flat_map (block_points c.args.app.now) (range_with_len 0 n)) all c.loop-block.invariant
