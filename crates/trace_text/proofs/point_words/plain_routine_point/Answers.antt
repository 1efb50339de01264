use Rattle.std.proofs.Common.{ℕ, List, ◌++◌, ap}
use Rattle.std.specs.Prelude.{codes}
use Rattle.trace_text.specs.PointTexts.{block_text}
use Rattle.trace_text.proofs.point_words.plain_routine_point.Goals as goal

pub returns-then-is_routine_block : goal.returns-then-is_routine_block
returns-then-is_routine_block c =
    let over = c.in-Some.ensures in
    (c.is_routine_block.ensures c.in-Some.over c.if-is_routine_block.true over.0, ap (λ (l : List ℕ). block_text c.args.block.0 ++ codes "/" ++ l) over.1)
