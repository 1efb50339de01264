use Rattle.table_codec.proofs.SourceShapeLaws.{outside_found, beside_found, block_found}
use Rattle.table_codec.proofs.source_shape.SourceShape.of.Goals as goal

pub returns-in-None-clause-shape : goal.returns-in-None-clause-shape
returns-in-None-clause-shape c =
    outside_found c.args.app.now c.args.source c.requires c.args.point c.routine_start-first.result c.routine_size-count.result c.most_held-most.result c.routine_start-first.ensures c.routine_size-count.ensures c.most_held-most.ensures
    c.in-None.ensures

pub returns-then-is_of_routine-clause-shape : goal.returns-then-is_of_routine-clause-shape
returns-then-is_of_routine-clause-shape c =
    block_found c.args.app.now c.args.source c.requires c.args.point c.routine_start-first.result c.routine_size-count.result c.most_held-most.result c.routine_start-first.ensures c.routine_size-count.ensures c.most_held-most.ensures
    c.in-Some.block c.in-Some.ensures (c.is_of_routine.ensures.0 c.if-is_of_routine.true)

pub returns-else-is_of_routine-clause-shape : goal.returns-else-is_of_routine-clause-shape
returns-else-is_of_routine-clause-shape c =
    beside_found c.args.app.now c.args.source c.requires c.args.point c.routine_start-first.result c.routine_size-count.result c.most_held-most.result c.routine_start-first.ensures c.routine_size-count.ensures c.most_held-most.ensures
    c.in-Some.block c.in-Some.ensures (λ own. let yes = c.is_of_routine.ensures.1 own in let no = c.if-is_of_routine.false in absurd (cc))
