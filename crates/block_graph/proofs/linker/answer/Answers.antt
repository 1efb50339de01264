-- the application of what was generated is valid
use Rattle.block_graph.proofs.SomeAnswer.{valid_generated}
use Rattle.block_graph.proofs.linker.answer.Goals as goal

pub invariant_of-result : goal.invariant_of-result
invariant_of-result c = record { valid = valid_generated c.args.system c.args.code.now c.in_ok-generated.generated c.requires.linkable c.requires.fit c.in_ok-generated.ensures }
