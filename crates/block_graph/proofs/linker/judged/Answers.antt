-- without a fault the bodies have few blocks, and what is generated from them is the code's
use Rattle.std.proofs.Common.{◌≤◌, List, sym, subst}
use Rattle.task_code.specs.declared.tree.Body.{Body}
use Rattle.block_graph.specs.{Blocks.{source_size}, Generated.{IsGenerated}}
use Rattle.block_graph.proofs.ExtentsRules.{few_source_blocks}
use Rattle.block_graph.proofs.linker.judged.Goals as goal

pub from_bodies-requires-clause-room : goal.from_bodies-requires-clause-room
from_bodies-requires-clause-room c = subst (λ (bs : List Body). source_size bs ≤ 1024) (sym c.as_slice.ensures) (few_source_blocks c.args.declared.now c.args.code.now c.in-None.ensures)

pub returns-in_ok-generated-in-None : goal.returns-in_ok-generated-in-None
returns-in_ok-generated-in-None c = (c.in-None.ensures, subst (λ (bs : List Body). IsGenerated c.args.declared.now bs c.in_ok-generated-in-None.generated) c.as_slice.ensures c.in_ok-generated-in-None.ensures)
