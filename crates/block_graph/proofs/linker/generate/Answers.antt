-- what is generated of the names is generated of their system
use Rattle.std.proofs.Common.{subst}
use Rattle.oil_system.specs.declared.system.System.{System}
use Rattle.osek_values.specs.Answers.{IsRight}
use Rattle.block_graph.specs.Generated.{Generates}
use Rattle.block_graph.proofs.linker.generate.Goals as goal

pub returns : goal.returns
returns c = subst (λ (s : System). IsRight (Generates s c.args.code.now) c.judged.result) c.in_ok-declared.ensures c.judged.ensures
