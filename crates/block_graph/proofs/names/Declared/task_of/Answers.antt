use Rattle.std.proofs.Common.{ap, ◌∙◌}
use Rattle.oil_system.specs.declared.system.{TaskObject.{TaskObject}, System.{System}}
use Rattle.block_graph.specs.Names.{task_of}
use Rattle.block_graph.proofs.Numbered.{found}
use Rattle.block_graph.proofs.names.Declared.task_of.Goals as goal

pub returns : goal.returns
returns c =
    c.number_of.ensures
    ∙ found (λ (x : TaskObject). x.name) c.self.inside.system.now.tasks c.self.inside.tasks.keys c.as_bytes.result.now c.args.name.now c.self.invariant.tasks c.as_bytes.ensures.bytes
    ∙ ap (λ (s : System). task_of s c.args.name.now) c.self.view_is
