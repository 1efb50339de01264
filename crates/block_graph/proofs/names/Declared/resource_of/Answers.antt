use Rattle.std.proofs.Common.{ap, ◌∙◌}
use Rattle.oil_system.specs.declared.{objects.Resource.{Resource}, system.System.{System}}
use Rattle.block_graph.specs.Names.{resource_of}
use Rattle.block_graph.proofs.Numbered.{found}
use Rattle.block_graph.proofs.names.Declared.resource_of.Goals as goal

pub returns : goal.returns
returns c =
    c.number_of.ensures
    ∙ found (λ (x : Resource). x.name) c.self.inside.system.now.resources c.self.inside.resources.keys c.as_bytes.result.now c.args.name.now c.self.invariant.resources c.as_bytes.ensures.bytes
    ∙ ap (λ (s : System). resource_of s c.args.name.now) c.self.view_is
