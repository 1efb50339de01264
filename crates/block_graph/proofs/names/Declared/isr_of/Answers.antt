use Rattle.std.proofs.Common.{ap, ◌∙◌}
use Rattle.oil_system.specs.declared.system.{IsrObject.{IsrObject}, System.{System}}
use Rattle.block_graph.specs.Names.{isr_of}
use Rattle.block_graph.proofs.Numbered.{found}
use Rattle.block_graph.proofs.names.Declared.isr_of.Goals as goal

pub returns : goal.returns
returns c =
    c.number_of.ensures
    ∙ found (λ (x : IsrObject). x.name) c.self.inside.system.now.isrs c.self.inside.isrs.keys c.as_bytes.result.now c.args.name.now c.self.invariant.isrs c.as_bytes.ensures.bytes
    ∙ ap (λ (s : System). isr_of s c.args.name.now) c.self.view_is
