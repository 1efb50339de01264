use Rattle.std.proofs.Common.{ap, ◌∙◌}
use Rattle.oil_system.specs.declared.system.{EventObject.{EventObject}, System.{System}}
use Rattle.block_graph.specs.Names.{event_of}
use Rattle.block_graph.proofs.Numbered.{found}
use Rattle.block_graph.proofs.names.Declared.event_of.Goals as goal

pub returns : goal.returns
returns c =
    c.number_of.ensures
    ∙ found (λ (x : EventObject). x.name) c.self.inside.system.now.events c.self.inside.events.keys c.as_bytes.result.now c.args.name.now c.self.invariant.events c.as_bytes.ensures.bytes
    ∙ ap (λ (s : System). event_of s c.args.name.now) c.self.view_is
