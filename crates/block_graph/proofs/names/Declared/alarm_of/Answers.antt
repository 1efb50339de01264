use Rattle.std.proofs.Common.{ap, ◌∙◌}
use Rattle.oil_system.specs.declared.{objects.Alarm.{Alarm}, system.System.{System}}
use Rattle.block_graph.specs.Names.{alarm_of}
use Rattle.block_graph.proofs.Numbered.{found}
use Rattle.block_graph.proofs.names.Declared.alarm_of.Goals as goal

pub returns : goal.returns
returns c =
    c.number_of.ensures
    ∙ found (λ (x : Alarm). x.name) c.self.inside.system.now.alarms c.self.inside.alarms.keys c.as_bytes.result.now c.args.name.now c.self.invariant.alarms c.as_bytes.ensures.bytes
    ∙ ap (λ (s : System). alarm_of s c.args.name.now) c.self.view_is
