-- by the lemma of each service
use Rattle.std.proofs.Common.{ap, ◌∙◌}
use Rattle.osek_standard.specs.declared.block.Block.{Block}
use Rattle.osek_standard.specs.declared.block.Kind.TheVariants as kind
use Rattle.osek_standard.specs.declared.call.Call.{Call}
use Rattle.flow_effects.specs.Moves.{halts}
use Rattle.flow_effects.proofs.MoveCases.{halt_cases}
use Rattle.flow_model.specs.{Runners.{runner_point}, Effects.{AreCasesOf}}
use Rattle.flow_effects.proofs.Listed.{ok_list}
use Rattle.flow_effects.proofs.instruction.call_cases.Goals as goal

pub returns-in-ShutdownOs : goal.returns-in-ShutdownOs
returns-in-ShutdownOs c =
    let is = c.requires.kind ∙ ap (λ (x : Call). kind.Call x) c.in-ShutdownOs.is in
    ok_list (AreCasesOf c.args.app.now (runner_point c.args.runner c.args.block)) _ _ c.halts.result c.halts.ensures
    (ap (λ (x : Block). halts c.args.app.now c.args.runner x.next) c.block.ensures)
    (halt_cases c.args.app.now c.args.runner c.args.block c.requires.owns is)
