-- the cases of a service are so whatever sources are out
use Rattle.flow_model.specs.Runners.{runner_point}
use Rattle.flow_effects.proofs.Listed.{ok_with}
use Rattle.flow_effects.proofs.instruction.block_cases.Goals as goal

pub returns-then-is_service : goal.returns-then-is_service
returns-then-is_service c = ok_with c.args.app.now c.args.outs.now (runner_point c.args.runner c.args.block) c.service_cases.result c.service_cases.ensures
