use Rattle.std.proofs.{Common.{◌∙◌, Some}, lemmas.Result.{IfOk-weaker}}
use Rattle.osek_values.specs.declared.status.Status.TheVariants as status
use Rattle.flow_services.specs.declared.occasion.Queued.TheVariants as queued
use Rattle.flow_services.proofs.OccasionLaws.{changing_nothing}
use Rattle.flow_services.proofs.occasion.Occasion.answered.Goals as goal

pub returns : goal.returns
returns c = IfOk-weaker c.accepted.result _ _ (λ x is. is ∙ changing_nothing c.args.self c.args.conditions c.in_ok-changes.changes (Some status.Ok) queued.Nothing c.in_ok-changes.ensures) c.accepted.ensures
