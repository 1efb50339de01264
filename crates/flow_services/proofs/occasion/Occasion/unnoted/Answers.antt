use Rattle.std.proofs.{Common.{◌∙◌, None}, lemmas.Result.{IfOk-weaker}}
use Rattle.flow_services.specs.declared.occasion.Queued.TheVariants as queued
use Rattle.flow_services.proofs.OccasionLaws.{changing_nothing}
use Rattle.flow_services.proofs.occasion.Occasion.unnoted.Goals as goal

pub returns : goal.returns
returns c = IfOk-weaker c.case.result _ _ (λ x is. is ∙ changing_nothing c.args.self c.args.conditions c.in_ok-changes.changes None queued.Nothing c.in_ok-changes.ensures) c.case.ensures
