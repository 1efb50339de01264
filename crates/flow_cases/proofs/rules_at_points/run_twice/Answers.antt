use Rattle.std.proofs.Common.{false, ap, subst}
use Rattle.osek_values.specs.declared.event.Event.TheVariants.{Run}
use Rattle.osek_standard.specs.Dispatch.{Stepped}
use Rattle.abstract_state.specs.Regular.{IsRegular}
use Rattle.abstract_state.proofs.RegularLaws.{step_regular}
use Rattle.flow_cases.proofs.rules_at_points.run_twice.Goals as goal

pub returns-clause-regular : goal.returns-clause-regular
returns-clause-regular g c =
    let app = c.args.app.now in
    let once = subst (IsRegular app) (ap (λ (x : Stepped). x.state) c.step.ensures.step) (step_regular app c.args.state.now (Run false) c.requires.well c.requires.regular) in
    subst (IsRegular app) (ap (λ (x : Stepped). x.state) c.step-2.ensures.step) (step_regular app c.step.new.state (Run false) c.step.ensures.well once)
