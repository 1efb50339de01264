use Rattle.std.proofs.Common.{ap, subst}
use Rattle.osek_values.specs.Numbers.{mode_no}
use Rattle.osek_standard.specs.Dispatch.{Stepped}
use Rattle.abstract_state.specs.Regular.{IsRegular}
use Rattle.abstract_state.proofs.RegularLaws.{start_regular}
use Rattle.flow_cases.proofs.rules_at_points.row_after_two_runs.Goals as goal

pub run_twice-requires-clause-regular : goal.run_twice-requires-clause-regular
run_twice-requires-clause-regular c =
    let app = c.args.app.now in
    subst (IsRegular app) (ap (λ (x : Stepped). x.state) c.in_ok-state.ensures.start) (start_regular app (mode_no 0) app.valid.some_mode)
