use Rattle.std.proofs.Common.{ℕ, true, subst, ◌∙◌, arith}
use Rattle.std.specs.Bool.{Decides}
use Rattle.abstract_state.specs.declared.value.PartValue.TheVariants.{OfAlarm}
use Rattle.abstract_state.specs.declared.value.Component.TheVariants as component
use Rattle.abstract_state.proofs.Numbers.{number_known}
use Rattle.flow_model.specs.declared.test.Test.TheVariants as test
use Rattle.flow_report.specs.Reached.{ShowsState, table_of}
use Rattle.flow_report.proofs.FlagFindings.{unarmed_answer}
use Rattle.flow_report.proofs.reached.Reached.is_unarmed.Goals as goal

pub is_shown-requires-clause-known : goal.is_shown-requires-clause-known
is_shown-requires-clause-known c = omega (arith, c.index-component.ensures, c.component_number.ensures, number_known c.args.self.now.app.now (component.Alarm c.args.alarm) c.requires.known)

pub returns : goal.returns
returns c =
    let self = c.args.self.now in
    let table = table_of self.pool.now self.rows.now in
    unarmed_answer self.app.now table c.args.alarm c.is_shown.result c.requires.known
    (subst (λ (k : ℕ). Decides c.is_shown.result (ShowsState k (test.Is (OfAlarm true)) self.app.now table)) (c.index-component.ensures ∙ c.component_number.ensures) c.is_shown.ensures)
