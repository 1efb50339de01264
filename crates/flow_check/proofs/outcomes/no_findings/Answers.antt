use Rattle.std.proofs.Common.{rules, ◌≡◌, ◌++◌, ◌∷◌, [], ◌∙◌, length, ap}
use Rattle.std.specs.declared.option.Option.{Option}
use Rattle.abstract_state.proofs.RangeLaws.{mapped_more}
use Rattle.flow_check.specs.{declared.found.Findings.{Findings}, Outcomes.{first_found}}
use Rattle.flow_check.proofs.RowOutcomes.{first_outcomes}
use Rattle.flow_check.proofs.outcomes.no_findings.Goals as goal

pub loop-block-preserved : goal.loop-block-preserved
loop-block-preserved c =
    c.in_ok-push.ensures.ok ∙ ap (λ (x : Option Findings). c.loop-block.sites ++ x ∷ []) c.no_finding.ensures
    ∙ mapped_more [] c.loop-block.sites (first_found c.args.app.now) c.loop-block.block c.loop-block.invariant

pub returns : goal.returns
returns c =
    let end : c.loop-block.block ≡ length c.args.app.now.blocks = search rules in
    first_outcomes c.args.app.now c.loop-block.block c.loop-block.sites end c.loop-block.invariant
