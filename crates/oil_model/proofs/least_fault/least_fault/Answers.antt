use Rattle.std.proofs.Common.{sym, ◌∙◌, below_more}
use Rattle.osek_values.specs.declared.refusal.OilRule.TheVariants.{O1}
use Rattle.osek_values.proofs.LeastFaults.{found, clean_all}
use Rattle.oil_model.specs.Faults.{order}
use Rattle.oil_model.proofs.Least.{rules, lines_in, all}
use Rattle.oil_model.proofs.least_fault.least_fault.Goals as goal

pub loop-rule-preserved : goal.loop-rule-preserved
loop-rule-preserved c = below_more _ _ c.loop-rule.invariant (sym c.in_ok-least.ensures ∙ c.in_default.is)

pub returns-in-Some : goal.returns-in-Some
returns-in-Some c = found order (lines_in c.args.tree.now) rules O1 (all c.args.tree.now) c.loop-rule.rule-index c.loop-rule-test.true c.loop-rule.invariant c.in-Some.line (sym c.in_ok-least.ensures ∙ c.in-Some.is)

pub returns : goal.returns
returns c = clean_all order (lines_in c.args.tree.now) rules O1 (all c.args.tree.now) c.loop-rule.rule-index c.loop-rule-test.false c.loop-rule.invariant
