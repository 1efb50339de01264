use Rattle.std.proofs.Common.{sym, ◌∙◌, below_more}
use Rattle.osek_values.specs.declared.refusal.CodeRule.TheVariants.{C1}
use Rattle.osek_values.proofs.LeastFaults.{found, clean_all}
use Rattle.block_graph.specs.Faults.{order}
use Rattle.block_graph.proofs.LeastFaults.{rules, lines_in, all}
use Rattle.block_graph.proofs.least_fault.least_fault.Goals as goal

pub loop-rule-preserved : goal.loop-rule-preserved
loop-rule-preserved c = below_more _ _ c.loop-rule.invariant (sym c.least_line.ensures ∙ c.in_default.is)

pub returns-in-Some : goal.returns-in-Some
returns-in-Some c =
    found order (lines_in c.args.system.now c.args.code.now) rules C1 (all c.args.system.now c.args.code.now) c.loop-rule.rule-index c.loop-rule-test.true c.loop-rule.invariant c.in-Some.line (sym c.least_line.ensures ∙ c.in-Some.is)

pub returns : goal.returns
returns c = clean_all order (lines_in c.args.system.now c.args.code.now) rules C1 (all c.args.system.now c.args.code.now) c.loop-rule.rule-index c.loop-rule-test.false c.loop-rule.invariant
