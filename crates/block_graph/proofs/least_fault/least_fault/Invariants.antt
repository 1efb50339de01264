use Rattle.std.proofs.Common.{◌≡◌, ℕ, ◌<◌, get_or}
use Rattle.std.specs.Prelude.{None}
use Rattle.osek_values.specs.{declared.refusal.CodeRule.TheVariants.{C1}, Lines.{least}}
use Rattle.block_graph.specs.Rules.{lines}
use Rattle.block_graph.proofs.least_fault.least_fault.Given as goal

-- no rule so far is violated
abbrev pub invariant-loop-rule : goal.invariant-loop-rule
invariant-loop-rule l = (k : ℕ) → k < l.rule-index → least (lines (get_or l.rule-items k C1) l.system l.code) ≡ None
