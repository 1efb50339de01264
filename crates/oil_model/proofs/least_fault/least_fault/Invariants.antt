use Rattle.std.proofs.Common.{◌≡◌, ℕ, ◌<◌, get_or}
use Rattle.std.specs.Prelude.{None}
use Rattle.osek_values.specs.{declared.refusal.OilRule.TheVariants.{O1}, Lines.{least}}
use Rattle.oil_model.specs.Rules.{lines}
use Rattle.oil_model.proofs.least_fault.least_fault.Given as goal

-- no rule so far is violated
abbrev pub invariant-loop-rule : goal.invariant-loop-rule
invariant-loop-rule l = (k : ℕ) → k < l.rule-index → least (lines (get_or l.rule-items k O1) l.tree) ≡ None
