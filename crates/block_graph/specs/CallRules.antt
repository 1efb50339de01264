-- What is asked of each call, by rule.
use Rattle.std.specs.Prelude.{ℕ, List}
use Rattle.oil_system.specs.declared.system.System.{System}
use Rattle.task_code.specs.declared.call.Call.{Call}
use Rattle.block_graph.specs.{declared.calls.CallRule.{CallRule, TheVariants.{Declared, NamedBy, Takable}}, Rules.{undeclared_in, resources_of_isr, unnamed_in, internal_in}}

-- the lines on which a call violates the rule
abbrev pub lines_of : CallRule → System → ℕ → Call → List ℕ
lines_of Declared s line call = undeclared_in s line call
lines_of (NamedBy isr) s line call = unnamed_in (resources_of_isr s isr) line call
lines_of Takable s line call = internal_in s line call
