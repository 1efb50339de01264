-- The rules of a check as they are printed (this project's profile).
use Rattle.std.specs.Prelude.{ℕ, List, codes}
use Rattle.command_runs.specs.declared.stop.CheckRule.{CheckRule}
use Rattle.command_runs.specs.declared.stop.CheckRule.TheVariants as rule

abbrev pub check_rule_name : CheckRule → List ℕ
check_rule_name rule.N1 = codes "N1"
check_rule_name rule.N2 = codes "N2"
check_rule_name rule.N3 = codes "N3"
check_rule_name rule.N4 = codes "N4"
