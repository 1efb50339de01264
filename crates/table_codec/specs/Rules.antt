-- The names of the rules on tables, as they are printed (this project's profile).
use Rattle.std.specs.Prelude.{ℕ, List, codes}
use Rattle.table_codec.specs.declared.fault.TableRule.{TableRule}
use Rattle.table_codec.specs.declared.fault.TableRule.TheVariants as rule

abbrev pub table_rule_name : TableRule → List ℕ
table_rule_name rule.K1 = codes "K1"
table_rule_name rule.K2 = codes "K2"
table_rule_name rule.K3 = codes "K3"
table_rule_name rule.K4 = codes "K4"
table_rule_name rule.K5 = codes "K5"
table_rule_name rule.K6 = codes "K6"
