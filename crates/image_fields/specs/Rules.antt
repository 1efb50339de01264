-- The names of the rules on images, as they are printed (this project's profile).
use Rattle.std.specs.Prelude.{ℕ, List, codes}
use Rattle.image_fields.specs.declared.fault.ImageRule.{ImageRule}
use Rattle.image_fields.specs.declared.fault.ImageRule.TheVariants as rule

abbrev pub image_rule_name : ImageRule → List ℕ
image_rule_name rule.I1 = codes "I1"
image_rule_name rule.I2 = codes "I2"
image_rule_name rule.I3 = codes "I3"
image_rule_name rule.I4 = codes "I4"
image_rule_name rule.I5 = codes "I5"
image_rule_name rule.I6 = codes "I6"
image_rule_name rule.I7 = codes "I7"
