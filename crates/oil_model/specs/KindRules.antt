-- The rules on each object of a kind by itself: of which kind, on the line of which attribute, and when it is violated.
use Rattle.std.specs.Prelude.{ℕ, List, Bool, codes, filter, map}
use Rattle.oil_tree.specs.declared.tree.Object.{Object}
use Rattle.oil_model.specs.declared.kind_rules.KindRule.{KindRule, TheVariants.{WrongActivation, LinkedResource, Callback, ReversedCounter, OtherCategory, InternalScheduler}}
use Rattle.oil_model.specs.{Objects.{objects_of, line_at}, Rules.{is_wrongly_activated, is_linked, is_callback, is_reversed, is_other_category, is_internal_scheduler}}

abbrev pub kind_of : KindRule → List ℕ
kind_of WrongActivation = codes "TASK"
kind_of LinkedResource = codes "RESOURCE"
kind_of Callback = codes "ALARM"
kind_of ReversedCounter = codes "COUNTER"
kind_of OtherCategory = codes "ISR"
kind_of InternalScheduler = codes "RESOURCE"

abbrev pub attribute_of : KindRule → List ℕ
attribute_of WrongActivation = codes "ACTIVATION"
attribute_of LinkedResource = codes "RESOURCEPROPERTY"
attribute_of Callback = codes "ACTION"
attribute_of ReversedCounter = codes "MINCYCLE"
attribute_of OtherCategory = codes "CATEGORY"
attribute_of InternalScheduler = codes "RESOURCEPROPERTY"

abbrev pub is_violated : KindRule → Object → Bool
is_violated WrongActivation = is_wrongly_activated
is_violated LinkedResource = is_linked
is_violated Callback = is_callback
is_violated ReversedCounter = is_reversed
is_violated OtherCategory = is_other_category
is_violated InternalScheduler = is_internal_scheduler

abbrev pub violations : KindRule → List Object → List ℕ
violations rule objects = map (line_at (attribute_of rule)) (filter (is_violated rule) (objects_of (kind_of rule) objects))
