-- Which objects are counted against a limit. RES_SCHEDULER, where it exists, and OSDEFAULTAPPMODE have places of their own.
use Rattle.std.specs.Prelude.{Bool, codes}
use Rattle.oil_tree.specs.declared.tree.Object.{Object}
use Rattle.oil_model.specs.declared.{limits.Counted.{Counted, TheVariants.{Tasks, Isrs, Counters, Alarms, Events, Resources, Modes}}, objects.Category.TheVariants.{Two}}
use Rattle.oil_model.specs.Objects.{is_kind, is_isr, is_ordinary, is_other_mode}

abbrev pub is_counted : Counted → Object → Bool
is_counted Tasks = is_kind (codes "TASK")
is_counted Isrs = is_isr Two
is_counted Counters = is_kind (codes "COUNTER")
is_counted Alarms = is_kind (codes "ALARM")
is_counted Events = is_kind (codes "EVENT")
is_counted (Resources scheduler) = is_ordinary scheduler
is_counted Modes = is_other_mode
