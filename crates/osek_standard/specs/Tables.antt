-- The tables of an application, together.
use Rattle.std.specs.Prelude.{ℕ, List}
use Rattle.osek_values.specs.declared.hooks.HookSet.{HookSet}
use Rattle.oil_system.specs.declared.objects.{Alarm.{Alarm}, Resource.{Resource}}
use Rattle.osek_standard.specs.declared.{objects.{Task.{Task}, Isr.{Isr}, Counter.{Counter}}, block.Block.{Block}}

pub record Tables : Type 0 where
  pub hooks : HookSet
  pub tasks : List Task
  pub isrs : List Isr
  pub counters : List Counter
  pub alarms : List Alarm
  pub resources : List Resource
  pub modes : List (List ℕ)
  pub blocks : List Block

abbrev pub tabled : HookSet → List Task → List Isr → List Counter → List Alarm → List Resource → List (List ℕ) → List Block → Tables
tabled hooks tasks isrs counters alarms resources modes blocks =
    record { hooks = hooks; tasks = tasks; isrs = isrs; counters = counters; alarms = alarms; resources = resources; modes = modes; blocks = blocks }
