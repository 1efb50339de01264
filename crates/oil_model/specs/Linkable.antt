-- What linking needs of a system, and resolving gives: all that an application keeps, but for what comes with code.
use Rattle.std.specs.Prelude.{◌≡◌, ⊤, ℕ, ◌^◌, ◌<◌, ◌≤◌, Bool, ◌==◌, nat_le, ◌||◌, ◌&&◌, IsTrue, List, length, map, slice_index_or, All, [], false, Option, Some, None}
use Rattle.std.specs.{List.{list_any}, Str.{bytes_eq}}
use Rattle.osek_values.specs.{declared.{limits.TheConstants.{MAX_TASKS, MAX_ACTIVATIONS, MAX_ISRS, MAX_COUNTERS, MAX_ALARMS, MAX_RESOURCES, MAX_MODES}, numbers.ResNo.{ResNo}}, Names.{AreNames}}
use Rattle.oil_system.specs.declared.objects.{Action.{Action, TheVariants.{ActivateTask, SetEvent}}, Alarm.{Alarm}, Resource.{Resource}}
use Rattle.oil_system.specs.declared.system.{TaskObject.{TaskObject}, IsrObject.{IsrObject}, CounterObject.{CounterObject}, EventObject.{EventObject}, System.{System}}
use Rattle.oil_system.specs.Objects.{greatest_ceiling, greatest_interrupt_ceiling}

-- past the end of the table stands a counter that declares nothing
abbrev pub no_counter_object : CounterObject
no_counter_object = record { name = []; max = 1; ticks_per_base = 1; min_cycle = 1 }

-- a cycle is 0, for a single alarm, or from MINCYCLE to MAXALLOWEDVALUE
abbrev pub is_cycle_of_object : CounterObject → ℕ → Bool
is_cycle_of_object c cycle = (cycle == 0) || (nat_le c.min_cycle cycle && nat_le cycle c.max)

-- an action names one of so many tasks, and some event
abbrev pub IsActionAmong : ℕ → Action → Type 0
IsActionAmong tasks (ActivateTask t) = t.0 < tasks
IsActionAmong tasks (SetEvent t m) = (t.0 < tasks) × (0 < m.0)

-- past the end of the table stands a resource that declares nothing
abbrev pub no_resource_object : Resource
no_resource_object = record { name = []; ceiling = 0; internal = false; interrupt_ceiling = 0 }

-- the INTERNAL resource that a task names, if it names one, is one of the resources
abbrev pub IsInternalAmong : List Resource → Option ResNo → Type 0
IsInternalAmong resources None = ⊤
IsInternalAmong resources (Some r) = (r.0 < length resources) × IsTrue (slice_index_or resources r.0 no_resource_object).internal

pub record IsAlarmAmong (tasks : ℕ) (counters : List CounterObject) (x : Alarm) : Type 0 where
  pub counter : x.counter.0 < length counters
  pub action : IsActionAmong tasks x.action
  pub time : x.time ≤ (slice_index_or counters x.counter.0 no_counter_object).max
  pub cycle : IsTrue (is_cycle_of_object (slice_index_or counters x.counter.0 no_counter_object) x.cycle)

pub record IsLinkable (s : System) : Type 0 where
  pub known_hooks : s.hooks.0 < 32
  pub few_tasks : length s.tasks ≤ MAX_TASKS
  pub few_isrs : length s.isrs ≤ MAX_ISRS
  pub few_counters : length s.counters ≤ MAX_COUNTERS
  pub few_alarms : length s.alarms ≤ MAX_ALARMS
  pub few_resources : length s.resources ≤ MAX_RESOURCES
  pub few_modes : length s.modes ≤ MAX_MODES
  pub some_mode : 0 < length s.modes
  -- names
  pub task_names : AreNames (map (λ (x : TaskObject). x.name) s.tasks)
  pub isr_names : AreNames (map (λ (x : IsrObject). x.name) s.isrs)
  pub counter_names : AreNames (map (λ (x : CounterObject). x.name) s.counters)
  pub alarm_names : AreNames (map (λ (x : Alarm). x.name) s.alarms)
  pub resource_names : AreNames (map (λ (x : Resource). x.name) s.resources)
  pub mode_names : AreNames s.modes
  pub event_names : AreNames (map (λ (x : EventObject). x.name) s.events)
  -- a name of a category 1 ISR is no other ISR's
  pub category_1_names : AreNames s.category_1_isrs
  pub isrs_apart : All (λ (x : IsrObject). list_any (bytes_eq x.name) s.category_1_isrs ≡ false) s.isrs
  -- the entries of the tables
  pub activations : All (λ (x : TaskObject). (1 ≤ x.activation) × (x.activation ≤ MAX_ACTIVATIONS)) s.tasks
  pub extended_once : All (λ (x : TaskObject). 0 < x.own.0 → x.activation ≡ 1) s.tasks
  pub internals : All (λ (x : TaskObject). IsInternalAmong s.resources x.internal) s.tasks
  pub isr_priorities : All (λ (x : IsrObject). x.priority < greatest_interrupt_ceiling) s.isrs
  pub task_starts : All (λ (x : TaskObject). x.autostart < 2 ^ length s.modes) s.tasks
  pub each_counter : All (λ (x : CounterObject). (1 ≤ x.max) × (x.min_cycle ≤ x.max)) s.counters
  pub each_alarm : All (IsAlarmAmong (length s.tasks) s.counters) s.alarms
  pub alarm_starts : All (λ (x : Alarm). x.autostart < 2 ^ length s.modes) s.alarms
  pub no_starts : All (λ (x : Alarm). x.autostart ≡ 0 → (x.time ≡ 0) × (x.cycle ≡ 0)) s.alarms
  pub ceilings : All (λ (x : Resource). x.ceiling ≤ greatest_ceiling) s.resources
  pub interrupt_ceilings : All (λ (x : Resource). x.interrupt_ceiling ≤ greatest_interrupt_ceiling) s.resources
  pub each_event : All (λ (x : EventObject). 0 < x.mask.0) s.events
