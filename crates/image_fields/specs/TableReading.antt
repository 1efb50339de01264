-- Reading the header and the tables of an image.
use Rattle.std.specs.Prelude.{ℕ, ◌+◌, ◌≤◌, Bool, true, false, not, ◌||◌, ◌&&◌, nat_lt, nat_le, nat_eq, ◌==◌, List, [], length, map, Option, Some, None, Ok, slice_index_or, if◌then◌else◌}
use Rattle.std.specs.{Int.{w16, w32, w64}, List.{list_any, list_all}, Str.{bytes_eq}}
use Rattle.osek_values.specs.{declared.limits.TheConstants.{MAX_TASKS, MAX_ISRS, MAX_COUNTERS, MAX_ALARMS, MAX_RESOURCES, MAX_MODES, MAX_BLOCKS}, Hooks.{hook_set}}
use Rattle.osek_values.specs.{Numbers.{task_no, counter_no, res_no, mask}, declared.numbers.ResNo.{ResNo}}
use Rattle.oil_system.specs.declared.objects.{Alarm.{Alarm}, Resource.{Resource}, Schedule.{Schedule, TheVariants.{Non, Full}}, Action.{Action}}
use Rattle.oil_system.specs.declared.objects.Action.TheVariants as action
use Rattle.oil_system.specs.Objects.{greatest_ceiling, greatest_interrupt_ceiling}
use Rattle.osek_standard.specs.{declared.objects.{Task.{Task}, Isr.{Isr}, Counter.{Counter}}, Validity.{no_counter, is_cycle_of, owners}}
use Rattle.image_fields.specs.declared.{fault.ImageRule.TheVariants.{I2, I3, I5}, parts.{Header.{Header}, Range.{Range}, Tables.{Tables}}}
use Rattle.image_fields.specs.Magic.{magic}
use Rattle.image_fields.specs.Reading.{Read, ◌>>=◌, kept, number_at, tested_byte_at, tested_at, byte_below_at, flag_at, text_at, found_at, further_byte_at, further_16_at, name_at, modes_at, range_at, entries_at}
use Rattle.image_model.specs.declared.image.Version.{Version}
use Rattle.image_model.specs.declared.image.Version.TheVariants as version

-- the numbers of entries are within their limits
pub record HasFew (n : Header) : Type 0 where
  pub tasks : n.tasks ≤ MAX_TASKS
  pub alarms : n.alarms ≤ MAX_ALARMS
  pub resources : n.resources ≤ MAX_RESOURCES
  pub modes : n.modes ≤ MAX_MODES

-- the version that the first eight bytes name
abbrev pub version_of : List ℕ → Option Version
version_of front =
    if bytes_eq front (magic version.One) then Some version.One
    else if bytes_eq front (magic version.Two) then Some version.Two
    else None

-- the magic and the version, which are one field
unfoldable pub version_at : List ℕ → Read Version
version_at bytes = do
  front ← text_at 8 (length bytes) bytes
  found_at I2 bytes front.1 (version_of front.0)

unfoldable pub header_at : List ℕ → Read Header
header_at bytes = do
  start ← version_at bytes
  hooks ← byte_below_at 32 start.1
  tasks ← byte_below_at (MAX_TASKS + 1) hooks.1
  isrs ← byte_below_at (MAX_ISRS + 1) tasks.1
  counters ← byte_below_at (MAX_COUNTERS + 1) isrs.1
  alarms ← byte_below_at (MAX_ALARMS + 1) counters.1
  resources ← byte_below_at (MAX_RESOURCES + 1) alarms.1
  modes ← tested_byte_at (λ n. nat_lt 0 n && nat_le n MAX_MODES) I3 resources.1
  blocks ← tested_at w16 (λ n. nat_le n MAX_BLOCKS) I3 modes.1
  Ok (record { version = start.0; hooks = hook_set hooks.0; tasks = tasks.0; isrs = isrs.0; counters = counters.0; alarms = alarms.0; resources = resources.0; modes = modes.0; blocks = blocks.0 }, blocks.1)

abbrev pub schedule_of : ℕ → Schedule
schedule_of n = if n == 0 then Non else Full

unfoldable pub schedule_at : List ℕ → Read Schedule
schedule_at bytes = do
  n ← byte_below_at 2 bytes
  Ok (schedule_of n.0, n.1)

-- in version 1 no earlier task has the priority
abbrev pub is_priority : Version → List Task → ℕ → Bool
is_priority version.One earlier p = not (list_any (λ (x : Task). nat_eq x.priority p) earlier)
is_priority version.Two earlier p = true

-- a task takes some activations at a time, and one that has events takes one
abbrev pub is_activation : ℕ → ℕ → Bool
is_activation own n = if own == 0 then nat_lt 0 n else n == 1

-- the number of one of so many resources, or ff
abbrev pub is_internal_number : ℕ → ℕ → Bool
is_internal_number resources n = (n == 0xff) || nat_lt n resources

abbrev pub internal_of : ℕ → Option ResNo
internal_of n = if n == 0xff then None else Some (res_no n)

abbrev pub task_with : List ℕ → ℕ → Schedule → ℕ → ℕ → Range → ℕ → ℕ → Task
task_with name priority schedule own autostart code activation internal = record {
  name = name;
  priority = priority;
  schedule = schedule;
  own = mask own;
  autostart = autostart;
  first = code.first;
  count = code.count;
  activation = activation;
  internal = internal_of internal;
}

-- a task
unfoldable pub task_at : Header → List Task → List ℕ → Read Task
task_at n earlier bytes = do
  name ← name_at (map (λ (x : Task). x.name) earlier) bytes
  priority ← tested_at w16 (is_priority n.version earlier) I5 name.1
  schedule ← schedule_at priority.1
  own ← number_at w64 schedule.1
  autostart ← modes_at n.modes own.1
  code ← range_at n.blocks (owners earlier [] []) autostart.1
  activation ← further_byte_at n.version 1 (is_activation own.0) code.1
  internal ← further_byte_at n.version 0xff (is_internal_number n.resources) activation.1
  Ok (task_with name.0 priority.0 schedule.0 own.0 autostart.0 code.0 activation.0 internal.0, internal.1)

-- each byte is the priority of an ISR
abbrev pub is_isr_priority : ℕ → Bool
is_isr_priority n = true

abbrev pub isr_with : List ℕ → Range → ℕ → Isr
isr_with name code priority = record { name = name; first = code.first; count = code.count; priority = priority }

unfoldable pub isr_at : Header → List Task → List Isr → List ℕ → Read Isr
isr_at n tasks earlier bytes = do
  name ← name_at (map (λ (x : Isr). x.name) earlier) bytes
  code ← range_at n.blocks (owners tasks earlier []) name.1
  priority ← further_byte_at n.version 0 is_isr_priority code.1
  Ok (isr_with name.0 code.0 priority.0, priority.1)

unfoldable pub counter_at : Header → List Task → List Isr → List Counter → List ℕ → Read Counter
counter_at n tasks isrs earlier bytes = do
  name ← name_at (map (λ (x : Counter). x.name) earlier) bytes
  max ← tested_at w32 (λ m. nat_lt 0 m) I3 name.1
  min_cycle ← tested_at w32 (λ m. nat_le m max.0) I3 max.1
  code ← range_at n.blocks (owners tasks isrs earlier) min_cycle.1
  Ok (record { name = name.0; max = max.0; min_cycle = min_cycle.0; first = code.0.first; count = code.0.count }, code.1)

-- an alarm that activates has no events, and one that sets events has some
abbrev pub is_action_mask : ℕ → ℕ → Bool
is_action_mask act m = if act == 0 then m == 0 else nat_lt 0 m

abbrev pub action_of : ℕ → ℕ → ℕ → Action
action_of act t m = if act == 0 then action.ActivateTask (task_no t) else action.SetEvent (task_no t) (mask m)

unfoldable pub action_at : Header → List ℕ → Read Action
action_at n bytes = do
  act ← byte_below_at 2 bytes
  task ← byte_below_at n.tasks act.1
  events ← tested_at w64 (λ m. is_action_mask act.0 m) I3 task.1
  Ok (action_of act.0 task.0 events.0, events.1)

-- the time of an alarm that is autostarted in these modes, and its cycle; both are 0 where there are no modes
abbrev pub is_start_time : Counter → ℕ → ℕ → Bool
is_start_time c autostart time = if autostart == 0 then time == 0 else nat_le time c.max

abbrev pub is_start_cycle : Counter → ℕ → ℕ → Bool
is_start_cycle c autostart cycle = if autostart == 0 then cycle == 0 else is_cycle_of c cycle

unfoldable pub alarm_at : Header → List Counter → List Alarm → List ℕ → Read Alarm
alarm_at n counters earlier bytes = do
  name ← name_at (map (λ (x : Alarm). x.name) earlier) bytes
  counter ← byte_below_at n.counters name.1
  act ← action_at n counter.1
  autostart ← modes_at n.modes act.1
  time ← tested_at w32 (λ t. is_start_time (slice_index_or counters counter.0 no_counter) autostart.0 t) I3 autostart.1
  cycle ← tested_at w32 (λ c. is_start_cycle (slice_index_or counters counter.0 no_counter) autostart.0 c) I3 time.1
  Ok (record { name = name.0; counter = counter_no counter.0; action = act.0; autostart = autostart.0; time = time.0; cycle = cycle.0 }, cycle.1)

-- an INTERNAL resource that a task names isn't the one of this number
abbrev pub is_other : ℕ → Option ResNo → Bool
is_other r None = true
is_other r (Some m) = not (m.0 == r)

-- a resource that a task names as its INTERNAL one is INTERNAL
abbrev pub is_property : List Task → ℕ → Bool → Bool
is_property tasks r internal = internal || list_all (λ (x : Task). is_other r x.internal) tasks

-- version 1 has no INTERNAL resource
unfoldable pub property_at : Version → List Task → ℕ → List ℕ → Read Bool
property_at version.One tasks r bytes = Ok (false, bytes)
property_at version.Two tasks r bytes = do
  internal ← flag_at bytes
  kept (is_property tasks r internal.0) I5 bytes internal

abbrev pub is_interrupt_ceiling : ℕ → Bool
is_interrupt_ceiling n = nat_le n greatest_interrupt_ceiling

abbrev pub resource_with : List ℕ → ℕ → Bool → ℕ → Resource
resource_with name ceiling internal interrupts = record { name = name; ceiling = ceiling; internal = internal; interrupt_ceiling = interrupts }

unfoldable pub resource_at : Version → List Task → List Resource → List ℕ → Read Resource
resource_at v tasks earlier bytes = do
  name ← name_at (map (λ (x : Resource). x.name) earlier) bytes
  ceiling ← tested_at w32 (λ c. nat_le c greatest_ceiling) I3 name.1
  property ← property_at v tasks (length earlier) ceiling.1
  interrupts ← further_16_at v 0 is_interrupt_ceiling property.1
  Ok (resource_with name.0 ceiling.0 property.0 interrupts.0, interrupts.1)

-- the tables in order
unfoldable pub tables_at : Header → List ℕ → Read Tables
tables_at n bytes = do
  tasks ← entries_at (task_at n) [] n.tasks bytes
  isrs ← entries_at (isr_at n tasks.0) [] n.isrs tasks.1
  counters ← entries_at (counter_at n tasks.0 isrs.0) [] n.counters isrs.1
  alarms ← entries_at (alarm_at n counters.0) [] n.alarms counters.1
  resources ← entries_at (resource_at n.version tasks.0) [] n.resources alarms.1
  modes ← entries_at name_at [] n.modes resources.1
  Ok (record { tasks = tasks.0; isrs = isrs.0; counters = counters.0; alarms = alarms.0; resources = resources.0; modes = modes.0 }, modes.1)
