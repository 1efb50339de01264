-- The system that a tree declares: a clause for each attribute (ISO 17356-6, standard objects).
use Rattle.std.specs.{Prelude.{ℕ, ◌+◌, ◌-◌, ◌*◌, ◌^◌, max, ◌==◌, List, [], ◌∷◌, ◌++◌, map, length, Bool, ◌&&◌, if◌then◌else◌, codes, filter, bit_or, false, Option, Some, None}, List.{list_any, flat_map}}
use Rattle.std.specs.Str.{bytes_eq}
use Rattle.osek_values.specs.{Hooks.{hook_set, when, startup, shutdown, error, pre_task, post_task}, Numbers.{mask, task_no, counter_no, res_no}, declared.numbers.ResNo.{ResNo}}
use Rattle.oil_system.specs.declared.objects.{Schedule.{Schedule, TheVariants.{Non, Full}}, Action.{Action, TheVariants.{ActivateTask, SetEvent}}, Alarm.{Alarm}, Resource.{Resource}}
use Rattle.oil_system.specs.declared.system.{TaskObject.{TaskObject}, IsrObject.{IsrObject}, CounterObject.{CounterObject}, EventObject.{EventObject}, System.{System}}
use Rattle.oil_tree.specs.{declared.tree.{Attr.{Attr}, Object.{Object}, Value.{Value, TheVariants.{Word}}}, AttrLists.{attr_list}}
use Rattle.oil_model.specs.{declared.objects.Category.TheVariants.{One, Two}, LookUp.{is_named, has, number, says, word_of, word, inner}}
use Rattle.oil_model.specs.Objects.{objects_of, name_of, os_attrs, has_scheduler, is_other_mode, is_ordinary, is_isr, priority, activation, is_internal, maximum, minimum, alarm_time, cycle_time}
use Rattle.oil_model.specs.Objects.{is_started, start, explicit_bits, mask_of, used_after}

-- OS: the hooks that are TRUE
abbrev pub hook : List ℕ → ℕ → List Object → ℕ
hook n bit objects = when (says n (codes "TRUE") (os_attrs objects)) bit

abbrev pub hooks : List Object → ℕ
hooks objects =
    bit_or (hook (codes "STARTUPHOOK") startup objects)
    (bit_or (hook (codes "SHUTDOWNHOOK") shutdown objects)
    (bit_or (hook (codes "ERRORHOOK") error objects)
    (bit_or (hook (codes "PRETASKHOOK") pre_task objects)
    (hook (codes "POSTTASKHOOK") post_task objects))))

-- APPMODE: OSDEFAULTAPPMODE is mode 0, the others follow in order of declaration
abbrev pub modes : List Object → List (List ℕ)
modes objects = codes "OSDEFAULTAPPMODE" ∷ map name_of (filter is_other_mode objects)

-- the number of a name in a list that goes on from number k, or 0
abbrev pub number_from : ℕ → List ℕ → List (List ℕ) → ℕ
number_from k n [] = 0
number_from k n (m ∷ names) = if bytes_eq m n then k else number_from (k + 1) n names

abbrev pub number_in : List (List ℕ) → List ℕ → ℕ
number_in names n = number_from 0 n names

-- the bits of the modes that APPMODE names
abbrev pub mode_bits : ℕ → List (List ℕ) → List Attr → ℕ
mode_bits bits modes [] = bits
mode_bits bits modes (a ∷ attrs) =
    mode_bits (if is_named (codes "APPMODE") a then bit_or bits (2 ^ number_in modes (word_of a.value)) else bits) modes attrs

-- AUTOSTART = TRUE: in the modes that it names, or in every mode where it names none
abbrev pub start_bits : List (List ℕ) → List Attr → ℕ
start_bits modes attrs = if has (codes "APPMODE") attrs then mode_bits 0 modes attrs else 2 ^ length modes - 1

abbrev pub autostart : List (List ℕ) → List Attr → ℕ
autostart modes attrs = if is_started attrs then start_bits modes (start attrs) else 0

-- EVENT: each with its mask, behind the bits that are used
abbrev pub event : ℕ → Object → EventObject
event bits e = record { name = e.name; mask = mask bits }

abbrev pub events_from : ℕ → List Object → List EventObject
events_from used [] = []
events_from used (e ∷ events) = event (mask_of used e) e ∷ events_from (used_after used e) events

abbrev pub events : List Object → List EventObject
events objects = events_from (explicit_bits 0 (objects_of (codes "EVENT") objects)) (objects_of (codes "EVENT") objects)

-- the mask of the event of a name
abbrev pub mask_named : List ℕ → List EventObject → ℕ
mask_named n [] = 0
mask_named n (e ∷ events) = if bytes_eq e.name n then e.mask.0 else mask_named n events

-- TASK: a task that names an event is extended, and its own event bits are those of the events that it names
abbrev pub own_bits : ℕ → List EventObject → List Attr → ℕ
own_bits bits events [] = bits
own_bits bits events (a ∷ attrs) = own_bits (if is_named (codes "EVENT") a then bit_or bits (mask_named (word_of a.value) events) else bits) events attrs

-- TASK, RESOURCE: the first INTERNAL resource that it names, if it names one. The number of the INTERNAL resource of a name
-- is sought in a list that goes on from number k.
abbrev pub internal_from : ℕ → List ℕ → List Resource → Option ResNo
internal_from k n [] = None
internal_from k n (r ∷ resources) = if r.internal && bytes_eq r.name n then Some (res_no k) else internal_from (k + 1) n resources

abbrev pub internal_by : List Resource → Attr → Option ResNo
internal_by resources a = if is_named (codes "RESOURCE") a then internal_from 0 (word_of a.value) resources else None

abbrev pub first_of : Option ResNo → Option ResNo → Option ResNo
first_of (Some r) later = Some r
first_of None later = later

abbrev pub internal : List Resource → List Attr → Option ResNo
internal resources [] = None
internal resources (a ∷ attrs) = first_of (internal_by resources a) (internal resources attrs)

abbrev pub schedule : List Attr → Schedule
schedule attrs = if says (codes "SCHEDULE") (codes "NON") attrs then Non else Full

abbrev pub task : List (List ℕ) → List EventObject → List Resource → Object → TaskObject
task modes events resources o = record {
  name = o.name;
  priority = priority o;
  schedule = schedule (attr_list o.attrs);
  own = mask (own_bits 0 events (attr_list o.attrs));
  autostart = autostart modes (attr_list o.attrs);
  activation = activation o;
  internal = internal resources (attr_list o.attrs);
}

-- ISR: its priority, and the names of the resources that it names
abbrev pub names_in : Value → List (List ℕ)
names_in (Word n) = n ∷ []
names_in _ = []

abbrev pub resource_names_in : Attr → List (List ℕ)
resource_names_in a = if is_named (codes "RESOURCE") a then names_in a.value else []

abbrev pub resource_names : List Attr → List (List ℕ)
resource_names attrs = flat_map resource_names_in attrs

abbrev pub isr : Object → IsrObject
isr o = record { name = o.name; priority = priority o; resources = resource_names (attr_list o.attrs) }

-- COUNTER
abbrev pub counter : Object → CounterObject
counter o = record {
  name = o.name;
  max = maximum (attr_list o.attrs);
  ticks_per_base = number (codes "TICKSPERBASE") (attr_list o.attrs) 1;
  min_cycle = minimum (attr_list o.attrs);
}

-- ALARM
abbrev pub the_task : List (List ℕ) → List Attr → ℕ
the_task tasks attrs = number_in tasks (word (codes "TASK") attrs)

abbrev pub action_in : List (List ℕ) → List EventObject → Bool → List Attr → Action
action_in tasks events sets attrs =
    if sets then SetEvent (task_no (the_task tasks attrs)) (mask (mask_named (word (codes "EVENT") attrs) events))
    else ActivateTask (task_no (the_task tasks attrs))

abbrev pub action : List (List ℕ) → List EventObject → List Attr → Action
action tasks events attrs = action_in tasks events (says (codes "ACTION") (codes "SETEVENT") attrs) (inner (codes "ACTION") attrs)

-- its time and cycle are 0 where it isn't autostarted
abbrev pub alarm : List (List ℕ) → List (List ℕ) → List (List ℕ) → List EventObject → Object → Alarm
alarm counters tasks modes events o = record {
  name = o.name;
  counter = counter_no (number_in counters (word (codes "COUNTER") (attr_list o.attrs)));
  action = action tasks events (attr_list o.attrs);
  autostart = autostart modes (attr_list o.attrs);
  time = alarm_time (start (attr_list o.attrs));
  cycle = cycle_time (start (attr_list o.attrs));
}

-- RESOURCE: the ceiling is 2m+1 for the highest priority m of the tasks that name it, or 0 where none does
-- (ISO 17356-3, priority ceiling protocol)
abbrev pub is_naming : List ℕ → Attr → Bool
is_naming n a = is_named (codes "RESOURCE") a && bytes_eq (word_of a.value) n

abbrev pub names_resource : List ℕ → Object → Bool
names_resource n o = list_any (is_naming n) (attr_list o.attrs)

abbrev pub above_all : List Object → ℕ
above_all [] = 0
above_all (o ∷ tasks) = max (2 * priority o + 1) (above_all tasks)

abbrev pub ceiling : List ℕ → List Object → ℕ
ceiling n tasks = above_all (filter (names_resource n) tasks)

-- RES_SCHEDULER, as if every task named it, and never INTERNAL; its ceiling is 1 where there is no task
abbrev pub top_ceiling : List Object → ℕ
top_ceiling tasks = max 1 (above_all tasks)

-- the ceiling for interrupts is 1 more than the highest priority of the category 2 ISRs that name it, or 0 where none does
-- (ISO 17356-3, resource management in interrupt service routines)
abbrev pub above_isrs : List Object → ℕ
above_isrs [] = 0
above_isrs (o ∷ isrs) = max (priority o + 1) (above_isrs isrs)

abbrev pub interrupt_ceiling : List ℕ → List Object → ℕ
interrupt_ceiling n isrs = above_isrs (filter (names_resource n) isrs)

-- no task runs beside one that holds a resource of an ISR, as with RES_SCHEDULER
abbrev pub ceiling_beside : ℕ → List ℕ → List Object → ℕ
ceiling_beside interrupts n tasks = if interrupts == 0 then ceiling n tasks else top_ceiling tasks

abbrev pub resource : List Object → List Object → Object → Resource
resource tasks isrs o = record {
  name = o.name;
  ceiling = ceiling_beside (interrupt_ceiling o.name isrs) o.name tasks;
  internal = is_internal o;
  interrupt_ceiling = interrupt_ceiling o.name isrs;
}

abbrev pub scheduler : List Object → Resource
scheduler tasks = record { name = codes "RES_SCHEDULER"; ceiling = top_ceiling tasks; internal = false; interrupt_ceiling = 0 }

abbrev pub resources_with : Bool → List Object → List Object → List Resource
resources_with exists tasks objects =
    map (resource tasks (filter (is_isr Two) objects)) (filter (is_ordinary exists) objects) ++ (if exists then scheduler tasks ∷ [] else [])

abbrev pub resources : List Object → List Resource
resources objects = resources_with (has_scheduler objects) (objects_of (codes "TASK") objects) objects

abbrev pub names_of : List ℕ → List Object → List (List ℕ)
names_of kind objects = map name_of (objects_of kind objects)

abbrev pub system_of : List Object → System
system_of objects = record {
  hooks = hook_set (hooks objects);
  tasks = map (task (modes objects) (events objects) (resources objects)) (objects_of (codes "TASK") objects);
  isrs = map isr (filter (is_isr Two) objects);
  category_1_isrs = map name_of (filter (is_isr One) objects);
  counters = map counter (objects_of (codes "COUNTER") objects);
  alarms = map (alarm (names_of (codes "COUNTER") objects) (names_of (codes "TASK") objects) (modes objects) (events objects)) (objects_of (codes "ALARM") objects);
  resources = resources objects;
  modes = modes objects;
  events = events objects;
}
