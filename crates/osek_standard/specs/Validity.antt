-- What each application keeps: the conditions on its tables.
use Rattle.std.proofs.Props.{props}
use Rattle.std.specs.Prelude.{◌≡◌, ⊤, ℕ, ◌+◌, ◌-◌, ◌^◌, ◌<◌, ◌≤◌, Bool, true, false, not, ◌==◌, nat_lt, nat_le, ◌||◌, ◌&&◌, IsTrue, [], ◌++◌, List, length, map, slice_index_or}
use Rattle.std.specs.Prelude.{All, Some, None}
use Rattle.std.specs.{List.{IsDistinct, IsDistinct-prop, list_any, filter, enumerate_from}, Coded.{×_prop, Unit-prop, le_prop}, declared.option.Option.{Option}}
use Rattle.osek_values.specs.declared.limits.TheConstants.{MAX_TASKS, MAX_ISRS, MAX_COUNTERS, MAX_ALARMS, MAX_RESOURCES, MAX_MODES, MAX_BLOCKS, MAX_ACTIVATIONS}
use Rattle.osek_values.specs.declared.numbers.ResNo.{ResNo}
use Rattle.osek_values.specs.{Names.{AreNames}, Numbers.{task_no, counter_no, block_no, mask}}
use Rattle.oil_system.specs.{Objects.{greatest_ceiling, greatest_interrupt_ceiling}, declared.objects.{Alarm.{Alarm}, Resource.{Resource}, Action.{Action}}}
use Rattle.oil_system.specs.declared.objects.Action.TheVariants as action
use Rattle.oil_system.specs.declared.objects.Schedule.TheVariants as schedule
use Rattle.osek_standard.specs.{declared.{objects.{Task.{Task}, Isr.{Isr}, Counter.{Counter}}, block.{Block.{Block}, Kind.{Kind}}, call.Call.{Call}}, Tables.{Tables}}
use Rattle.osek_standard.specs.CallNames as call
use Rattle.osek_standard.specs.declared.block.Kind.TheVariants as kind

-- Past the end of a table stands an entry that declares nothing.
abbrev pub no_task : Task
no_task = record { name = []; priority = 0; schedule = schedule.Full; own = mask 0; autostart = 0; first = block_no 0; count = 0; activation = 1; internal = None }

abbrev pub no_isr : Isr
no_isr = record { name = []; first = block_no 0; count = 0; priority = 0 }

abbrev pub no_counter : Counter
no_counter = record { name = []; max = 1; min_cycle = 1; first = block_no 0; count = 0 }

abbrev pub no_alarm : Alarm
no_alarm = record { name = []; counter = counter_no 0; action = action.ActivateTask (task_no 0); autostart = 0; time = 0; cycle = 0 }

abbrev pub no_resource : Resource
no_resource = record { name = []; ceiling = 0; internal = false; interrupt_ceiling = 0 }

abbrev pub no_block : Block
no_block = record { kind = kind.Loop; locked = false; line = 0; next = block_no 0 }

-- block b is among count blocks from first on
abbrev pub IsAmong : ℕ → ℕ → ℕ → Type 0
IsAmong b first count = (first ≤ b) × (b < first + count)

-- whether a resource of this number is INTERNAL
abbrev pub is_internal : List Resource → ℕ → Bool
is_internal resources r = (slice_index_or resources r no_resource).internal

-- a cycle is 0, for a single alarm, or from MINCYCLE to MAXALLOWEDVALUE
abbrev pub is_cycle_of : Counter → ℕ → Bool
is_cycle_of c cycle = (cycle == 0) || (nat_le c.min_cycle cycle && nat_le cycle c.max)

-- the blocks of the owners, each as its first and how many
abbrev pub owners : List Task → List Isr → List Counter → List (ℕ × ℕ)
owners tasks isrs counters =
    map (λ (x : Task). (x.first.0, x.count)) tasks ++ map (λ (x : Isr). (x.first.0, x.count)) isrs
    ++ map (λ (x : Counter). (x.first.0, x.count)) counters

abbrev pub is_within : ℕ → ℕ × ℕ → Bool
is_within b o = nat_le o.0 b && nat_lt b (o.0 + o.1)

-- both have a block
abbrev pub meet : ℕ × ℕ → ℕ × ℕ → Bool
meet o p = nat_lt o.0 (p.0 + p.1) && nat_lt p.0 (o.0 + o.1)

-- an end goes nowhere, which stands as its own number
abbrev pub is_own_next : ℕ → Kind → ℕ → Bool
is_own_next b kind.TaskEnd next = next == b
is_own_next b kind.IsrEnd next = next == b
is_own_next b _ next = true

-- TaskEnd stands last in a task, and nowhere else
abbrev pub task_may : Bool → Kind → Bool
task_may last (kind.Work n) = not last
task_may last (kind.Choice o) = not last
task_may last kind.Loop = not last
task_may last (kind.Call c) = not last
task_may last kind.TaskEnd = last
task_may last kind.IsrEnd = false
task_may last kind.CountUp = false
task_may last (kind.Expire a) = false

-- IsrEnd stands last in an ISR, and nowhere else
abbrev pub isr_may : Bool → Kind → Bool
isr_may last (kind.Work n) = not last
isr_may last (kind.Choice o) = not last
isr_may last kind.Loop = not last
isr_may last (kind.Call c) = not last
isr_may last kind.TaskEnd = false
isr_may last kind.IsrEnd = last
isr_may last kind.CountUp = false
isr_may last (kind.Expire a) = false

-- the alarms of a counter, in order
abbrev pub due_of : List Alarm → ℕ → List ℕ
due_of alarms c = map (λ (p : ℕ × Alarm). p.0) (filter (λ (p : ℕ × Alarm). p.1.counter.0 == c) (enumerate_from 0 alarms))

-- what stands at a place of a tick routine: CountUp, an Expire for each alarm of the counter in order, and IsrEnd;
-- past the end of the list stands a number that no alarm has, since an alarm's is a byte
abbrev pub tick_may : List ℕ → ℕ → Kind → Bool
tick_may due place kind.CountUp = place == 0
tick_may due place (kind.Expire a) = nat_lt 0 place && (slice_index_or due (place - 1) 256 == a.0)
tick_may due place kind.IsrEnd = place == length due + 1
tick_may due place _ = false

module _ (t : Tables) where
  -- the numbers in a block name entries of their tables
  abbrev pub HasOperands : Call → Type 0
  HasOperands (call.Plain k) = ⊤
  HasOperands (call.Task k x) = x.0 < length t.tasks
  HasOperands (call.Resource k r) = (r.0 < length t.resources) × IsTrue (not (is_internal t.resources r.0))
  HasOperands (call.SetEvent x m) = (x.0 < length t.tasks) × (0 < m.0)
  HasOperands (call.Mask k m) = 0 < m.0
  HasOperands (call.Alarm k a) = a.0 < length t.alarms
  HasOperands (call.Arm k a x cycle) = a.0 < length t.alarms
  HasOperands (call.Lock l) = ⊤
  HasOperands call.ShutdownOs = ⊤

  abbrev pub NamesEntries : Kind → Type 0
  NamesEntries (kind.Work n) = 0 < n
  NamesEntries (kind.Choice o) = ⊤
  NamesEntries kind.Loop = ⊤
  NamesEntries (kind.Call c) = HasOperands c
  NamesEntries kind.TaskEnd = ⊤
  NamesEntries kind.IsrEnd = ⊤
  NamesEntries kind.CountUp = ⊤
  NamesEntries (kind.Expire a) = a.0 < length t.alarms

  -- the INTERNAL resource that a task names, if it names one
  abbrev pub IsInternal : Option ResNo → Type 0
  IsInternal None = ⊤
  IsInternal (Some r) = (r.0 < length t.resources) × IsTrue (is_internal t.resources r.0)

  abbrev pub IsAction : Action → Type 0
  IsAction (action.ActivateTask x) = x.0 < length t.tasks
  IsAction (action.SetEvent x m) = (x.0 < length t.tasks) × (0 < m.0)

  -- the block where choice 0 leads lies in the same owner
  abbrev pub IsOtherWay : ℕ → ℕ → Kind → Type 0
  IsOtherWay first count (kind.Choice other) = IsAmong other.0 first count
  IsOtherWay first count _ = ⊤

  pub record IsBlock (first count : ℕ) (b : Block) : Type 0 where
    pub operands : NamesEntries b.kind
    pub next : IsAmong b.next.0 first count
    pub other : IsOtherWay first count b.kind

  abbrev pub block_at : ℕ → Block
  block_at b = slice_index_or t.blocks b no_block

  pub record IsOwner (first count : ℕ) : Type 0 where
    pub some : 0 < count
    pub inside : first + count ≤ length t.blocks
    pub ends : (b : ℕ) → IsAmong b first count → IsTrue (is_own_next b (block_at b).kind (block_at b).next.0)
    pub each : (b : ℕ) (none : Block) → IsAmong b first count → IsBlock first count (slice_index_or t.blocks b none)

  pub record IsAlarm (x : Alarm) : Type 0 where
    pub counter : x.counter.0 < length t.counters
    pub action : IsAction x.action
    pub time : x.time ≤ (slice_index_or t.counters x.counter.0 no_counter).max
    pub cycle : IsTrue (is_cycle_of (slice_index_or t.counters x.counter.0 no_counter) x.cycle)

  -- which kinds stand in a task's code, an ISR's, and a counter's tick routine
  pub record IsTaskCode (first count : ℕ) : Type 0 where
    pub each : (b : ℕ) → IsAmong b first count → IsTrue (task_may (b + 1 == first + count) (block_at b).kind)

  pub record IsIsrCode (first count : ℕ) : Type 0 where
    pub each : (b : ℕ) → IsAmong b first count → IsTrue (isr_may (b + 1 == first + count) (block_at b).kind)

  -- CountUp, then an Expire for each alarm of the counter in order, then IsrEnd, each before the next
  pub record IsTickCode (due : List ℕ) (first count : ℕ) : Type 0 where
    pub size : count ≡ length due + 2
    pub each : (b : ℕ) → IsAmong b first count → IsTrue (tick_may due (b - first) (block_at b).kind)
    pub next : (b : ℕ) → IsAmong b first count → b + 1 < first + count → (block_at b).next.0 ≡ b + 1

  pub record IsValid : Type 0 where
    -- five hooks, a bit each
    pub known_hooks : t.hooks.0 < 32
    pub few_tasks : length t.tasks ≤ MAX_TASKS
    pub few_isrs : length t.isrs ≤ MAX_ISRS
    pub few_counters : length t.counters ≤ MAX_COUNTERS
    pub few_alarms : length t.alarms ≤ MAX_ALARMS
    pub few_resources : length t.resources ≤ MAX_RESOURCES
    pub few_modes : length t.modes ≤ MAX_MODES
    pub some_mode : 0 < length t.modes
    pub few_blocks : length t.blocks ≤ MAX_BLOCKS
    -- names
    pub task_names : AreNames (map (λ (x : Task). x.name) t.tasks)
    pub isr_names : AreNames (map (λ (x : Isr). x.name) t.isrs)
    pub counter_names : AreNames (map (λ (x : Counter). x.name) t.counters)
    pub alarm_names : AreNames (map (λ (x : Alarm). x.name) t.alarms)
    pub resource_names : AreNames (map (λ (x : Resource). x.name) t.resources)
    pub mode_names : AreNames t.modes
    -- the entries of the tables
    pub each_task : All (λ (x : Task). IsOwner x.first.0 x.count) t.tasks
    pub task_code : All (λ (x : Task). IsTaskCode x.first.0 x.count) t.tasks
    pub task_starts : All (λ (x : Task). x.autostart < 2 ^ length t.modes) t.tasks
    pub activations : All (λ (x : Task). (1 ≤ x.activation) × (x.activation ≤ MAX_ACTIVATIONS)) t.tasks
    pub extended_once : All (λ (x : Task). 0 < x.own.0 → x.activation ≡ 1) t.tasks
    pub internals : All (λ (x : Task). IsInternal x.internal) t.tasks
    pub each_isr : All (λ (x : Isr). IsOwner x.first.0 x.count) t.isrs
    pub isr_code : All (λ (x : Isr). IsIsrCode x.first.0 x.count) t.isrs
    pub isr_priorities : All (λ (x : Isr). x.priority < greatest_interrupt_ceiling) t.isrs
    pub each_counter : All (λ (x : Counter). (1 ≤ x.max) × IsOwner x.first.0 x.count) t.counters
    pub min_cycles : All (λ (x : Counter). x.min_cycle ≤ x.max) t.counters
    pub tick_code : (c : ℕ) → c < length t.counters → IsTickCode (due_of t.alarms c) (slice_index_or t.counters c no_counter).first.0 (slice_index_or t.counters c no_counter).count
    pub each_alarm : All IsAlarm t.alarms
    pub alarm_starts : All (λ (x : Alarm). x.autostart < 2 ^ length t.modes) t.alarms
    pub no_starts : All (λ (x : Alarm). x.autostart ≡ 0 → (x.time ≡ 0) × (x.cycle ≡ 0)) t.alarms
    pub ceilings : All (λ (x : Resource). x.ceiling ≤ greatest_ceiling) t.resources
    pub interrupt_ceilings : All (λ (x : Resource). x.interrupt_ceiling ≤ greatest_interrupt_ceiling) t.resources
    -- each block has one owner
    pub apart : IsDistinct meet (owners t.tasks t.isrs t.counters)
    pub owned : (b : ℕ) → b < length t.blocks → IsTrue (list_any (is_within b) (owners t.tasks t.isrs t.counters))

module _ (t : Tables) where
  -- Each of these facts has one proof at most, so that an application may keep it.
  pub HasOperands-prop : (c : Call) → IsProp (HasOperands t c)
  HasOperands-prop (call.Plain k) = Unit-prop
  HasOperands-prop (call.Task k x) = le_prop
  HasOperands-prop (call.Resource k r) = ×_prop le_prop (hlevel (props))
  HasOperands-prop (call.SetEvent x m) = ×_prop le_prop le_prop
  HasOperands-prop (call.Mask k m) = le_prop
  HasOperands-prop (call.Alarm k a) = le_prop
  HasOperands-prop (call.Arm k a x cycle) = le_prop
  HasOperands-prop (call.Lock l) = Unit-prop
  HasOperands-prop call.ShutdownOs = Unit-prop

  pub NamesEntries-prop : (k : Kind) → IsProp (NamesEntries t k)
  NamesEntries-prop (kind.Work n) = le_prop
  NamesEntries-prop (kind.Choice o) = Unit-prop
  NamesEntries-prop kind.Loop = Unit-prop
  NamesEntries-prop (kind.Call c) = HasOperands-prop c
  NamesEntries-prop kind.TaskEnd = Unit-prop
  NamesEntries-prop kind.IsrEnd = Unit-prop
  NamesEntries-prop kind.CountUp = Unit-prop
  NamesEntries-prop (kind.Expire a) = le_prop

  pub IsInternal-prop : (r : Option ResNo) → IsProp (IsInternal t r)
  IsInternal-prop None = Unit-prop
  IsInternal-prop (Some r) = ×_prop le_prop (hlevel (props))

  pub IsAction-prop : (x : Action) → IsProp (IsAction t x)
  IsAction-prop (action.ActivateTask x) = le_prop
  IsAction-prop (action.SetEvent x m) = ×_prop le_prop le_prop

  pub IsOtherWay-prop : (first count : ℕ) (k : Kind) → IsProp (IsOtherWay t first count k)
  IsOtherWay-prop first count (kind.Choice other) = ×_prop le_prop le_prop
  IsOtherWay-prop first count _ = Unit-prop

  pub IsValid-prop : IsProp (IsValid t)
  IsValid-prop = hlevel (props, NamesEntries-prop, IsAction-prop, IsOtherWay-prop, IsInternal-prop, IsDistinct-prop)
