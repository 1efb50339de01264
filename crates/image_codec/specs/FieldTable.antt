-- What the format asks of each field, as a table and without a reader. Of the fields in their order the first that breaks
-- a rule is at fault, and of the rules that it breaks that of the lowest number.
use Rattle.std.specs.Prelude.{ℕ, zero, suc, ◌+◌, ◌^◌, Bool, true, ◌||◌, ◌&&◌, not, nat_lt, nat_le, ◌==◌, List, [], ◌∷◌, ◌++◌, length, map, take, drop, slice_index, slice_index_or, Option, Some, None, Ok, Err, if◌then◌else◌}
use Rattle.std.specs.{Int.{Width, w8, w16, w32, w64, byte_len, from_be_bytes}, List.{list_any, list_all}, Str.{bytes_eq}}
use Rattle.osek_values.specs.{declared.limits.TheConstants.{MAX_TASKS, MAX_ISRS, MAX_COUNTERS, MAX_ALARMS, MAX_RESOURCES, MAX_MODES, MAX_BLOCKS, MAX_NAME}, Names.{is_name}}
use Rattle.oil_system.specs.{declared.objects.{Alarm.{Alarm}, Resource.{Resource}}, Objects.{greatest_ceiling, greatest_interrupt_ceiling}}
use Rattle.osek_standard.specs.declared.{objects.{Task.{Task}, Isr.{Isr}, Counter.{Counter}}, block.Kind.{Kind}}
use Rattle.osek_standard.specs.declared.block.Kind.TheVariants as kind
use Rattle.image_model.specs.CallNames as call
use Rattle.osek_standard.specs.{Apps.{is_site_in}, Validity.{no_counter, meet, owners}}
use Rattle.image_fields.specs.declared.{fault.{ImageRule.{ImageRule, TheVariants.{I1, I2, I3, I4, I5}}, Fault.{Fault}}, parts.Header.{Header}}
use Rattle.image_fields.specs.{declared.parts.Tables.{Tables}, Magic.{magic}}
use Rattle.image_model.specs.declared.image.Version.{Version}
use Rattle.image_model.specs.declared.image.Version.TheVariants as version
use Rattle.image_fields.specs.{TableReading.{is_other, is_action_mask, is_start_time, is_start_cycle}, Reading.{Read, fault_at}}
use Rattle.image_fields.specs.BlockReading.{blank_kinds, is_allowed, is_takable, is_due, is_way}

-- the fault that reading gives, if it gives one
abbrev pub fault_of : {A : Type 0} → Read A → Option Fault
fault_of (Ok x) = None
fault_of (Err f) = Some f

-- A field: how many bytes it takes, as its first ones say, and which rule these bytes break.
pub record Field : Type 0 where
  pub size : List ℕ → ℕ
  pub broken : List ℕ → Option ImageRule

-- a number: its range is I3, and what must hold between it and the fields before it I5
abbrev pub number_rule : Bool → Bool → Option ImageRule
number_rule in_range refers_well = if in_range then (if refers_well then None else Some I5) else Some I3

abbrev pub field : Width → (ℕ → Bool) → (ℕ → Bool) → Field
field w in_range refers_well = record {
  size = λ _. byte_len w;
  broken = λ bytes. number_rule (in_range (from_be_bytes w bytes)) (refers_well (from_be_bytes w bytes));
}

abbrev pub any : ℕ → Bool
any n = true

abbrev pub some : ℕ → Bool
some n = nat_lt 0 n

abbrev pub below : ℕ → ℕ → Bool
below limit n = nat_lt n limit

abbrev pub at_most : ℕ → ℕ → Bool
at_most limit n = nat_le n limit

abbrev pub none_of : {X : Type 0} → (X → Bool) → List X → Bool
none_of test xs = not (list_any test xs)

-- the magic and the version
abbrev pub magic_field : Field
magic_field = record { size = λ _. 8; broken = λ bytes. if bytes_eq bytes (magic version.One) || bytes_eq bytes (magic version.Two) then None else Some I2 }

-- a field that version 2 alone has
abbrev pub further_field : Version → Field → List Field
further_field version.One f = []
further_field version.Two f = f ∷ []

-- a name: its length, and so many bytes, where it is the length of a name
abbrev pub is_name_len : ℕ → Bool
is_name_len len = nat_lt 0 len && nat_le len MAX_NAME

abbrev pub name_size : List ℕ → ℕ
name_size [] = 1
name_size (len ∷ bytes) = if is_name_len len then suc len else 1

abbrev pub name_broken : List (List ℕ) → List ℕ → Option ImageRule
name_broken earlier [] = Some I4
name_broken earlier (len ∷ name) = if is_name_len len && (is_name name && none_of (λ m. bytes_eq m name) earlier) then None else Some I4

abbrev pub name_field : List (List ℕ) → Field
name_field earlier = record { size = name_size; broken = name_broken earlier }

-- the rule of the lowest number that a field breaks: one that the bytes cut short is I1
abbrev pub broken_at : Field → List ℕ → Option ImageRule
broken_at f bytes = if nat_lt (length bytes) (f.size bytes) then Some I1 else f.broken (take (f.size bytes) bytes)

-- the fault of a field, or a later one
abbrev pub or_later : Option ImageRule → List ℕ → Option Fault → Option Fault
or_later None bytes later = later
or_later (Some rule) bytes later = Some (fault_at rule bytes)

-- the first of the fields, which follow each other, that breaks a rule
abbrev pub first_broken : List Field → List ℕ → Option Fault
first_broken [] bytes = None
first_broken (f ∷ fs) bytes = or_later (broken_at f bytes) bytes (first_broken fs (drop (f.size bytes) bytes))

-- the bytes behind the fields
abbrev pub behind : List Field → List ℕ → List ℕ
behind [] bytes = bytes
behind (f ∷ fs) bytes = behind fs (drop (f.size bytes) bytes)

-- the number at the front
abbrev pub front : Width → List ℕ → ℕ
front w bytes = from_be_bytes w (take (byte_len w) bytes)

-- ---- the header

abbrev pub header_fields : List Field
header_fields =
    magic_field ∷ field w8 (below 32) any ∷ field w8 (below (MAX_TASKS + 1)) any ∷ field w8 (below (MAX_ISRS + 1)) any
    ∷ field w8 (below (MAX_COUNTERS + 1)) any ∷ field w8 (below (MAX_ALARMS + 1)) any ∷ field w8 (below (MAX_RESOURCES + 1)) any
    ∷ field w8 (λ n. some n && at_most MAX_MODES n) any ∷ field w16 (at_most MAX_BLOCKS) any ∷ []

-- ---- an owner's blocks: the first and how many, where these are the earlier owners'

abbrev pub first_field : ℕ → Field
first_field blocks = field w16 (below blocks) any

abbrev pub count_field : ℕ → List (ℕ × ℕ) → ℕ → Field
count_field blocks earlier first =
    field w16 (λ n. some n && at_most blocks (first + n)) (λ n. none_of (λ o. meet o (first, n)) earlier)

abbrev pub range_fields : ℕ → List (ℕ × ℕ) → List ℕ → List Field
range_fields blocks earlier bytes = first_field blocks ∷ count_field blocks earlier (front w16 bytes) ∷ []

-- ---- the entries of tables, each beside the earlier ones

abbrev pub modes_field : ℕ → Field
modes_field modes = field w8 (below (2 ^ modes)) any

-- in version 1 no two priorities are the same
abbrev pub priority_field : Version → List Task → Field
priority_field version.One earlier = field w16 any (λ p. none_of (λ (x : Task). x.priority == p) earlier)
priority_field version.Two earlier = field w16 any any

-- a task with events takes one activation at a time
abbrev pub activation_field : ℕ → Field
activation_field own = field w8 (λ n. if own == 0 then some n else n == 1) any

-- a resource, or none
abbrev pub internal_field : ℕ → Field
internal_field resources = field w8 (λ n. (n == 0xff) || below resources n) any

-- the fields before a task's own event bits, and those before its blocks
abbrev pub task_start : Header → List Task → List Field
task_start n earlier = name_field (map (λ (x : Task). x.name) earlier) ∷ priority_field n.version earlier ∷ field w8 (below 2) any ∷ []

abbrev pub task_head : Header → List Task → List Field
task_head n earlier =
    name_field (map (λ (x : Task). x.name) earlier) ∷ priority_field n.version earlier ∷ field w8 (below 2) any
    ∷ field w64 any any ∷ modes_field n.modes ∷ []

abbrev pub task_fields : Header → List Task → List ℕ → List Field
task_fields n earlier bytes =
    task_head n earlier ++ (range_fields n.blocks (owners earlier [] []) (behind (task_head n earlier) bytes)
    ++ (further_field n.version (activation_field (front w64 (behind (task_start n earlier) bytes))) ++ further_field n.version (internal_field n.resources)))

abbrev pub isr_head : List Isr → List Field
isr_head earlier = name_field (map (λ (x : Isr). x.name) earlier) ∷ []

abbrev pub isr_fields : Header → List Task → List Isr → List ℕ → List Field
isr_fields n tasks earlier bytes =
    isr_head earlier ++ (range_fields n.blocks (owners tasks earlier []) (behind (isr_head earlier) bytes)
    ++ further_field n.version (field w8 any any))

-- MINCYCLE is at most MAXALLOWEDVALUE
abbrev pub counter_head : List Counter → List ℕ → List Field
counter_head earlier bytes =
    let name = name_field (map (λ (x : Counter). x.name) earlier) in
    name ∷ field w32 some any ∷ field w32 (at_most (front w32 (behind (name ∷ []) bytes))) any ∷ []

abbrev pub counter_fields : Header → List Task → List Isr → List Counter → List ℕ → List Field
counter_fields n tasks isrs earlier bytes = counter_head earlier bytes ++ range_fields n.blocks (owners tasks isrs earlier) (behind (counter_head earlier bytes) bytes)

-- an alarm that activates has no events, and one that sets events has some
abbrev pub action_fields : Header → List ℕ → List Field
action_fields n bytes = field w8 (below 2) any ∷ field w8 (below n.tasks) any ∷ field w64 (is_action_mask (front w8 bytes)) any ∷ []

-- where it is autostarted in no mode, its time and its cycle are 0
abbrev pub start_fields : Header → Counter → List ℕ → List Field
start_fields n counter bytes =
    modes_field n.modes ∷ field w32 (is_start_time counter (front w8 bytes)) any ∷ field w32 (is_start_cycle counter (front w8 bytes)) any ∷ []

abbrev pub alarm_fields : Header → List Counter → List Alarm → List ℕ → List Field
alarm_fields n counters earlier bytes =
    let name = name_field (map (λ (x : Alarm). x.name) earlier) in
    let counter = field w8 (below n.counters) any in
    let of = slice_index_or counters (front w8 (behind (name ∷ []) bytes)) no_counter in
    let action = action_fields n (behind (name ∷ counter ∷ []) bytes) in
    name ∷ counter ∷ (action ++ start_fields n of (behind (name ∷ counter ∷ action) bytes))

-- a resource that a task names as its INTERNAL one is INTERNAL
abbrev pub property_field : List Task → ℕ → Field
property_field tasks r = field w8 (below 2) (λ n. (n == 1) || list_all (λ (x : Task). is_other r x.internal) tasks)

abbrev pub resource_fields : Version → List Task → List Resource → List Field
resource_fields v tasks earlier =
    name_field (map (λ (x : Resource). x.name) earlier) ∷ field w32 (at_most greatest_ceiling) any
    ∷ (further_field v (property_field tasks (length earlier)) ++ further_field v (field w16 (at_most greatest_interrupt_ceiling) any))

-- ---- block b of so many, beside the tables

-- the kind of a number
abbrev pub kind_of_number : ℕ → Kind
kind_of_number n = slice_index_or blank_kinds n kind.Loop

abbrev pub is_form : ℕ → ℕ → Bool
is_form tasks n =
    (n == 0x0000) || (n == 0x0100) || (n == 0x02ff) || (n == 0x0300) || (nat_le 0x0200 n && nat_lt n (0x0200 + tasks))

-- a status, that none is noted, or nothing
abbrev pub is_known : ℕ → Bool
is_known n = (n == 0xff) || nat_lt n 10

module _ (t : Tables) (blocks b : ℕ) where
  abbrev pub kind_field : Version → Field
  kind_field v = field w8 (below 26) (λ n. is_allowed t b v (kind_of_number n))

  abbrev pub task_field : Field
  task_field = field w8 (below (length t.tasks)) any

  abbrev pub resource_field : Field
  resource_field = field w8 (below (length t.resources)) (is_takable t)

  abbrev pub alarm_field : Field
  alarm_field = field w8 (below (length t.alarms)) any

  abbrev pub events_field : Field
  events_field = field w64 some any

  abbrev pub ticks_field : Field
  ticks_field = field w64 any any

  abbrev pub way_field : Field
  way_field = field w16 (below blocks) (is_way t b)

  abbrev pub call_fields : Kind → List Field
  call_fields (kind.Work n) = field w16 some any ∷ []
  call_fields (kind.Call (call.Task k x)) = task_field ∷ []
  call_fields (kind.Call (call.Resource k r)) = resource_field ∷ []
  call_fields (kind.Call (call.SetEvent x m)) = task_field ∷ events_field ∷ []
  call_fields (kind.Call (call.Mask k m)) = events_field ∷ []
  call_fields (kind.Call (call.Arm k a i c)) = alarm_field ∷ ticks_field ∷ ticks_field ∷ []
  call_fields (kind.Call (call.Alarm k a)) = alarm_field ∷ []
  call_fields (kind.Call (call.Lock l)) = field w8 (below 6) any ∷ []
  call_fields (kind.Expire a) = field w8 (below (length t.alarms)) (is_due t b) ∷ []
  call_fields _ = []

  -- `next`, and `other` of a choice
  abbrev pub way_fields : Kind → List Field
  way_fields kind.TaskEnd = []
  way_fields kind.IsrEnd = []
  way_fields (kind.Choice o) = way_field ∷ way_field ∷ []
  way_fields _ = way_field ∷ []

  -- the form, and in version 2 what is known of the status
  abbrev pub site_fields : Version → Kind → List Field
  site_fields v k = if is_site_in t.tasks b k then field w16 (is_form (length t.tasks)) any ∷ further_field v (field w8 is_known any) else []

  -- the fields of the block that begins with these bytes: kind, locked, line, operands, ways and site
  abbrev pub block_fields : Version → List ℕ → List Field
  block_fields v bytes =
      let k = kind_of_number (slice_index bytes 0) in
      kind_field v ∷ field w8 (below 2) any ∷ field w32 any any ∷ (call_fields k ++ (way_fields k ++ site_fields v k))

-- the first fault of so many blocks from block b on
abbrev pub or_else : Option Fault → Option Fault → Option Fault
or_else None later = later
or_else (Some f) later = Some f

abbrev pub blocks_fault : Version → Tables → ℕ → ℕ → ℕ → List ℕ → Option Fault
blocks_fault v t blocks zero b bytes = None
blocks_fault v t blocks (suc k) b bytes =
    or_else (first_broken (block_fields t blocks b v bytes) bytes) (blocks_fault v t blocks k (b + 1) (behind (block_fields t blocks b v bytes) bytes))
