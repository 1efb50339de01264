-- What the values of a set are values of, and how many these are: what bounds the growth of an entry.
use Rattle.std.specs.{Prelude.{◌≡◌, ◌↔◌, ⊤, ℕ, ◌+◌, ◌*◌, ◌<◌, ◌^◌, Bool, true, not, List, length, map, filter, All, sum_by, Contains, if◌then◌else◌, is_some}, List.{IsDistinct, range_with_len}}
use Rattle.osek_values.specs.{Bits.{has_bit}, Numbers.{mask, res_no}, declared.{mask.Mask.{Mask}, numbers.ResNo.{ResNo}}}
use Rattle.osek_standard.specs.{declared.{app.App.{App}, objects.Task.{Task}}, Apps.{the_task, is_counter, routine_start, routine_count}, Internal.{internal_of}, Counts.{stacks}, Validity.{IsAmong, is_internal}, Well.{same_resource}}
use Rattle.abstract_state.specs.declared.value.{LiveVal.{LiveVal}, Val.{Val, TheVariants.{Suspended, Live, Waiting}}, SourceVal.{SourceVal}, RoutineVal.{RoutineVal}}
use Rattle.abstract_state.specs.declared.value.{Component.{Component}, Domain.{Domain}, PartValue.{PartValue, TheVariants.{OfTask, OfEvent, OfAlarm, OfSource}}}
use Rattle.abstract_state.specs.declared.value.SourceVal.TheVariants as source_val
use Rattle.abstract_state.specs.declared.value.Component.TheVariants as component
use Rattle.abstract_state.specs.declared.value.Domain.TheVariants as domain
use Rattle.abstract_state.specs.{declared.table.{ValueSet.{ValueSet}, PlainEntry.{PlainEntry}}, Components.{components}, Concrete.{bits_number}, ValueOrder.{same_part, IsAscending}}
use Rattle.abstract_state.specs.Tables.{set_at, IsSubset}

-- the resources of a mask
abbrev pub resources_in : Mask → List ResNo
resources_in m = map res_no (filter (has_bit m.0) (range_with_len 0 64))

module _ (first count : ℕ) (takable : Mask) (activation : ℕ) (internal : Bool) where
  -- what a Live task with these blocks can be: inside only where it names an INTERNAL resource, with a stack out of those
  -- that it can take
  pub record IsLiveWithin (x : LiveVal) : Type 0 where
    pub own : IsAmong x.block.0 first count
    pub further : x.further < activation
    pub named : x.inside ≡ true → internal ≡ true
    pub distinct : IsDistinct same_resource x.held
    pub known : All (λ (r : ResNo). Contains (resources_in takable) r) x.held

  -- suspended, Live, or waiting at a block
  abbrev pub IsValWithin : Val → Type 0
  IsValWithin Suspended = ⊤
  IsValWithin (Live x) = IsLiveWithin x
  IsValWithin (Waiting b) = IsAmong b.0 first count

module _ (first count : ℕ) (takable : Mask) where
  -- what a routine with these blocks can be, with a stack out of those that it can take
  pub record IsRoutineWithin (x : RoutineVal) : Type 0 where
    pub own : IsAmong x.block.0 first count
    pub distinct : IsDistinct same_resource x.held
    pub known : All (λ (r : ResNo). Contains (resources_in takable) r) x.held

  abbrev pub IsSourceWithin : SourceVal → Type 0
  IsSourceWithin source_val.Out = ⊤
  IsSourceWithin (source_val.In x) = IsRoutineWithin x

-- how many ways there are to be Live: at so many blocks, each with a stack and with further activations, inside or not
abbrev pub live_size : ℕ → Mask → ℕ → Bool → ℕ
live_size count takable activation internal =
    if internal then 2 * (count * stacks (length (resources_in takable)) * activation) else count * stacks (length (resources_in takable)) * activation

-- A value is one of the domain's.
abbrev pub IsWithin : Domain → PartValue → Type 0
IsWithin (domain.Task first count activation internal takable) (OfTask v) = IsValWithin first.0 count takable activation internal v
IsWithin domain.Event (OfEvent b) = ⊤
IsWithin domain.Alarm (OfAlarm b) = ⊤
IsWithin (domain.Source first count takable) (OfSource v) = IsSourceWithin first.0 count takable v
IsWithin (domain.Task first count activation internal takable) (OfEvent b) = ⊥
IsWithin (domain.Task first count activation internal takable) (OfAlarm b) = ⊥
IsWithin (domain.Task first count activation internal takable) (OfSource v) = ⊥
IsWithin domain.Event (OfTask v) = ⊥
IsWithin domain.Event (OfAlarm b) = ⊥
IsWithin domain.Event (OfSource v) = ⊥
IsWithin domain.Alarm (OfTask v) = ⊥
IsWithin domain.Alarm (OfEvent b) = ⊥
IsWithin domain.Alarm (OfSource v) = ⊥
IsWithin (domain.Source first count takable) (OfTask v) = ⊥
IsWithin (domain.Source first count takable) (OfEvent b) = ⊥
IsWithin (domain.Source first count takable) (OfAlarm b) = ⊥

-- How many values a domain has.
abbrev pub domain_size : Domain → ℕ
domain_size (domain.Task first count activation internal takable) = 1 + count + live_size count takable activation internal
domain_size domain.Event = 2
domain_size domain.Alarm = 2
domain_size (domain.Source first count takable) = 1 + count * stacks (length (resources_in takable))

-- the domain's values stand in a list, none twice, with so many members
pub record IsCounted (d : Domain) : Type 0 where
  pub values : List PartValue
  pub distinct : IsDistinct same_part values
  pub whole : (v : PartValue) → Contains values v ↔ IsWithin d v
  pub count : length values ≡ domain_size d

-- the resources that may stand on a stack
abbrev pub takable_resources : App → Mask
takable_resources app = mask (bits_number (λ r. not (is_internal app.resources r)) (length app.resources))

-- those that may stand on a routine's: a tick routine takes none
abbrev pub takable_by_source : App → ℕ → Mask
takable_by_source app k = if is_counter app k then mask 0 else takable_resources app

-- What the values of a component are values of.
abbrev pub domain_of : App → Component → Domain
domain_of app (component.Task t) =
    domain.Task (the_task app t.0).first (the_task app t.0).count (the_task app t.0).activation (is_some (internal_of app t.0)) (takable_resources app)
domain_of app (component.Event t k) = domain.Event
domain_of app (component.Alarm a) = domain.Alarm
domain_of app (component.Source k) = domain.Source (routine_start app k.0) (routine_count app k.0) (takable_by_source app k.0)

abbrev pub domains_of : App → List Domain
domains_of app = map (domain_of app) (components app)

-- the domains that an entry keeps
abbrev pub domains : PlainEntry → List Domain
domains entry = map (λ (set : ValueSet). set.domain) entry.sets

-- each task's own event bits are below the 64th, as in a mask of the program
abbrev pub HasMasks : App → Type 0
HasMasks app = All (λ (x : Task). x.own.0 < 2 ^ 64) app.tasks

-- How many values an entry can have.
abbrev pub entry_height : PlainEntry → ℕ
entry_height entry = sum_by (λ (set : ValueSet). domain_size set.domain) entry.sets

-- values of the domain, in their order
pub record IsSound (set : ValueSet) : Type 0 where
  pub within : All (IsWithin set.domain) set.members
  pub ascending : IsAscending set.members

-- each set is sound, and a count of 64 bits holds the number of values
pub record IsSoundEntry (entry : PlainEntry) : Type 0 where
  pub sets : All IsSound entry.sets
  pub few : entry_height entry < 2 ^ 64

-- The order of entries: each set is contained in the other's.
pub record IsBelow (entry other : PlainEntry) : Type 0 where
  pub each : (c : ℕ) → IsSubset (set_at entry c) (set_at other c)
