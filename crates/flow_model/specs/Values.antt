-- What tests and the scheduler read of a task's value.
use Rattle.std.specs.{Prelude.{ℕ, ◌+◌, ◌-◌, Bool, true, false, not, nat_lt, List, [], ◌∷◌, ◌++◌, length, take, slice_index_or, Some, None, is_some, if◌then◌else◌}, List.{cons_option}, declared.option.Option.{Option}}
use Rattle.osek_values.specs.{Numbers.{block_no}, declared.{limits.TheConstants.{MAX_ACTIVATIONS, MAX_RESOURCES}, numbers.{BlockNo.{BlockNo}, ResNo.{ResNo}}}}
use Rattle.osek_standard.specs.{declared.app.App.{App}, Internal.{internal_of}, Priority.{base_priority, highest}}
use Rattle.abstract_state.specs.declared.value.{Val.{Val, TheVariants.{Suspended, Live, Waiting}}, SourceVal.{SourceVal}, PartValue.{PartValue, TheVariants.{OfTask, OfEvent, OfAlarm, OfSource}}}
use Rattle.abstract_state.specs.{Components.{live_val, routine_val}, Settling.{inside_val}}
use Rattle.abstract_state.specs.declared.value.SourceVal.TheVariants as source_val
use Rattle.flow_model.specs.declared.release.Releases.{Releases}

abbrev pub is_suspended_value : Val → Bool
is_suspended_value Suspended = true
is_suspended_value (Live x) = false
is_suspended_value (Waiting b) = false

abbrev pub is_live_value : Val → Bool
is_live_value Suspended = false
is_live_value (Live x) = true
is_live_value (Waiting b) = false

-- the resources that it holds, the first taken first
abbrev pub held_of : Val → List ResNo
held_of Suspended = []
held_of (Live x) = x.held
held_of (Waiting b) = []

-- and those that a routine holds
abbrev pub held_by_routine : SourceVal → List ResNo
held_by_routine source_val.Out = []
held_by_routine (source_val.In x) = x.held

-- its further activations
abbrev pub further_of : Val → ℕ
further_of Suspended = 0
further_of (Live x) = x.further
further_of (Waiting b) = 0

-- it is Live, and has fewer activations than so many
abbrev pub has_room : ℕ → Val → Bool
has_room most Suspended = false
has_room most (Live x) = nat_lt (x.further + 1) most
has_room most (Waiting b) = false

-- it takes no further activation: it waits, or has so many
abbrev pub is_full_value : ℕ → Val → Bool
is_full_value most Suspended = false
is_full_value most (Live x) = not (nat_lt (x.further + 1) most)
is_full_value most (Waiting b) = true

-- where it stands; a suspended task stands nowhere
abbrev pub block_of : Val → BlockNo
block_of Suspended = block_no 0
block_of (Live x) = x.block
block_of (Waiting b) = b

-- and where a routine stands; one that hasn't begun stands nowhere
abbrev pub block_of_routine : SourceVal → BlockNo
block_of_routine source_val.Out = block_no 0
block_of_routine (source_val.In x) = x.block

-- where a task or a routine stands
abbrev pub block_of_part : PartValue → BlockNo
block_of_part (OfTask v) = block_of v
block_of_part (OfEvent b) = block_no 0
block_of_part (OfAlarm b) = block_no 0
block_of_part (OfSource v) = block_of_routine v

-- a stack with a resource on top besides; a full one takes none
abbrev pub with_top : List ResNo → ResNo → List ResNo
with_top h r = if nat_lt (length h) MAX_RESOURCES then h ++ r ∷ [] else h

-- a stack without what is on top
abbrev pub without_top : List ResNo → List ResNo
without_top h = take (length h - 1) h

-- a Live task at another block, with another stack
abbrev pub restacked : (List ResNo → List ResNo) → BlockNo → Val → Val
restacked f b Suspended = Suspended
restacked f b (Live x) = Live (live_val b x.further x.inside (f x.held))
restacked f b (Waiting c) = Waiting c

-- a Live task at another block, with the same stack
abbrev pub at_block : BlockNo → Val → Val
at_block b v = restacked (λ h. h) b v

-- a routine at another block, with another stack
abbrev pub restacked_routine : (List ResNo → List ResNo) → BlockNo → SourceVal → SourceVal
restacked_routine f b source_val.Out = source_val.Out
restacked_routine f b (source_val.In x) = source_val.In (routine_val b (f x.held))

-- a Live task or a routine at another block, with another stack; all else stays
abbrev pub restacked_part : (List ResNo → List ResNo) → BlockNo → PartValue → PartValue
restacked_part f b (OfTask v) = OfTask (restacked f b v)
restacked_part f b (OfEvent x) = OfEvent x
restacked_part f b (OfAlarm x) = OfAlarm x
restacked_part f b (OfSource v) = OfSource (restacked_routine f b v)

-- one further activation more, unless there are as many as there may be
abbrev pub one_further : ℕ → ℕ
one_further n = if nat_lt n MAX_ACTIVATIONS then n + 1 else n

-- a Live task with one further activation more
abbrev pub activated_more : Val → Val
activated_more Suspended = Suspended
activated_more (Live x) = Live (live_val x.block (one_further x.further) x.inside x.held)
activated_more (Waiting c) = Waiting c

-- a Live task that begins anew at a block for one of its further activations, outside and with nothing held
abbrev pub begun_again : BlockNo → Val → Val
begun_again b Suspended = Suspended
begun_again b (Live x) = Live (live_val b (x.further - 1) false [])
begun_again b (Waiting c) = Waiting c

-- a Live task at another block, outside
abbrev pub outside_at : BlockNo → Val → Val
outside_at b v = inside_val false (at_block b v)

-- where a task goes on that waits at a block, if it is released
abbrev pub next_behind : Releases → BlockNo → Option BlockNo
next_behind x b = if nat_lt b.0 x.first.0 then None else slice_index_or x.next (b.0 - x.first.0) None

-- it waits at one of the blocks from which it is released
abbrev pub waits_at : Releases → Val → Bool
waits_at x Suspended = false
waits_at x (Live y) = false
waits_at x (Waiting b) = is_some (next_behind x b)

-- a task that waits at a block: where it goes on, if it is released, it is Live, outside and with nothing held
abbrev pub released_to : BlockNo → Option BlockNo → Val
released_to b None = Waiting b
released_to b (Some n) = Live (live_val n 0 false [])

-- a task that waits at one of the blocks from which it is released, after that
abbrev pub released : Releases → Val → Val
released x Suspended = Suspended
released x (Live y) = Live y
released x (Waiting b) = released_to b (next_behind x b)

-- it has its INTERNAL resource
abbrev pub is_inside_value : Val → Bool
is_inside_value Suspended = false
is_inside_value (Live x) = x.inside
is_inside_value (Waiting b) = false

-- all resources that it has: its INTERNAL one where it is inside, and then its stack
abbrev pub occupied_by : App → ℕ → Val → List ResNo
occupied_by app u v = cons_option (if is_inside_value v then internal_of app u else None) (held_of v)

-- The current priority of a task with this value.
abbrev pub value_priority : App → ℕ → Val → ℕ
value_priority app u v = highest app (base_priority app u) (occupied_by app u v)
