-- Interrupts: which source's routine begins now (ISO 17356-3, interrupt processing).
use Rattle.std.specs.{Prelude.{◌≡◌, ℕ, Bool, true, false, nat_le, List, length, if◌then◌else◌, None, option_map, ◌≢◌, ◌⊎◌, ◌<◌, ◌≤◌, [], ◌&&◌}, List.{filter, range_with_len}}
use Rattle.std.specs.declared.option.Option.{Option}
use Rattle.osek_values.specs.{declared.numbers.SourceNo.{SourceNo}, Numbers.{source_no}}
use Rattle.osek_standard.specs.declared.{app.App.{App}, state.{State.{State}, RoutineStanding.{RoutineStanding}, Processor.{Processor}}}
use Rattle.osek_standard.specs.{Apps.{the_block, routine_start, source_priority}, States.{task_of, is_latched, with_latch, with_source, with_processor, here}}
use Rattle.osek_standard.specs.{Priority.{first_of_all}, Effects.{place_at}, Levels.{comes_before, level}}
use Rattle.osek_standard.specs.declared.state.Source.TheVariants as source
use Rattle.osek_standard.specs.declared.state.Processor.TheVariants as processor

-- a source is latched, and its priority is at least the level
abbrev pub may_arrive : App → State → ℕ → Bool
may_arrive app s k = is_latched s k && nat_le (level app s) (source_priority app k)

abbrev pub arriving_sources : App → State → List ℕ
arriving_sources app s = filter (λ k. may_arrive app s k) (range_with_len 0 (length s.latched))

-- no routine begins: the kernel halted, or who has the processor stands at a locked block
abbrev pub takes_none_by : App → State → Processor → Bool
takes_none_by app s processor.Halted = true
takes_none_by app s processor.Idle = false
takes_none_by app s (processor.Running t) = (the_block app (here s).block.0).locked
takes_none_by app s (processor.Interrupted k over) = (the_block app (here s).block.0).locked

abbrev pub takes_none : App → State → Bool
takes_none app s = takes_none_by app s s.processor

-- the source whose routine begins now
abbrev pub arrival : App → State → Option SourceNo
arrival app s = if takes_none app s then None else option_map source_no (first_of_all (comes_before app) (arriving_sources app s))

-- the same as a property: each other latched source has a lower priority, or the same and a greater number
pub record IsArrival (app : App) (s : State) (k : ℕ) : Type 0 where
  pub allowed : takes_none app s ≡ false
  pub latched : is_latched s k ≡ true
  pub above : level app s ≤ source_priority app k
  pub others : (l : ℕ) → is_latched s l ≡ true → l ≢ k →
      (source_priority app l < source_priority app k) ⊎ ((source_priority app l ≡ source_priority app k) × (k < l))

-- at its first block, with nothing held
abbrev pub begun : App → ℕ → RoutineStanding
begun app k = record { at = place_at (routine_start app k) 0; held = [] }

-- its routine begins at its first block, over the task that runs or is interrupted or over none
abbrev pub entered : App → State → SourceNo → State
entered app s k =
    with_processor (with_source (with_latch s k.0 false) k.0 (source.In (begun app k.0)))
    (processor.Interrupted k (task_of s.processor))
