-- Interrupt levels: which routine goes before which, and what keeps one out (ISO 17356-3, interrupt processing and
-- resource management in interrupt service routines).
use Rattle.std.specs.{Prelude.{ℕ, ◌+◌, max, Bool, nat_lt, nat_le, ◌==◌, ◌&&◌, ◌||◌, List, length, option_map, Some, None}, List.{fold, filter, range_with_len}}
use Rattle.std.specs.declared.option.Option.{Option}
use Rattle.osek_values.specs.{declared.numbers.{TaskNo.{TaskNo}, ResNo.{ResNo}, SourceNo.{SourceNo}}, Numbers.{source_no}}
use Rattle.osek_standard.specs.{declared.{app.App.{App}, state.{State.{State}, Source.{Source}}}, Apps.{the_resource, source_priority}}
use Rattle.osek_standard.specs.{States.{task_of, task_state, source_state, is_in}, Internal.{occupied}, Priority.{first_of_all}}
use Rattle.osek_standard.specs.declared.state.Source.TheVariants as source

module _ (app : App) where
  -- the higher priority, and among equals the lower source
  abbrev pub comes_before : ℕ → ℕ → Bool
  comes_before k l =
      nat_lt (source_priority app l) (source_priority app k)
      || ((source_priority app k == source_priority app l) && nat_le k l)

  -- a routine of priority p runs at level p + 1
  abbrev pub own_level : ℕ → ℕ
  own_level k = source_priority app k + 1

  -- a routine of a lower priority than this doesn't begin while the resource is held
  abbrev pub interrupt_ceiling : ℕ → ℕ
  interrupt_ceiling r = (the_resource app r).interrupt_ceiling

  -- the greatest of a level and the interrupt ceilings of these resources
  unfoldable pub highest_level : ℕ → List ResNo → ℕ
  highest_level level resources = fold (λ n r. max n (interrupt_ceiling r.0)) level resources

  -- the level of a routine that began and hasn't ended
  abbrev pub routine_level : ℕ → Source → ℕ
  routine_level k source.Out = 0
  routine_level k (source.In x) = highest_level (own_level k) x.held

  module _ (s : State) where
    -- what the task that runs or is interrupted has, if there is one
    abbrev pub task_level : Option TaskNo → ℕ
    task_level None = 0
    task_level (Some t) = highest_level 0 (occupied app t.0 (task_state s t.0))

    -- The interrupt level: that of the routines, and of the task that runs or is interrupted.
    unfoldable pub level : ℕ
    level = fold (λ n k. max n (routine_level k (source_state s k))) (task_level (task_of s.processor)) (range_with_len 0 (length s.sources))

    -- the sources whose routine began and hasn't ended
    abbrev pub entered_sources : List ℕ
    entered_sources = filter (λ k. is_in (source_state s k)) (range_with_len 0 (length s.sources))

    -- the routine that goes on, of those that were entered
    abbrev pub next_routine : Option SourceNo
    next_routine = option_map source_no (first_of_all comes_before entered_sources)
