-- the level so far, and those of the routines that are left, give the whole
use Rattle.std.proofs.Common.{◌≡◌, ◌-◌, max, length}
use Rattle.std.specs.List.{fold, range_with_len}
use Rattle.osek_standard.specs.{States.{source_state}, Levels.{level, routine_level}}
use Rattle.ceiling_rules.proofs.interrupts.level.Given as goal

abbrev pub invariant-loop-source : goal.invariant-loop-source
invariant-loop-source l =
    fold (λ n k. max n (routine_level l.app k (source_state l.state k))) l.level (range_with_len l.source (length l.state.sources - l.source)) ≡ level l.app l.state
