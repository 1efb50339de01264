use Rattle.std.proofs.Common.{◌≡◌, ◌≤◌, map, drop, length}
use Rattle.task_code.specs.Words.{found_in, entry}
use Rattle.task_code.proofs.words.found_in.Given as goal

-- no word before this place is the name
abbrev pub invariant-loop-word : goal.invariant-loop-word
invariant-loop-word g l = (l.word-index ≤ l.word-index-end) × (l.word-index-end ≡ length l.table) × (found_in (map entry l.table) l.name ≡ found_in (map entry (drop l.word-index l.table)) l.name)
