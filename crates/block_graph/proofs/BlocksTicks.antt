-- The tick routines, one counter after another.
use Rattle.std.proofs.Common.{◌≡◌, ℕ, ◌+◌, ◌<◌, List, ◌∷◌, ◌++◌, length, get_or, drop, add-one, drop-cons, append_assoc, sym, ap, ◌∙◌}
use Rattle.osek_standard.specs.{declared.block.Block.{Block}, Validity.{due_of}}
use Rattle.oil_system.specs.declared.system.{CounterObject.{CounterObject}, System.{System}}
use Rattle.oil_model.specs.Linkable.{no_counter_object}
use Rattle.block_graph.specs.Blocks.{routine, routine_size, routines}

-- a loop that adds the tick routines, one at a time
pub ticks_laid_out : (s : System) (c n : ℕ) → c < length s.counters → (so_far new total : List Block)
    → so_far ++ routines s (drop c s.counters) c n ≡ total
    → new ≡ so_far ++ routine (due_of s.alarms c) n
    → new ++ routines s (drop (c + 1) s.counters) (c + 1) (n + routine_size (due_of s.alarms c)) ≡ total
ticks_laid_out s c n lt so_far new total whole adds =
    let front : drop c s.counters ≡ get_or s.counters c no_counter_object ∷ drop (c + 1) s.counters = rw add-one (drop-cons s.counters c no_counter_object lt) in
    let rest = routines s (drop (c + 1) s.counters) (c + 1) (n + routine_size (due_of s.alarms c)) in
    ap (λ (xs : List Block). xs ++ rest) adds
    ∙ append_assoc so_far (routine (due_of s.alarms c) n) rest
    ∙ ap (λ (xs : List CounterObject). so_far ++ routines s xs c n) (sym front)
    ∙ whole
