-- The event text of a generated system (this project's profile).
use Rattle.std.specs.Prelude.{ℕ, ◌*◌, ◌==◌, ◌++◌, if◌then◌else◌, codes, decimal}
use Rattle.osek_vectors.specs.Writing.{Text, fixed, draw, each_from}

-- with the choice that it takes drawn
abbrev pub run_line : Text
run_line = draw 2 (λ choice. fixed (codes "run " ++ decimal choice ++ codes "\n"))

-- two kinds of ten are interrupts
abbrev pub event_line_of_kind : ℕ → Text
event_line_of_kind kind =
    if kind == 0 then fixed (codes "irq I\n")
    else if kind == 1 then fixed (codes "tick C\n")
    else run_line

abbrev pub event_line : Text
event_line = draw 10 event_line_of_kind

abbrev pub event_text : ℕ → Text
event_text n = each_from 0 (1000 * n) (λ _. event_line)
