-- That an answer is due, where no definition computes which.
use Rattle.std.specs.Prelude.{ℕ, List, Some, Result}
use Rattle.osek_io.specs.Files.{Files}
use Rattle.image_model.specs.declared.image.Image.{Image}
use Rattle.abstract_state.specs.Tables.{Sets}
use Rattle.flow_check.specs.{declared.verdict.Verdict.{Verdict}, Verdicts.{IsVerdict}}
use Rattle.command_runs.specs.declared.stop.Stop.{Stop}
use Rattle.commands.specs.{Due.{IsDue}, Laws.{HoldBytes}, Words.{Check}}

-- some verdict is right of an image and a table
abbrev pub SomeVerdictIsRight : Type 0
SomeVerdictIsRight = (i : Image) (table : Sets) → ((v : Verdict) → IsVerdict i table v → ⊥) → ⊥

-- over files of bytes some answer is due to `check`
abbrev pub SomeIsDueToCheck : Type 0
SomeIsDueToCheck = (files : Files) (image table : List ℕ) → HoldBytes files
    → ((answer : Result (Unit {0}) Stop) → IsDue files (Some (Check image table)) answer → ⊥) → ⊥
