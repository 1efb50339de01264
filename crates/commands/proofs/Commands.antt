-- The command that the words are, with its answer.
use Rattle.std.proofs.Common.{◌≡◌, ℕ, List, subst}
use Rattle.std.specs.declared.{option.Option.{Option}, result.Result.{Result}}
use Rattle.commands.specs.{Answering.{Does}, Statuses.{status_of, text_due}, Words.{Command}}
use Rattle.command_runs.specs.declared.stop.Stop.{Stop}

pub does_of : (command given : Option Command) → given ≡ command → (answers : Option Command → Result (Unit {0}) Stop → Type 0) (tells : List ℕ → ℕ → Type 0) (r : Result (Unit {0}) Stop) →
    answers given r → tells (text_due given r) (status_of r) → Does command (answers command) tells
does_of command given is answers tells r does told = subst (λ (k : Option Command). Does k (answers k) tells) is (record { answer = r; does = does; told = told })
