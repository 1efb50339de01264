-- The status is that of the answer which is due, unless memory ran out.
use Rattle.std.proofs.Common.{◌≡◌, ℕ, ◌∙◌, ap, subst, inl, inr, ⊎_elim, Some}
use Rattle.std.specs.{Prelude.{◌⊎◌}, declared.{option.Option.{Option}, result.Result.{Result}}}
use Rattle.osek_io.specs.{Counts.{ReadFaults, Rose}, Files.{Files}, Sunk.{Sunk}}
use Rattle.commands.specs.{Answering.{CommandAnswers, Does, Tells}, Due.{IsCalm, IsDue}}
use Rattle.command_runs.specs.Outside.{Outside, beside}
use Rattle.commands.specs.{Statuses.{status_of}, Words.{Command}}
use Rattle.command_runs.specs.declared.stop.Stop.{Stop}
use Rattle.commands.proofs.{Dues.{command_due}, OneDue.{one_due}}

module _ (files : Files) (tells : Option Files) (told_files : tells ≡ Some files) (after : Outside) (reads : ReadFaults) (writes : ℕ) (out err err_after : Sunk) (command : Option Command) (status : ℕ) where
  abbrev from : Option Files → Outside
  from f = beside (record { files = f; reads = reads; writes = writes }) out

  abbrev Answered : Option Files → Type 0
  Answered f = Does command (CommandAnswers (from f) after command) (λ text s. Tells err err_after text s status)

  due_of : IsCalm (from (Some files)) after → (Rose err.faults err_after.faults → ⊥) → (due : Result (Unit {0}) Stop) → IsDue files command due → Answered (Some files) → (status ≡ status_of due) ⊎ (status ≡ 7)
  due_of calm still due is d = ⊎_elim (λ says. ⊎_elim (λ memory. inr (says.0 ∙ ap status_of memory)) (λ same. inl (says.0 ∙ ap status_of (one_due files command d.answer due same is))) (command_due files after reads writes out calm command d.answer d.does)) (λ fails. absurd (still fails.1.0)) d.told

  pub exact_of : IsCalm (from tells) after → (Rose err.faults err_after.faults → ⊥) → (due : Result (Unit {0}) Stop) → IsDue files command due → Answered tells → (status ≡ status_of due) ⊎ (status ≡ 7)
  exact_of calm still due is does = due_of (subst (λ (f : Option Files). IsCalm (from f) after) told_files calm) still due is (subst Answered told_files does)
