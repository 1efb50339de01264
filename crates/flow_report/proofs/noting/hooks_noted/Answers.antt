use Rattle.std.proofs.Common.{◌⊎◌, ℕ, length, inl, inr}
use Rattle.abstract_state.specs.Tables.{sets_of}
use Rattle.flow_report.specs.Noting.{NotesAtStart, NotesInRows, NotesInTable}
use Rattle.flow_report.proofs.{NotedHooks.{both_hooks}, NotedRows.{in_table, in_rows}}
use Rattle.flow_report.proofs.noting.hooks_noted.Goals as goal

pub returns : goal.returns
returns c =
    let app = c.args.app.now in
    let table = c.args.table.now in
    both_hooks (λ (h : ℕ). NotesAtStart app h (length app.modes)) (λ (h : ℕ). NotesInRows app h table.rows) (λ (h : ℕ). NotesAtStart app h (length app.modes) ⊎ NotesInTable app h (sets_of table))
    c.in_ok-at_start.at_start c.in_ok-of_steps.of_steps c.with.result (λ h n. inl n) (λ h n. inr (in_table app table c.requires.written h n))
    (λ h n. elim n [
      | inl at ↦ inl at
      | inr of ↦ inr (in_rows app table c.requires.written h of)
    ])
    c.in_ok-at_start.ensures c.in_ok-of_steps.ensures c.with.ensures
