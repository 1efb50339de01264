-- The three texts of a generated system. Each draws from the state on that the one before leaves.
use Rattle.std.specs.Prelude.{ℕ}
use Rattle.osek_vectors.specs.{declared.generated.Generated.{Generated}, Draws.{first_state}, OilTexts.{oil_text}, CodeTexts.{code_text}, EventLines.{event_text}}

-- for a seed and n tasks
abbrev pub generated_texts : ℕ → ℕ → Generated
generated_texts seed n =
    let oil = oil_text n (first_state seed) in
    let code = code_text n oil.state in
    let events = event_text n code.state in
    record { oil = oil.text; code = code.text; events = events.text }
