-- The texts of one writer, taken in turn, are the generated ones.
use Rattle.std.proofs.Common.{◌≡◌, ℕ, [], refl}
use Rattle.osek_vectors.specs.{declared.generated.Generated.{Generated}, Draws.{first_state}, Writing.{Written, onto}, OilTexts.{oil_text}, CodeTexts.{code_text}}
use Rattle.osek_vectors.specs.{EventLines.{event_text}, GeneratedTexts.{generated_texts}}

-- the texts as they stand when each is taken
abbrev taken : Written → Written → Written → Generated
taken oil code events = record { oil = oil.text; code = code.text; events = events.text }

pub taken-in_turn : (seed n : ℕ) (begun oil code events : Written) → begun ≡ record { text = []; state = first_state seed } → oil ≡ onto begun (oil_text n) → code ≡ onto (record oil { text = [] }) (code_text n) → events ≡ onto (record code { text = [] }) (event_text n) → taken oil code events ≡ generated_texts seed n
unfolding onto
taken-in_turn seed n begun oil code events e f g h = rw (h, g, f, e) refl
