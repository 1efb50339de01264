-- What is known of a sink, and what a write leaves of it.
use Rattle.std.specs.Prelude.{◌≡◌, ℕ, List, Option}
use Rattle.osek_io.specs.{Pieces.{grown}, declared.sink.Sink.{Ghosts}}

-- how often a call failed, and what was written, where the sink tells it
pub record Sunk : Type 0 where
  pub faults : ℕ
  pub written : Option (List ℕ)

abbrev pub sunk : {S : Type 0} → Ghosts S → S → Sunk
sunk g sink = record { faults = g.faults sink; written = g.written sink }

-- All of the text was written, and no call failed.
abbrev pub Writes : (old new : Sunk) → (text : List ℕ) → Type 0
Writes old new text = (new.faults ≡ old.faults) × (new.written ≡ grown old.written text)
