-- What is told on a sink: all of a text, or where a write failed a prefix of it.
use Rattle.std.specs.{Prelude.{◌≡◌, ℕ, List, ◌++◌, Option, Result, Ok, Err, codes}, Fmt.{decimal}}
use Rattle.osek_io.specs.{Counts.{Rose}, Pieces.{grown}, Sunk.{Sunk, Writes}, declared.storing.PutError.{PutError}}

-- a prefix of the text was written
abbrev pub WritesPrefix : Option (List ℕ) → Option (List ℕ) → List ℕ → Type 0
WritesPrefix old new text = (prefix : List ℕ) × (back : List ℕ) × (text ≡ prefix ++ back) × (new ≡ grown old prefix)

-- a write failed, and a prefix of the text was written
abbrev pub Breaks : (old new : Sunk) → (text : List ℕ) → Type 0
Breaks old new text = Rose old.faults new.faults × WritesPrefix old.written new.written text

-- All of the text was written and no call failed, or a write failed.
abbrev pub TellsText : (old new : Sunk) → (text : List ℕ) → Result (Unit {0}) PutError → Type 0
TellsText old new text (Ok done) = Writes old new text
TellsText old new text (Err e) = Breaks old new text

-- FILE:PLACE: RULE
abbrev pub fault_text : List ℕ → ℕ → List ℕ → List ℕ
fault_text file place rule = (file ++ codes ":" ++ decimal place) ++ (codes ": " ++ rule ++ codes "\n")
