-- The grammar of the lines of a record: which words are of the form of a point, and what a line says.
use Rattle.std.specs.{Prelude.{◌≡◌, ℕ, ◌<◌, ◌≤◌, List, [], ◌∷◌, ◌++◌, length, slice_index, IsTrue, codes, Some, None, Ok, Err}, List.{list_all}}
use Rattle.std.specs.{Char.{is_ascii_digit}, declared.{option.Option.{Option}, result.Result.{Result}}}
use Rattle.osek_values.specs.declared.limits.TheConstants.{MAX_EVENT_LINE}
use Rattle.osek_standard.specs.declared.{app.App.{App}, point.Point.{Point}}
use Rattle.trace_text.specs.{declared.fault.PointFault.{PointFault, TheVariants.{G1, G2, G3, G4}}, EventGrammar.{HasWords, SayNothing}, PointWords.{IsPointOf}}

-- a number in decimal, without leading zeros
pub record IsNumber (number : List ℕ) : Type 0 where
  pub some : 0 < length number
  pub digits : IsTrue (list_all is_ascii_digit number)
  pub plain : slice_index number 0 ≡ 48 → length number ≡ 1

-- The words of the form of a point: whatever follows a slash, it is something.
pub data IsPointWord : List ℕ → Type 0 where
  halted : IsPointWord (codes "halt")
  idle : IsPointWord (codes "idle")
  block : (number : List ℕ) → IsNumber number → IsPointWord (codes "b" ++ number)
  over : (number : List ℕ) (c : ℕ) (more : List ℕ) → IsNumber number → IsPointWord (codes "b" ++ number ++ codes "/" ++ c ∷ more)

-- The line is short enough, and its words have the property.
pub record HasWordsOf (Property : List (List ℕ) → Type 0) (line : List ℕ) : Type 0 where
  pub short : length line ≤ MAX_EVENT_LINE
  pub words : List (List ℕ)
  pub parted : HasWords line words
  pub property : Property words

-- one word, with the property
pub record AreOne (Property : List ℕ → Type 0) (words : List (List ℕ)) : Type 0 where
  pub word : List ℕ
  pub alone : words ≡ word ∷ []
  pub property : Property word

-- neither nothing nor one word of the form
pub record HaveNoForm (words : List (List ℕ)) : Type 0 where
  pub something : SayNothing words → ⊥
  pub formless : AreOne IsPointWord words → ⊥

module _ (app : App) where
  -- of the form of a point, and none's text
  pub record NamesNoPoint (word : List ℕ) : Type 0 where
    pub form : IsPointWord word
    pub none : IsPointOf app word None

  -- What a line says: nothing, a point of the application as it is printed, or why neither. A line that is too long is faulty
  -- whatever it says; no line has the fault of a whole record.
  abbrev pub IsLineAnswer : List ℕ → Result (Option Point) PointFault → Type 0
  IsLineAnswer line (Ok None) = HasWordsOf SayNothing line
  IsLineAnswer line (Ok (Some p)) = HasWordsOf (AreOne (λ word. IsPointOf app word (Some p))) line
  IsLineAnswer line (Err G1) = HasWordsOf HaveNoForm line
  IsLineAnswer line (Err G2) = HasWordsOf (AreOne NamesNoPoint) line
  IsLineAnswer line (Err G3) = MAX_EVENT_LINE < length line
  IsLineAnswer line (Err G4) = ⊥
