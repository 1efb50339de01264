-- The least fault of a text: by the number of its rule, then by its line.
use Rattle.std.specs.Prelude.{ℕ, ◌<◌, ◌≤◌, List, Option, Some, None}
use Rattle.osek_values.specs.{declared.refused.LineFault.{LineFault}, Lines.{IsOneOf}}

-- each rule has a number, and lines on which it is violated
module _ {Rule : Type 0} (order : Rule → ℕ) (lines : Rule → List ℕ) where
  abbrev pub HasNoFault : Type 0
  HasNoFault = (rule : Rule) (line : ℕ) → IsOneOf line (lines rule) → ⊥

  -- no lesser rule is violated anywhere, and this one on no lesser line
  pub record IsLeastFault (rule : Rule) (line : ℕ) : Type 0 where
    pub violated : IsOneOf line (lines rule)
    pub least_rule : (other : Rule) (l : ℕ) → order other < order rule → IsOneOf l (lines other) → ⊥
    pub least_line : (l : ℕ) → IsOneOf l (lines rule) → line ≤ l

  abbrev pub IsLeastOrNone : Option (LineFault Rule) → Type 0
  IsLeastOrNone None = HasNoFault
  IsLeastOrNone (Some fault) = IsLeastFault fault.rule fault.line
