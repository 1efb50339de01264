-- The first of the sources that were looked at.
use Rattle.std.specs.{Prelude.{◌≡◌, ℕ, ◌<◌, Bool, true, false, nat_lt, Some, None, if◌then◌else◌}, declared.option.Option.{Option}}
use Rattle.osek_values.specs.declared.numbers.SourceNo.{SourceNo}
use Rattle.osek_standard.specs.{declared.app.App.{App}, Apps.{source_priority}, Levels.{comes_before}}

-- a source of a greater number goes before where its priority is higher
abbrev pub first_after : App → Option SourceNo → SourceNo → SourceNo
first_after app None next = next
first_after app (Some k) next = if nat_lt (source_priority app k.0) (source_priority app next.0) then next else k

module _ (app : App) (passes : ℕ → Bool) where
  pub record IsFirstOfBelow (n k : ℕ) : Type 0 where
    pub below : k < n
    pub passes_too : passes k ≡ true
    pub before_each : (l : ℕ) → l < n → passes l ≡ true → comes_before app k l ≡ true

  -- of the sources below a number that pass a test the one that goes before each
  abbrev pub IsFirstBelow : ℕ → Option SourceNo → Type 0
  IsFirstBelow n None = (l : ℕ) → l < n → passes l ≡ false
  IsFirstBelow n (Some k) = IsFirstOfBelow n k.0
