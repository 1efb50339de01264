-- Sources that are known to be out, whatever the values of an entry are.
use Rattle.std.specs.Prelude.{◌≡◌, ℕ, ◌<◌, Bool, true, false, List, slice_index_or}
use Rattle.osek_values.specs.Numbers.{source_no}
use Rattle.osek_standard.specs.declared.{app.App.{App}, point.Point.{Point}}
use Rattle.osek_standard.specs.Apps.{source_count}
use Rattle.abstract_state.specs.declared.{value.PartValue.{PartValue, TheVariants.{OfSource}}, table.PlainEntry.{PlainEntry}}
use Rattle.abstract_state.specs.declared.value.SourceVal.TheVariants as source_val
use Rattle.abstract_state.specs.declared.value.Component.TheVariants as component
use Rattle.abstract_state.specs.Components.{component_number}
use Rattle.flow_model.specs.{declared.case.EffectCase.{EffectCase}, Effects.{AreIn, AreAllAllowed, CoverEffects, AreExactEffects, HaveKnownStays}}

-- the list says of source k that it is out
abbrev pub is_known_out : List Bool → ℕ → Bool
is_known_out outs k = slice_index_or outs k false

module _ (app : App) (outs : List Bool) where
  -- each source of which the list says so is out with these values
  abbrev pub AreOutBy : (ℕ → PartValue) → Type 0
  AreOutBy value = (k : ℕ) → k < source_count app → is_known_out outs k ≡ true → value (component_number app (component.Source (source_no k))) ≡ OfSource source_val.Out

  -- and with all that the entry has
  abbrev pub AreOutIn : PlainEntry → Type 0
  AreOutIn entry = (value : ℕ → PartValue) → AreIn app entry value → AreOutBy value

  -- These are the cases of the instructions at the point, in the states of an entry in which those sources are out.
  pub record AreCasesWith (p : Point) (cases : List EffectCase) : Type 0 where
    pub covering : (entry : PlainEntry) → AreOutIn entry → CoverEffects app p entry cases
    pub exact : (entry : PlainEntry) → AreAllAllowed app p entry → AreExactEffects app p entry cases
    pub stays : HaveKnownStays app cases
