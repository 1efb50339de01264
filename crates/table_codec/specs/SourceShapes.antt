-- What a source can be at a point, in a few numbers.
use Rattle.std.specs.{Prelude.{◌⊎◌, ℕ, zero, suc, ◌<◌, ◌≤◌, ◌↔◌, length, IsTrue, Some, None, if◌then◌else◌}, declared.option.Option.{Option}}
use Rattle.osek_values.specs.declared.numbers.BlockNo.{BlockNo}
use Rattle.osek_standard.specs.{declared.{app.App.{App}, point.Point.{Point}}, Apps.{source_count, is_counter}, Counts.{takable_count}, Validity.{IsAmong}, Well.{IsStack}}
use Rattle.osek_standard.specs.declared.point.Point.TheVariants as point
use Rattle.abstract_state.specs.declared.value.{RoutineVal.{RoutineVal}, PartValue.TheVariants.{OfSource}, Component.{Component}}
use Rattle.abstract_state.specs.declared.value.Component.TheVariants as component
use Rattle.abstract_state.specs.declared.value.SourceVal.TheVariants as source_val
use Rattle.abstract_state.specs.Components.{IsPart}
use Rattle.table_codec.specs.declared.source_shape.SourceShape.{SourceShape}

-- the source of a shape
abbrev pub shaped_source : SourceShape → Component
shaped_source x = component.Source x.source

-- whether a routine of the shape began, 1, or not, 0
abbrev pub IsSourceTag : SourceShape → ℕ → Type 0
IsSourceTag x zero = IsTrue x.may_be_out
IsSourceTag x (suc zero) = IsTrue x.may_be_in
IsSourceTag x (suc (suc n)) = ⊥

-- what a routine of the shape can be
pub record IsRoutineShaped (app : App) (x : SourceShape) (v : RoutineVal) : Type 0 where
  pub may : IsTrue x.may_be_in
  pub among : IsAmong v.block.0 x.first.0 x.count
  pub stack : IsStack app v.held
  pub few : length v.held ≤ x.most

-- Each of its numbers says what the source can be at its point.
pub record IsSourceShape (app : App) (x : SourceShape) : Type 0 where
  pub known : x.source.0 < source_count app
  pub out : IsTrue x.may_be_out ↔ IsPart app x.point (shaped_source x) (OfSource source_val.Out)
  pub routine : (v : RoutineVal) → IsRoutineShaped app x v ↔ IsPart app x.point (shaped_source x) (OfSource (source_val.In v))
  pub either : IsTrue x.may_be_out ⊎ IsTrue x.may_be_in
  pub some : 0 < x.count
  pub takes : x.most ≤ takable_count app

-- the block of the routine that has the processor
abbrev pub routine_at : Point → Option BlockNo
routine_at point.Halted = None
routine_at point.Idle = None
routine_at (point.Task b) = None
routine_at (point.Routine b over) = Some b

-- so many resources may a source's routine hold: a tick routine holds none
abbrev pub most_held : App → ℕ → ℕ
most_held app k = if is_counter app k then 0 else takable_count app
