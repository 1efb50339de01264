-- The cases of the end of a routine (ISO 17356-3, interrupt processing).
use Rattle.std.specs.{Prelude.{ℕ, ◌-◌, Bool, not, ◌&&◌, ◌==◌, List, [], ◌∷◌, map, filter, Some, None}, List.{range_with_len}, declared.option.Option.{Option}}
use Rattle.osek_values.specs.{Numbers.{source_no}, declared.numbers.{TaskNo.{TaskNo}, BlockNo.{BlockNo}, SourceNo.{SourceNo}}}
use Rattle.osek_standard.specs.{declared.app.App.{App}, Apps.{source_count}, Levels.{comes_before}}
use Rattle.osek_standard.specs.declared.point.Point.TheVariants as point
use Rattle.abstract_state.specs.Components.{component_number}
use Rattle.abstract_state.specs.declared.value.{ComponentNo.{ComponentNo}, PartValue.TheVariants.{OfSource}}
use Rattle.abstract_state.specs.declared.value.Component.TheVariants as component
use Rattle.abstract_state.specs.declared.value.SourceVal.TheVariants as source_val
use Rattle.flow_model.specs.declared.{test.Condition.{Condition}, change.Change.{Change}}
use Rattle.flow_model.specs.declared.test.Test.TheVariants as test
use Rattle.flow_model.specs.declared.change.Update.TheVariants as update
use Rattle.flow_model.specs.declared.case.{Asked.{Asked}, EffectCase.{EffectCase}, Leaving.{Leaving}}
use Rattle.flow_model.specs.declared.case.Asked.TheVariants as asked
use Rattle.flow_model.specs.declared.case.Stay.TheVariants as stay
use Rattle.flow_model.specs.declared.runner.Runner.{Runner}
use Rattle.flow_model.specs.declared.runner.Runner.TheVariants as runner
use Rattle.flow_model.specs.{Runners.{change, routine_runner}, Cases.{effect_by, leaving_at, asked_after}}
use Rattle.flow_effects.specs.{Conditions.{of_source}, Moves.{stays}, Outs.{is_known_out}}

-- the routine is over
abbrev pub ended : ComponentNo → List Change
ended z = change z.0 (update.Set (OfSource source_val.Out)) ∷ []

-- the processor goes back to a runner, where that stands
abbrev pub back_to : Runner → Asked → Leaving
back_to r asked = record { asked = asked; last = None; stay = stay.AtBlockOf r; status = None }

-- to the task that was interrupted, or to none: then the scheduler is free
abbrev pub given_back : App → Option TaskNo → Leaving
given_back app None = leaving_at point.Idle asked.Free None
given_back app (Some t) = back_to (runner.Task t) (asked_after app (runner.Task t))

-- a source may be in beside the one whose routine ends: it isn't known to be out
abbrev pub may_be_in : List Bool → SourceNo → ℕ → Bool
may_be_in outs k l = not (l == k.0) && not (is_known_out outs l)

module _ (app : App) where
  -- the number of the last source's component
  abbrev pub last_source : ℕ
  last_source = component_number app (component.Source (source_no (source_count app - 1)))

  -- these sources are out
  abbrev pub are_out : List ℕ → List Condition
  are_out sources = map (λ l. of_source app l (test.Is (OfSource source_val.Out))) sources

  module _ (k : SourceNo) where
    -- the sources beside the one whose routine ends
    abbrev pub others : List ℕ
    others = filter (λ l. not (l == k.0)) (range_with_len 0 (source_count app))

    -- another one goes on before source x
    abbrev pub is_before : ℕ → ℕ → Bool
    is_before x l = not (l == k.0) && (comes_before app l x && not (l == x))

    abbrev pub before : ℕ → List ℕ
    before x = filter (is_before x) (range_with_len 0 (source_count app))

    -- no other routine is in: the processor goes back to what they interrupted
    abbrev pub last_return : ComponentNo → Option TaskNo → EffectCase
    last_return z over = effect_by (are_out others) (ended z) (given_back app over)

    -- source x is in, and none that goes on before it
    abbrev pub goes_first : ℕ → List Condition
    goes_first x = of_source app x (test.IsNot (OfSource source_val.Out)) ∷ are_out (before x)

    -- then its routine goes on
    abbrev pub nested_return : ComponentNo → Option TaskNo → ℕ → EffectCase
    nested_return z over x = effect_by (goes_first x) (ended z) (back_to (routine_runner app (source_no x) over) asked.No)

    -- those that may be in beside it
    abbrev pub nested : List Bool → List ℕ
    nested outs = filter (may_be_in outs k) (range_with_len 0 (source_count app))

    abbrev pub routine_returns : List Bool → ComponentNo → Option TaskNo → List EffectCase
    routine_returns outs z over = last_return z over ∷ map (nested_return z over) (nested outs)

abbrev pub return_cases : App → List Bool → Runner → BlockNo → List EffectCase
return_cases app outs (runner.Task t) b = stays (runner.Task t) b ∷ []
return_cases app outs (runner.Routine k z over) b = routine_returns app k outs z over
