-- The cases of the services of resources in interrupt service routines (ISO 17356-3, GetResource, ReleaseResource).
use Rattle.std.specs.{Prelude.{◌^◌, Bool, nat_lt, List, [], ◌∷◌, ◌++◌, length, map, Some, if◌then◌else◌}, List.{range_with_len}}
use Rattle.osek_values.specs.{Numbers.{mask, task_no}, declared.numbers.{BlockNo.{BlockNo}, ResNo.{ResNo}, SourceNo.{SourceNo}}}
use Rattle.osek_values.specs.declared.status.Status.TheVariants as status
use Rattle.osek_standard.specs.{declared.app.App.{App}, Apps.{source_count}, Levels.{interrupt_ceiling, own_level}}
use Rattle.flow_model.specs.declared.case.EffectCase.{EffectCase}
use Rattle.flow_model.specs.declared.case.Asked.TheVariants as asked
use Rattle.flow_model.specs.declared.test.{Test.{Test}, Condition.{Condition}}
use Rattle.flow_model.specs.declared.test.Test.TheVariants as test
use Rattle.flow_model.specs.declared.change.Update.TheVariants as update
use Rattle.flow_model.specs.declared.runner.Runner.{Runner}
use Rattle.flow_model.specs.{Runners.{component_of}, Cases.{condition, goes_on}}
use Rattle.flow_effects.specs.{Conditions.{of_source, of_task}, Moves.{accepts, refuses}}

-- the interrupt ceiling is below the routine's own level
abbrev pub is_below : App → SourceNo → ResNo → Bool
is_below app k r = nat_lt (interrupt_ceiling app r.0) (own_level app k.0)

-- a test of each task, and of each source
abbrev pub of_all : App → Test → List Condition
of_all app x = map (λ u. of_task (task_no u) x) (range_with_len 0 (length app.tasks)) ++ map (λ l. of_source app l x) (range_with_len 0 (source_count app))

-- who passes this condition holds the resource: ACCESS
abbrev pub is_held_by : Runner → BlockNo → Condition → EffectCase
is_held_by me n x = goes_on me n (x ∷ []) asked.No (Some status.Access)

module _ (me : Runner) (n : BlockNo) (r : ResNo) where
  -- the resource is on top and is given back
  abbrev pub gives : EffectCase
  gives = accepts me n (condition (component_of me) (test.OnTop r) ∷ []) (update.Give n) asked.No

  -- it isn't on top: NOFUNC
  abbrev pub gives_none : EffectCase
  gives_none = goes_on me n (condition (component_of me) (test.NotOnTop r) ∷ []) asked.No (Some status.NoFunc)

module _ (app : App) (me : Runner) (n : BlockNo) (r : ResNo) where
  -- nobody holds the resource: the caller gets it on top of its stack
  abbrev pub gets : EffectCase
  gets = accepts me n (of_all app (test.HoldsNoneOf (mask (2 ^ r.0)))) (update.Take r n) asked.No

  abbrev pub routine_gets : SourceNo → List EffectCase
  routine_gets k = if is_below app k r then refuses me n status.Access else map (is_held_by me n) (of_all app (test.Holds r)) ++ gets ∷ []

  abbrev pub routine_gives : SourceNo → List EffectCase
  routine_gives k = if is_below app k r then refuses me n status.Access else gives me n r ∷ gives_none me n r ∷ []
