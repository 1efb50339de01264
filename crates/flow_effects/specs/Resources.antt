-- The cases of the services of resources (ISO 17356-3, GetResource, ReleaseResource).
use Rattle.std.specs.{Prelude.{ℕ, ◌^◌, Bool, nat_lt, List, [], ◌∷◌, ◌++◌, length, map, Some, if◌then◌else◌}, List.{range_with_len}}
use Rattle.osek_values.specs.{Numbers.{mask, task_no}, declared.numbers.{TaskNo.{TaskNo}, BlockNo.{BlockNo}, ResNo.{ResNo}}}
use Rattle.osek_values.specs.declared.status.Status.TheVariants as status
use Rattle.osek_standard.specs.{declared.app.App.{App}, Priority.{base_priority, ceiling}}
use Rattle.flow_model.specs.declared.case.EffectCase.{EffectCase}
use Rattle.flow_model.specs.declared.case.Asked.TheVariants as asked
use Rattle.flow_model.specs.declared.test.Condition.{Condition}
use Rattle.flow_model.specs.declared.test.Test.TheVariants as test
use Rattle.flow_model.specs.declared.change.Update.TheVariants as update
use Rattle.flow_model.specs.declared.runner.Runner.{Runner}
use Rattle.flow_model.specs.declared.runner.Runner.TheVariants as runner
use Rattle.flow_model.specs.Cases.{goes_on, asked_after}
use Rattle.flow_effects.specs.{Conditions.{of_task}, Moves.{goes_on_as, refuses}, RoutineResources.{routine_gets, routine_gives}}

-- the mask of one resource
abbrev pub only : ResNo → ℕ
only r = 2 ^ r.0

-- no task below the number holds the resource
abbrev pub nobody_holds : ResNo → ℕ → List Condition
nobody_holds r tasks = map (λ u. of_task (task_no u) (test.HoldsNoneOf (mask (only r)))) (range_with_len 0 tasks)

-- some task holds it: ACCESS
abbrev pub taken_cases : TaskNo → BlockNo → ResNo → ℕ → List EffectCase
taken_cases t n r tasks = map (λ u. goes_on (runner.Task t) n (of_task (task_no u) (test.Holds r) ∷ []) asked.No (Some status.Access)) (range_with_len 0 tasks)

-- no task does: the caller gets it on top of its stack
abbrev pub takes : TaskNo → BlockNo → ResNo → ℕ → EffectCase
takes t n r tasks = goes_on_as t n (nobody_holds r tasks) (update.Take r n) asked.No

-- the resource is on top and is given back
abbrev pub gives_back : App → TaskNo → BlockNo → ResNo → EffectCase
gives_back app t n r = goes_on_as t n (of_task t (test.OnTop r) ∷ []) (update.Give n) (asked_after app (runner.Task t))

-- it isn't on top: NOFUNC
abbrev pub isnt_on_top : TaskNo → BlockNo → ResNo → EffectCase
isnt_on_top t n r = goes_on (runner.Task t) n (of_task t (test.NotOnTop r) ∷ []) asked.No (Some status.NoFunc)

-- the ceiling is below the task's own priority
abbrev pub is_barred : App → TaskNo → ResNo → Bool
is_barred app t r = nat_lt (ceiling app r.0) (base_priority app t.0)

abbrev pub get_cases : App → Runner → BlockNo → ResNo → List EffectCase
get_cases app (runner.Task t) n r =
    if is_barred app t r then refuses (runner.Task t) n status.Access
    else taken_cases t n r (length app.tasks) ++ takes t n r (length app.tasks) ∷ []
get_cases app (runner.Routine k z over) n r = routine_gets app (runner.Routine k z over) n r k

abbrev pub release_cases : App → Runner → BlockNo → ResNo → List EffectCase
release_cases app (runner.Task t) n r =
    if is_barred app t r then refuses (runner.Task t) n status.Access else gives_back app t n r ∷ isnt_on_top t n r ∷ []
release_cases app (runner.Routine k z over) n r = routine_gives app (runner.Routine k z over) n r k
