-- The cases of instructions that do nothing but go on: work, choices, loops, and calls that are refused or have no effect
-- on the components.
use Rattle.std.specs.{Prelude.{ℕ, nat_lt, List, [], ◌∷◌, ◌++◌, map, Some, None, if◌then◌else◌}, List.{range_with_len}}
use Rattle.osek_values.specs.declared.{numbers.{TaskNo.{TaskNo}, BlockNo.{BlockNo}}, status.Status.{Status}}
use Rattle.osek_values.specs.declared.status.Status.TheVariants as status
use Rattle.osek_standard.specs.{declared.app.App.{App}, Apps.{source_count}}
use Rattle.osek_standard.specs.declared.point.Point.TheVariants as point
use Rattle.abstract_state.specs.declared.value.SourceVal.TheVariants as source_val
use Rattle.flow_model.specs.declared.case.{Asked.{Asked}, EffectCase.{EffectCase}}
use Rattle.flow_model.specs.declared.case.Asked.TheVariants as asked
use Rattle.flow_model.specs.declared.{change.{Change.{Change}, Update.{Update}}, test.Condition.{Condition}}
use Rattle.flow_model.specs.declared.runner.Runner.TheVariants as runner
use Rattle.flow_model.specs.{declared.runner.Runner.{Runner}, Runners.{change, component_of, runner_point, moving}, Changes.{source_change}, Cases.{effect_case, goes_on}}

-- it stays at its block, and nothing changes
abbrev pub stays : Runner → BlockNo → EffectCase
stays r b = effect_case [] [] asked.No None (runner_point r b)

-- it goes on, and nothing else
abbrev pub passes_by : Runner → BlockNo → EffectCase
passes_by r n = goes_on r n [] asked.No None

abbrev pub onward : Runner → BlockNo → List EffectCase
onward r n = passes_by r n ∷ []

-- it goes on, and the call is refused whatever the values are
abbrev pub refuses : Runner → BlockNo → Status → List EffectCase
refuses r n x = goes_on r n [] asked.No (Some x) ∷ []

-- a runner goes on to a block, and its value is another there: its call is accepted
abbrev pub accepts : Runner → BlockNo → List Condition → Update → Asked → EffectCase
accepts r n conditions u asked = effect_case conditions (change (component_of r) u ∷ []) asked (Some status.Ok) (runner_point r n)

-- and so does a task
abbrev pub goes_on_as : TaskNo → BlockNo → List Condition → Update → Asked → EffectCase
goes_on_as t n conditions u asked = accepts (runner.Task t) n conditions u asked

-- of several instructions of work one is done, or the last
abbrev pub work_cases : Runner → BlockNo → BlockNo → ℕ → List EffectCase
work_cases r b n count = if nat_lt 1 count then stays r b ∷ onward r n else onward r n

-- either way
abbrev pub choice_cases : Runner → BlockNo → BlockNo → List EffectCase
choice_cases r n other = passes_by r n ∷ onward r other

-- no routine is left
abbrev pub all_ended : App → List Change
all_ended app = map (λ k. source_change app k source_val.Out) (range_with_len 0 (source_count app))

-- ShutdownOS: the caller stands at its next block, all routines are over, and the kernel halts
abbrev pub halts : App → Runner → BlockNo → List EffectCase
halts app r n = effect_case [] (moving r n ++ all_ended app) asked.No None point.Halted ∷ []
