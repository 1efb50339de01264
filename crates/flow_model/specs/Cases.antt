-- The parts of which cases are made.
use Rattle.std.specs.{Prelude.{ℕ, List, None}, declared.option.Option.{Option}}
use Rattle.osek_values.specs.declared.status.{Status.{Status}, Ask.{Ask}}
use Rattle.osek_values.specs.declared.status.Ask.TheVariants as ask
use Rattle.osek_values.specs.declared.numbers.{TaskNo.{TaskNo}, BlockNo.{BlockNo}}
use Rattle.oil_system.specs.declared.objects.Schedule.{Schedule, TheVariants.{Non, Full}}
use Rattle.osek_standard.specs.{declared.{app.App.{App}, block.Kind.{Kind}, state.Caller.TheVariants.{Task}, point.Point.{Point}}, Apps.{the_task}, Effects.{asked_by}}
use Rattle.abstract_state.specs.Components.{component_no}
use Rattle.flow_model.specs.declared.{test.{Test.{Test}, Condition.{Condition}}, change.Change.{Change}, case.{Asked.{Asked}, Leaving.{Leaving}, EffectCase.{EffectCase}}}
use Rattle.flow_model.specs.declared.case.Asked.TheVariants as asked
use Rattle.flow_model.specs.declared.case.Stay.TheVariants as stay
use Rattle.flow_model.specs.declared.runner.Runner.{Runner}
use Rattle.flow_model.specs.declared.runner.Runner.TheVariants as runner
use Rattle.flow_model.specs.Runners.{runner_point, moving}

abbrev pub condition : ℕ → Test → Condition
condition c t = record { component = component_no c; test = t }

abbrev pub effect_by : List Condition → List Change → Leaving → EffectCase
effect_by conditions changes leaving = record { conditions = conditions; changes = changes; leaving = leaving }

-- the processor stays at this point, and no task was put last
abbrev pub leaving_at : Point → Asked → Option Status → Leaving
leaving_at point asked status = record { asked = asked; last = None; stay = stay.At point; status = status }

abbrev pub effect_case : List Condition → List Change → Asked → Option Status → Point → EffectCase
effect_case conditions changes asked status point = effect_by conditions changes (leaving_at point asked status)

-- a task was put last
abbrev pub with_last : Option TaskNo → EffectCase → EffectCase
with_last last x = record x { leaving = record x.leaving { last = last } }

-- what an ask of a task's instruction asks of the scheduler
abbrev pub asked_when : TaskNo → Ask → Asked
asked_when t ask.No = asked.No
asked_when t ask.Maybe = asked.Maybe t
asked_when t ask.Left = asked.Left
asked_when t ask.Free = asked.Free

-- what a call of this kind asks, where its row asks so; at interrupt level it is nothing
abbrev pub asked_for : App → Runner → Kind → Ask → Asked
asked_for app (runner.Task t) k a = asked_when t (asked_by app (Task t) k a)
asked_for app (runner.Routine j z over) k a = asked.No

abbrev pub asked_under : TaskNo → Schedule → Asked
asked_under t Full = asked.Maybe t
asked_under t Non = asked.No

-- what a call asks that may lead to a dispatch: a preemptive task alone asks
abbrev pub asked_after : App → Runner → Asked
asked_after app (runner.Task t) = asked_under t (the_task app t.0).schedule
asked_after app (runner.Routine j z over) = asked.No

-- The runner goes on to a block, and nothing else changes.
abbrev pub goes_on : Runner → BlockNo → List Condition → Asked → Option Status → EffectCase
goes_on r n conditions asked status = effect_case conditions (moving r n) asked status (runner_point r n)
