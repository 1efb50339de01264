-- A case of a service alone, and the case of the effect that it is where the service is called.
use Rattle.std.specs.{Prelude.{Bool, true, false, List, [], ◌∷◌, ◌++◌, Some, None, if◌then◌else◌}, declared.option.Option.{Option}}
use Rattle.osek_values.specs.declared.{status.Status.{Status}, numbers.TaskNo.{TaskNo}}
use Rattle.osek_values.specs.declared.status.Status.TheVariants as status
use Rattle.abstract_state.specs.declared.value.PartValue.TheVariants.{OfAlarm}
use Rattle.flow_model.specs.declared.change.Change.{Change}
use Rattle.flow_model.specs.declared.change.Update.TheVariants as update
use Rattle.flow_model.specs.declared.test.Condition.{Condition}
use Rattle.flow_model.specs.declared.test.Test.TheVariants as test
use Rattle.flow_model.specs.declared.case.EffectCase.{EffectCase}
use Rattle.flow_model.specs.declared.case.Asked.TheVariants as asked
use Rattle.flow_model.specs.{Runners.{runner_point, moving, change}, Cases.{condition, effect_case, with_last}}
use Rattle.flow_services.specs.declared.occasion.{Expired.{Expired}, Queued.{Queued}, Occasion.{Occasion}}
use Rattle.flow_services.specs.declared.occasion.Queued.TheVariants as queued

-- what a service takes, changes and notes, and what it puts into the line
pub record ServiceCase : Type 0 where
  pub conditions : List Condition
  pub changes : List Change
  pub status : Option Status
  pub queued : Queued

abbrev pub service_case : List Condition → List Change → Option Status → Queued → ServiceCase
service_case conditions changes status queued = record { conditions = conditions; changes = changes; status = status; queued = queued }

-- the task that is put last, if one is
abbrev pub last_of : Queued → Option TaskNo
last_of queued.Nothing = None
last_of queued.Further = None
last_of (queued.Last t) = Some t

-- where it puts something there, that may lead to a dispatch
abbrev pub puts_some : Queued → Bool
puts_some queued.Nothing = false
puts_some queued.Further = true
puts_some (queued.Last t) = true

-- a refused call changes nothing
abbrev pub refused_case : List Condition → Status → ServiceCase
refused_case conditions e = service_case conditions [] (Some e) queued.Nothing

abbrev pub accepted_case : List Condition → List Change → Queued → ServiceCase
accepted_case conditions changes queued = service_case conditions changes (Some status.Ok) queued

abbrev pub unnoted_case : List Condition → ServiceCase
unnoted_case conditions = service_case conditions [] None queued.Nothing

-- an alarm that expired was armed, and is armed anew or idle
abbrev pub expired_conditions : Option Expired → List Condition
expired_conditions None = []
expired_conditions (Some x) = condition x.alarm.0 (test.Is (OfAlarm true)) ∷ []

abbrev pub expired_changes : Option Expired → List Change
expired_changes None = []
expired_changes (Some x) = change x.alarm.0 (update.Set (OfAlarm x.again)) ∷ []

-- what comes before the service: the caller goes on, and an alarm that expired is armed anew or idle
abbrev pub begun : Occasion → List Change
begun o = moving o.runner o.next ++ expired_changes o.expired

-- the case of the effect with these changes
abbrev pub case_by : Occasion → List Condition → List Change → Option Status → Queued → EffectCase
case_by o conditions changes status q =
    with_last (last_of q) (effect_case (conditions ++ expired_conditions o.expired) changes (if puts_some q then o.asked else asked.No) status (runner_point o.runner o.next))

-- The case of the effect: the changes of the service come after what comes before it.
abbrev pub case_at : Occasion → ServiceCase → EffectCase
case_at o x = case_by o x.conditions (begun o ++ x.changes) x.status x.queued
