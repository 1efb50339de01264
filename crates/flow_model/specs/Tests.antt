-- Which values pass a test, and what changes make of them.
use Rattle.std.specs.{Prelude.{◌≡◌, ℕ, ◌<◌, Bool, true, ◌==◌, ◌&&◌, not, List, [], ◌∷◌, length, IsTrue, if◌then◌else◌, Contains}, List.{list_any}}
use Rattle.osek_values.specs.declared.numbers.ResNo.{ResNo}
use Rattle.osek_standard.specs.{declared.app.App.{App}, TaskStates.{holds}}
use Rattle.osek_values.specs.Bits.{has_bit}
use Rattle.osek_standard.specs.Services.{is_on_top}
use Rattle.abstract_state.specs.{declared.value.{Val.{Val}, PartValue.{PartValue, TheVariants.{OfTask, OfEvent, OfAlarm, OfSource}}}, ValueOrder.{same_part}, Components.{component_count}, Settling.{inside_val}}
use Rattle.flow_model.specs.declared.test.{Test.{Test}, Condition.{Condition}}
use Rattle.flow_model.specs.declared.test.Test.TheVariants as test
use Rattle.flow_model.specs.declared.change.{Update.{Update}, Change.{Change}}
use Rattle.flow_model.specs.declared.change.Update.TheVariants as update
use Rattle.flow_model.specs.Values.{is_suspended_value, held_of, held_by_routine, further_of, has_room, is_full_value, restacked_part, with_top, without_top, activated_more, begun_again, outside_at, waits_at, released}

-- a test of a task's value; what is no task's passes
abbrev pub of_task : (Val → Bool) → PartValue → Bool
of_task f (OfTask v) = f v
of_task f (OfEvent b) = true
of_task f (OfAlarm b) = true
of_task f (OfSource v) = true

-- a test of what a task or a routine holds; what is neither's passes
abbrev pub of_stack : (List ResNo → Bool) → PartValue → Bool
of_stack f (OfTask v) = f (held_of v)
of_stack f (OfEvent b) = true
of_stack f (OfAlarm b) = true
of_stack f (OfSource v) = f (held_by_routine v)

abbrev pub is_none_of : ℕ → List ResNo → Bool
is_none_of m held = not (list_any (λ (r : ResNo). has_bit m r.0) held)

abbrev pub holds_nothing : Val → Bool
holds_nothing v = length (held_of v) == 0

-- Whether a value passes a test.
abbrev pub passes : Test → PartValue → Bool
passes (test.Is w) v = same_part v w
passes (test.IsNot w) v = not (same_part v w)
passes test.Suspended v = of_task is_suspended_value v
passes test.NotSuspended v = of_task (λ x. not (is_suspended_value x)) v
passes (test.Holds r) v = of_stack (λ h. holds h r.0) v
passes (test.HoldsNoneOf m) v = of_stack (is_none_of m.0) v
passes test.HoldsSome v = of_task (λ x. not (holds_nothing x)) v
passes test.HoldsNothing v = of_task holds_nothing v
passes (test.OnTop r) v = of_stack (is_on_top r.0) v
passes (test.NotOnTop r) v = of_stack (λ h. not (is_on_top r.0 h)) v
passes (test.Full n) v = of_task (is_full_value n) v
passes (test.Room n) v = of_task (has_room n) v
passes test.NoFurther v = of_task (λ x. further_of x == 0) v
passes test.SomeFurther v = of_task (λ x. not (further_of x == 0)) v
passes (test.WaitsAt r) v = of_task (waits_at r) v
passes (test.WaitsNotAt r) v = of_task (λ x. not (waits_at r x)) v

-- what becomes of a task's value; what is no task's stays
abbrev pub on_task : (Val → Val) → PartValue → PartValue
on_task f (OfTask v) = OfTask (f v)
on_task f (OfEvent x) = OfEvent x
on_task f (OfAlarm x) = OfAlarm x
on_task f (OfSource x) = OfSource x

abbrev pub updated : Update → PartValue → PartValue
updated (update.Set w) v = w
updated (update.Block b) v = restacked_part (λ h. h) b v
updated (update.Take r b) v = restacked_part (λ h. with_top h r) b v
updated (update.Give b) v = restacked_part without_top b v
updated update.More v = on_task activated_more v
updated (update.Again b) v = on_task (begun_again b) v
updated (update.Leave b) v = on_task (outside_at b) v
updated update.Inside v = on_task (inside_val true) v
updated (update.Release r) v = on_task (released r) v

-- What becomes of a value of component c: what the changes that name it say, one after another.
abbrev pub value_after : List Change → ℕ → PartValue → PartValue
value_after [] c v = v
value_after (x ∷ xs) c v = value_after xs c (if x.component.0 == c then updated x.update v else v)

-- the values of all components after the changes
abbrev pub values_after : List Change → (ℕ → PartValue) → ℕ → PartValue
values_after xs value c = value_after xs c (value c)

-- it is a condition on component c, and the value doesn't pass
abbrev pub is_failed : ℕ → PartValue → Condition → Bool
is_failed c v x = (x.component.0 == c) && not (passes x.test v)

-- the value passes each condition on component c
abbrev pub PassesAt : List Condition → ℕ → PartValue → Type 0
PassesAt xs c v = (x : Condition) → Contains xs x → x.component.0 ≡ c → IsTrue (passes x.test v)

-- each component's value passes each condition on it
abbrev pub PassesAll : App → List Condition → (ℕ → PartValue) → Type 0
PassesAll app xs value = (c : ℕ) → c < component_count app → PassesAt xs c (value c)
