use Rattle.std.proofs.Common.{◌≡◌, Bool, true, refl, subst, ◌∙◌, Some}
use Rattle.std.proofs.lemmas.Bool.{false≢true}
use Rattle.osek_values.specs.declared.numbers.{SourceNo.{SourceNo}, TaskNo.{TaskNo}}
use Rattle.osek_standard.specs.declared.{app.App.{App}, state.{State.{State}, Processor.{Processor}}}
use Rattle.osek_standard.specs.{Dispatch.{instruction}, States.{is_interrupted, task_of}}
use Rattle.osek_standard.specs.declared.state.Processor.TheVariants as processor
use Rattle.kernel_guarantees.specs.{Nesting.{IsDuring, IsEndOf, StandsAsIn}, Reached.{IsReached}}
use Rattle.kernel_guarantees.proofs.{InsideFlags.{stands_as_in}, LastIn.{IsUnder, stays_under}, LockedSteps.{entered_is_reached}, Nesting.{reached_is_nested}}
use Rattle.kernel_guarantees.proofs.{Reaching.{after_is_reached, reached_is_well}, RoutineEnds.{to_idle, to_routine, to_task}}
use Rattle.kernel_guarantees.proofs.interrupts.what_was_interrupted_goes_on.Goals as goal

module _ (app : App) (s n : State) (k : SourceNo) (reached : IsReached app s) (d : IsDuring app s k n) where
  later : IsReached app n
  later = subst (IsReached app) d.comes (after_is_reached app _ d.events (entered_is_reached app s k reached d.arrives))

  under : IsUnder app s k d.arrives n
  under = subst (IsUnder app s k d.arrives) d.comes (stays_under app s k d.arrives d.events (entered_is_reached app s k reached d.arrives) d.stays)

  stands : (t : TaskNo) → task_of s.processor ≡ Some t → StandsAsIn s n t.0
  stands t now = stands_as_in app s n t reached later now (under.current ∙ now) (under.stands t now)

  module _ (e : IsEndOf app n k) (choice : Bool) where
    back : (p : Processor) → s.processor ≡ p → is_interrupted p ≡ true → (instruction app n choice).state.processor ≡ s.processor
    back processor.Halted f h = absurd (false≢true h)
    back processor.Idle f h = absurd (false≢true h)
    back (processor.Running t) f h = absurd (false≢true h)
    back (processor.Interrupted j o) f h =
        to_routine app s k d.arrives (reached_is_nested app s reached) (reached_is_well app s reached) n (reached_is_nested app n later) under e.over e.runs choice e.ends j o f

pub returns : goal.returns
returns c = record {
  routines = λ app s n k l reached d inside. (under app s n k reached d).below l inside;
  current = λ app s n k reached d. (under app s n k reached d).current;
  task = λ app s n k t reached d now. stands app s n k reached d t now;
  to_routine = λ app s n k choice reached d e on. back app s n k reached d e choice s.processor refl on;
  to_task = λ app s n k t choice reached d e on. to_task app s k d.arrives (reached_is_nested app s reached) (reached_is_well app s reached) n
      (reached_is_nested app n (later app s n k reached d)) (under app s n k reached d) e.over e.runs choice e.ends t on;
  to_idle = λ app s n k choice reached d e on. to_idle app s k d.arrives (reached_is_nested app s reached) (reached_is_well app s reached) n
      (reached_is_nested app n (later app s n k reached d)) (under app s n k reached d) e.over e.runs choice e.ends on;
}
