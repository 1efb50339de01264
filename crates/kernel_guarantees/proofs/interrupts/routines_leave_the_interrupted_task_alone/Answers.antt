use Rattle.std.proofs.Common.{◌≡◌, true, refl, sym, ap, ◌∙◌, Some}
use Rattle.std.proofs.lemmas.Bool.{false≢true}
use Rattle.osek_values.specs.declared.{event.Event.{Event}, numbers.TaskNo.{TaskNo}}
use Rattle.osek_standard.specs.declared.{app.App.{App}, state.{State.{State}, Processor.{Processor}}}
use Rattle.osek_standard.specs.{Kernel.{step}, States.{is_interrupted, task_of}}
use Rattle.osek_standard.specs.declared.state.Processor.TheVariants as processor
use Rattle.kernel_guarantees.specs.{Nesting.{StandsAsIn}, Reached.{IsReached}}
use Rattle.kernel_guarantees.proofs.{InsideFlags.{stands_as_in}, LastIn.{step_last, step_over, step_stands}, Reaching.{reached_is_well, step_is_reached}}
use Rattle.kernel_guarantees.proofs.interrupts.routines_leave_the_interrupted_task_alone.Goals as goal

module _ (app : App) (s : State) (reached : IsReached app s) (e : Event) (still : is_interrupted (step app s e).state.processor ≡ true) where
  same : (p : Processor) → s.processor ≡ p → is_interrupted p ≡ true → task_of (step app s e).state.processor ≡ task_of s.processor
  same processor.Halted f h = absurd (false≢true h)
  same processor.Idle f h = absurd (false≢true h)
  same (processor.Running t) f h = absurd (false≢true h)
  same (processor.Interrupted k over) f h = step_over app s (reached_is_well app s reached) k over f e still ∙ sym (ap task_of f)

  stands : (t : TaskNo) (p : Processor) → s.processor ≡ p → is_interrupted p ≡ true → task_of s.processor ≡ Some t → StandsAsIn s (step app s e).state t.0
  stands t processor.Halted f h now = absurd (false≢true h)
  stands t processor.Idle f h now = absurd (false≢true h)
  stands t (processor.Running u) f h now = absurd (false≢true h)
  stands t (processor.Interrupted k over) f h now = stands_as_in app s (step app s e).state t reached (step_is_reached app s e reached) now (same s.processor refl (ap is_interrupted f) ∙ now)
      (step_stands app s (reached_is_well app s reached) k t (f ∙ ap (processor.Interrupted k) (sym (ap task_of f) ∙ now)) e)

pub returns : goal.returns
returns c = record {
  current = λ app s e reached on still. same app s reached e still s.processor refl on;
  task = λ app s e t reached on still now. stands app s reached e still t s.processor refl on now;
  last = λ app s e k over reached runs left. step_last app s (reached_is_well app s reached) k over runs e left;
}
