-- Whether the task that runs or is interrupted is inside: always where it names an INTERNAL resource.
use Rattle.std.proofs.Common.{◌≡◌, true, refl, sym, ◌∙◌, ap, Some}
use Rattle.std.proofs.lemmas.Bool.{eq-eqb}
use Rattle.std.specs.declared.option.Option.{Option}
use Rattle.osek_values.specs.declared.numbers.{TaskNo.{TaskNo}}
use Rattle.osek_standard.specs.declared.{app.App.{App}, state.State.{State}}
use Rattle.osek_standard.specs.{States.{is_that_task, task_of}, Internal.{IsInside}}
use Rattle.osek_standard.proofs.InsideLaws.{start_inside, step_inside}
use Rattle.kernel_guarantees.specs.{Nesting.{StandsAsIn}, Reached.{IsReached}}
use Rattle.kernel_guarantees.proofs.{LastIn.{StandsAs}, Reaching.{reached_has}}

module _ (app : App) where
  pub reached_is_inside : (s : State) → IsReached app s → IsInside app s
  reached_is_inside s r = reached_has app (IsInside app) (start_inside app) (λ n e w h. step_inside app n e w h) s r

  is_current : (s : State) (t : TaskNo) → task_of s.processor ≡ Some t → is_that_task (task_of s.processor) t.0 ≡ true
  is_current s t e = ap (λ (o : Option TaskNo). is_that_task o t.0) e ∙ eq-eqb t.0 t.0 refl

  -- so it is the same in each state where it is current
  pub stands_as_in : (s n : State) (t : TaskNo) → IsReached app s → IsReached app n → task_of s.processor ≡ Some t → task_of n.processor ≡ Some t → StandsAs app n s t.0 → StandsAsIn s n t.0
  stands_as_in s n t before later e f h = record {
    place = h.0;
    resources = h.1;
    inside = (reached_is_inside n later).current t.0 (is_current n t f) ∙ sym ((reached_is_inside s before).current t.0 (is_current s t e));
  }
