-- who runs was taken in where it may be another priority
use Rattle.std.proofs.{Common.{refl, sym, ◌∙◌, ap, inl, inr}, lemmas.Bool.{cases_Bool}}
use Rattle.std.specs.declared.option.Option.{Option}
use Rattle.osek_values.specs.declared.numbers.TaskNo.{TaskNo}
use Rattle.osek_standard.specs.States.{is_that_task}
use Rattle.generic_kernel.proofs.inside.take_in_running.Goals as goal

pub returns : goal.returns
returns c s ready keeps u =
    let running = c.task_inside-running.result in
    elim (cases_Bool (is_that_task running u)) [
      | inl e ↦ c.take_in.ensures.here u (rw e refl)
      | inr e ↦ c.take_in.ensures.others u e refl ∙ ready u ∙ sym (keeps u (ap (λ (o : Option TaskNo). is_that_task o u) (sym c.task_inside-running.ensures.is) ∙ e))
    ]
