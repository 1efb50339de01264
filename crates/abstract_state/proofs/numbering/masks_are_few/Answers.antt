use Rattle.std.proofs.{Common.{ℕ, ◌≡◌, ◌<◌, ◌^◌, get_or, sym, subst, inl, inr, arith}, lemmas.Bool.{cases_lt}}
use Rattle.osek_standard.specs.declared.objects.Task.{Task}
use Rattle.abstract_state.proofs.numbering.masks_are_few.Goals as goal

pub loop-task-preserved : goal.loop-task-preserved
loop-task-preserved c = λ k d lt. elim (cases_lt k c.loop-task.task) [
  | inl below ↦ c.loop-task.invariant k d below
  | inr above ↦
      (let same : c.loop-task.task ≡ k = omega (arith, above, lt) in
      subst (λ (i : ℕ). (get_or c.args.app.now.tasks i d).own.0 < 2 ^ 64) same (subst (λ (x : Task). x.own.0 < 2 ^ 64) (sym (c.at.ensures.item d)) c.fits.ensures))
]
