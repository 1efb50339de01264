use Rattle.std.proofs.Common.{ℕ, ◌≤◌, sym, subst}
use Rattle.oil_model.proofs.WithinLimits.{task_number}
use Rattle.oil_model.proofs.alarms.task_named.Goals as goal

pub narrow_number-requires : goal.narrow_number-requires
narrow_number-requires c = subst (λ (n : ℕ). n ≤ 255) (sym c.number_of.ensures) (task_number c.args.objects.now c.args.name.now c.requires)
