use Rattle.std.proofs.Common.{ℕ, ◌≤◌, sym, subst}
use Rattle.oil_model.proofs.WithinLimits.{counter_number}
use Rattle.oil_model.proofs.alarms.counter_named.Goals as goal

pub narrow_number-requires : goal.narrow_number-requires
narrow_number-requires c = subst (λ (n : ℕ). n ≤ 255) (sym c.number_of.ensures) (counter_number c.args.objects.now c.args.name.now c.requires)
