use Rattle.std.proofs.Common.{ℕ, ◌≤◌, List, length, sym, subst}
use Rattle.oil_model.proofs.WithinLimits.{few_modes}
use Rattle.oil_model.proofs.modes.modes.Goals as goal

pub returns-clause-few : goal.returns-clause-few
returns-clause-few c = subst (λ (names : List (List ℕ)). length names ≤ 8) (sym c.in_ok-names.ensures) (few_modes c.args.objects.now c.requires)
