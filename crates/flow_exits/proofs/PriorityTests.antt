-- Tests of values say whether a task is below a limit.
use Rattle.std.proofs.{Common.{◌≡◌, ℕ, ◌<◌, true, refl, arith}, lemmas.Bool.Decides.{nat_tests}}
use Rattle.osek_standard.specs.declared.app.App.{App}
use Rattle.abstract_state.specs.declared.value.Val.{Val, TheVariants.{Suspended, Live, Waiting}}
use Rattle.flow_model.specs.Values.{is_live_value, value_priority}
use Rattle.flow_exits.specs.Claims.{is_below}

-- what the test of a limit says
module _ (app : App) (u limit : ℕ) where
  pub below_means : (v : Val) → is_below app u limit v ≡ true → is_live_value v ≡ true → value_priority app u v < limit
  below_means Suspended e live = absurd (cc)
  below_means (Live x) e live = grind (arith, nat_tests)
  below_means (Waiting b) e live = absurd (cc)

  pub below_passes : (v : Val) → (is_live_value v ≡ true → value_priority app u v < limit) → is_below app u limit v ≡ true
  below_passes Suspended h = refl
  below_passes (Live x) h = let less = h refl in grind (arith, nat_tests)
  below_passes (Waiting b) h = refl
