-- The source of an ISR: the counters come first.
use Rattle.std.proofs.{Common.{◌≡◌, ℕ, ◌+◌, ◌<◌, length, false, arith}, lemmas.Bool.Decides.{nat_tests}}
use Rattle.osek_standard.specs.{declared.app.App.{App}, Apps.{is_counter, source_count}}

pub source_known : (app : App) (i : ℕ) → i < length app.isrs → length app.counters + i < source_count app
source_known app i known = omega (arith, known)

pub no_counter : (app : App) (i : ℕ) → is_counter app (length app.counters + i) ≡ false
no_counter app i = grind (arith, nat_tests)
