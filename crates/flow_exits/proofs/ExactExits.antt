-- An exit that is exact has a value in each of its sets, and some step ends by it.
use Rattle.std.proofs.Common.{ℕ, ◌<◌, false, IsTrue, inl, inr, arith}
use Rattle.std.proofs.lemmas.Bool.{cases_lt}
use Rattle.osek_standard.specs.declared.{app.App.{App}, point.Point.{Point}}
use Rattle.abstract_state.specs.{declared.{value.PartValue.{PartValue, TheVariants.{OfAlarm}}, table.PlainEntry.{PlainEntry}}, Components.{component_count}, Tables.{set_at, is_member}}
use Rattle.flow_exits.specs.{declared.exit.Exit.{Exit}, Exits.{IsStepTo, IsFilled, IsExact}}

-- a value of each set
pub some_value : (app : App) (entry : PlainEntry) → IsFilled app entry → (c : ℕ) → (v : PartValue) × (c < component_count app → IsTrue (is_member (set_at entry c) v))
some_value app entry filled c = elim (cases_lt c (component_count app)) [
  | inl below ↦ (let some = filled c below in (some.value, λ lt. some.member))
  | inr above ↦ (OfAlarm false, λ lt. absurd (omega (arith, lt, above)))
]

-- a step by an exit
pub some_step : (app : App) (p : Point) (entry : PlainEntry) (x : Exit) (exact : IsExact app p entry x) → IsStepTo app p entry x (λ c. (some_value app x.entry exact.filled c).0)
some_step app p entry x exact = exact.shown (λ c. (some_value app x.entry exact.filled c).0) (λ c lt. (some_value app x.entry exact.filled c).1 lt)
