-- Points at which nobody executes an instruction, and what the rules of arrivals show.
use Rattle.std.proofs.Common.{◌≡◌, ℕ, List, sym, subst}
use Rattle.osek_standard.specs.declared.{app.App.{App}, point.Point.{Point}, state.{State.{State}, Processor.{Processor}}}
use Rattle.osek_standard.specs.declared.state.Processor.TheVariants as processor
use Rattle.osek_standard.specs.{Points.{point_at, IsPoint}, States.{place_by}, Well.{IsActive}}
use Rattle.abstract_state.specs.{declared.{value.PartValue.{PartValue}, table.PlainEntry.{PlainEntry}}, Concrete.{AreAllowed}}
use Rattle.flow_model.specs.{declared.rule.Rule.{Rule}, Runners.{IsNobodys}, Effects.{AreIn, AreAllAllowed}, Rules.{Exact}}
use Rattle.flow_exits.specs.Arrivals.{AreArrivals}
use Rattle.flow_exits.proofs.Arriving.{arrival_shown}

pub passive_by : (s : State) (x : Processor) (p : Point) → point_at (place_by s x).block x ≡ p → IsNobodys p → IsActive x → ⊥
passive_by s processor.Halted p e h a = a
passive_by s processor.Idle p e h a = a
passive_by s (processor.Running t) p e h a = subst IsNobodys (sym e) h
passive_by s (processor.Interrupted k over) p e h a = subst IsNobodys (sym e) h

module _ (app : App) (p : Point) (entry : PlainEntry) where
  pub allowed_values : AreAllAllowed app p entry → (value : ℕ → PartValue) → AreIn app entry value → AreAllowed app p value
  allowed_values allowed value within c lt = allowed c (value c) lt (within c lt)

  pub passive_exact : (arrivals : List Rule) → AreArrivals app p arrivals → IsPoint app p → AreAllAllowed app p entry → Exact app p entry arrivals
  passive_exact arrivals a is allowed rule value m within passes = arrival_shown app p rule value is (allowed_values allowed value within) (a.each rule m) passes
