-- The rules by which routines begin, made once for each over whom they do.
use Rattle.std.specs.{Prelude.{◌≡◌, ℕ, ◌<◌, List, length, map, slice_index_or}, declared.option.Option.{Option}}
use Rattle.osek_values.specs.declared.numbers.{SourceNo.{SourceNo}, TaskNo.{TaskNo}}
use Rattle.osek_standard.specs.declared.{app.App.{App}, point.Point.{Point}}
use Rattle.flow_model.specs.declared.rule.Rule.{Rule}
use Rattle.flow_exits.specs.Arrivals.{arrival_rule, may_begin_over, AreArrivals}
use Rattle.point_exits.specs.declared.arrivals.ArrivalsOver.{ArrivalsOver}

-- the rules over a task or over none, where this routine runs or none
abbrev pub rules_over : App → Option TaskNo → Option SourceNo → List Rule
rules_over app over running = map (arrival_rule app over running) (may_begin_over app over running)

abbrev pub AreKnownArrivals : App → List ArrivalsOver → Type 0
AreKnownArrivals app known = (i : ℕ) (d : ArrivalsOver) → i < length known →
    (slice_index_or known i d).rules ≡ rules_over app (slice_index_or known i d).over (slice_index_or known i d).running

-- the ones at a place are over these
pub record IsOver (over : Option TaskNo) (running : Option SourceNo) (known : List ArrivalsOver) (i : ℕ) : Type 0 where
  pub listed : i < length known
  pub over_is : (d : ArrivalsOver) → (slice_index_or known i d).over ≡ over
  pub running_is : (d : ArrivalsOver) → (slice_index_or known i d).running ≡ running

-- the ones at a place are those of the point
pub record AreArrivalsAt (app : App) (p : Point) (known : List ArrivalsOver) (i : ℕ) : Type 0 where
  pub listed : i < length known
  pub are : (d : ArrivalsOver) → AreArrivals app p (slice_index_or known i d).rules
