-- The rules by which routines begin, kept by whom they begin over.
use Rattle.std.proofs.Common.{◌≡◌, ℕ, List, [], get_or, sym, ap₂, subst, ◌∙◌, arith, None}
use Rattle.std.specs.declared.option.Option.{Option}
use Rattle.osek_values.specs.declared.numbers.{SourceNo.{SourceNo}, TaskNo.{TaskNo}}
use Rattle.osek_standard.specs.declared.{app.App.{App}, point.Point.{Point}}
use Rattle.flow_model.specs.declared.rule.Rule.{Rule}
use Rattle.flow_exits.specs.Arrivals.{AreArrivals}
use Rattle.point_exits.specs.{declared.arrivals.ArrivalsOver.{ArrivalsOver}, Arrivals.{AreKnownArrivals, IsOver, AreArrivalsAt, rules_over}}

pub no_arrivals : (app : App) → AreKnownArrivals app []
no_arrivals app i d lt = absurd (omega (arith, lt))

-- the ones over whom routines begin at a point are those of the point
pub arrivals_at : (app : App) (p q : Point) (over : Option TaskNo) (running : Option SourceNo) (known : List ArrivalsOver) (i : ℕ) → p ≡ q → AreKnownArrivals app known →
    IsOver over running known i → AreArrivals app q (rules_over app over running) → AreArrivalsAt app p known i
arrivals_at app p q over running known i same h at are = record {
  listed = at.listed;
  are = λ d. subst (λ (o : Point). AreArrivals app o (get_or known i d).rules) (sym same) (subst (AreArrivals app q) (sym (h i d at.listed ∙ ap₂ (rules_over app) (at.over_is d) (at.running_is d))) are);
}

-- so are the rules that are read there
pub rules_at : (app : App) (p : Point) (known : List ArrivalsOver) (i : ℕ) (rules : List Rule) → AreArrivalsAt app p known i → ((d : ArrivalsOver) → (get_or known i d).rules ≡ rules) → AreArrivals app p rules
rules_at app p known i rules h is = (let none : ArrivalsOver = record { over = None; running = None; rules = [] } in subst (AreArrivals app p) (is none) (h.are none))
