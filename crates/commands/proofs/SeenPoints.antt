-- What seeing a line of a record makes of a watch, and what is answered to it.
use Rattle.std.proofs.Common.{◌≡◌, ℕ, Bool, true, false, List, Option, Some, None, Ok, Err, refl, sym, ◌∙◌, ap, subst}
use Rattle.std.specs.{Prelude.{IfSome, is_some}, declared.result.Result.{Result}}
use Rattle.osek_standard.specs.{declared.{app.App.{App}, point.Point.{Point}}, Points.{IsPoint}}
use Rattle.trace_text.specs.{declared.fault.PointFault.{PointFault}, PointGrammar.{IsLineAnswer}, PointWords.{read_point_line}}
use Rattle.trace_text.proofs.PointAnswers.{said}
use Rattle.flow_watch.specs.{declared.alarm.Alarm.{Alarm}, Watches.{WatchState, may_come, with_point, seen_after, seen_by}}
use Rattle.command_runs.specs.declared.stop.Stop.{Stop}
use Rattle.command_runs.specs.declared.stop.Stop.TheVariants as stop
use Rattle.commands.specs.WatchedLines.{AnswersPoint, watched_line, watched_on}

-- a point that a line says is the application's
pub said_point : (app : App) (line : List ℕ) (p : Point) → read_point_line app line ≡ Ok (Some p) → IsPoint app p
said_point app line p is = (subst (IsLineAnswer app line) is (said app line)).property.property.0

module _ (w : WatchState) (p : Point) where
  app_by : (o : Option Alarm) (b : Bool) → may_come w w.last p ≡ b → (seen_after w p o).app ≡ w.app
  app_by (Some a) b e = refl
  app_by None true e = ap (λ (c : Bool). (with_point w p c).app) e
  app_by None false e = ap (λ (c : Bool). (with_point w p c).app) e

  pub same_app : (seen_by w p).app ≡ w.app
  same_app = app_by w.alarm (may_come w w.last p) refl

  -- the alarm that comes is that of the point
  alarm_by : w.alarm ≡ None → (b : Bool) → may_come w w.last p ≡ b → IfSome (seen_after w p None).alarm (λ a. a.point ≡ p)
  alarm_by none true e = subst (λ (o : Option Alarm). IfSome o (λ a. a.point ≡ p)) (sym (ap (λ (c : Bool). (with_point w p c).alarm) e ∙ none)) tt
  alarm_by none false e = subst (λ (o : Option Alarm). IfSome o (λ a. a.point ≡ p)) (sym (ap (λ (c : Bool). (with_point w p c).alarm) e)) refl

  pub alarm_of : w.alarm ≡ None → IfSome (seen_by w p).alarm (λ a. a.point ≡ p)
  alarm_of none = subst (λ (o : Option Alarm). IfSome (seen_after w p o).alarm (λ a. a.point ≡ p)) (sym none) (alarm_by none (may_come w w.last p) refl)

-- there is an alarm, or none
pub none_by : (o : Option Alarm) → is_some o ≡ false → o ≡ None
none_by None e = refl
none_by (Some a) e = absurd (cc e)

pub some_by : (o : Option Alarm) → is_some o ≡ true → ◌≡◌ {A = Result (Option Alarm) Stop} (Ok o) (Ok None) → ⊥
some_by None e same = absurd (cc e)
some_by (Some a) e same = absurd (cc same)

-- a fact of an alarm's point
pub at_alarm : (P : Point → Type 0) (p : Point) (o : Option Alarm) → P p → IfSome o (λ a. a.point ≡ p) → IfSome o (λ a. P a.point)
at_alarm P p None h is = tt
at_alarm P p (Some a) h is = subst P (sym is) h

module _ (w : WatchState) (n : ℕ) (r : Result (Option Point) PointFault) where
  pub nothing_said : r ≡ Ok None → AnswersPoint (λ more. watched_line w n more r) w (Ok None)
  nothing_said is = λ more. ap (watched_line w n more) is

  pub point_said : (p : Point) (v : WatchState) (o : Option Alarm) → r ≡ Ok (Some p) → v ≡ seen_by w p → o ≡ v.alarm → AnswersPoint (λ more. watched_line w n more r) v (Ok o)
  point_said p v None is same alarm = λ more. ap (watched_line w n more) is ∙ ap (λ (u : WatchState). watched_on u more u.alarm) (sym same) ∙ ap (watched_on v more) (sym alarm)
  point_said p v (Some a) is same alarm = λ more. ap (watched_line w n more) is ∙ ap (λ (u : WatchState). watched_on u more u.alarm) (sym same) ∙ ap (watched_on v more) (sym alarm)

  pub fault_said : (rule : PointFault) → r ≡ Err rule → AnswersPoint (λ more. watched_line w n more r) w (Err (stop.Record (record { line = n; rule = rule })))
  fault_said rule is = λ more. ap (watched_line w n more) is
