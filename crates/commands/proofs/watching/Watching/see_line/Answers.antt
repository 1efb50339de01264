-- a line without a point, with one that was seen, or a faulty one
use Rattle.std.proofs.Common.{◌≡◌, ℕ, List, Option, Ok, Err, sym, ◌∙◌, ap, subst}
use Rattle.std.specs.{Prelude.{IfSome}, declared.result.Result.{Result}}
use Rattle.osek_standard.specs.{declared.{app.App.{App}, point.Point.{Point}}, Points.{IsPoint}}
use Rattle.trace_text.specs.{declared.fault.PointFault.{PointFault}, PointWords.{read_point_line}}
use Rattle.flow_watch.specs.{declared.alarm.Alarm.{Alarm}, Watches.{WatchState}}
use Rattle.commands.proofs.SeenPoints.{said_point, same_app, alarm_of, at_alarm, nothing_said, point_said, fault_said}
use Rattle.commands.proofs.watching.Watching.see_line.Goals as goal

read_is : (seen app : App) (line : List ℕ) (o e : Option Point) → ◌≡◌ {A = Result (Option Point) PointFault} (Ok o) (read_point_line seen line) → seen ≡ app → o ≡ e → read_point_line app line ≡ Ok e
read_is seen app line o e is same known = subst (λ (x : App). read_point_line x line ≡ Ok e) same (sym is ∙ ap (λ (x : Option Point). Ok x) known)

pub returns-in-Ok-None-clause-line : goal.returns-in-Ok-None-clause-line
returns-in-Ok-None-clause-line c =
    let w = c.args.self.now.watch in
    nothing_said w c.args.self.now.line _ (read_is c.app.result.now w.app c.args.line.now c.in-Ok-None.field-0 _ c.in-Ok-None.ensures c.app.ensures c.in-Ok-None.field-0-is)

pub returns-in-Ok-Some-clause-line : goal.returns-in-Ok-Some-clause-line
returns-in-Ok-Some-clause-line c =
    let w = c.args.self.now.watch in
    let is = read_is c.app.result.now w.app c.args.line.now c.in-Ok-Some.field-0 _ c.in-Ok-Some.ensures c.app.ensures c.in-Ok-Some.field-0-is in
    point_said w c.args.self.now.line _ c.in-Ok-Some.point c.see.new.self c.see.result is c.see.ensures.watch c.see.ensures.alarm

pub returns-in-Ok-Some-clause-app : goal.returns-in-Ok-Some-clause-app
returns-in-Ok-Some-clause-app c = ap (λ (v : WatchState). v.app) c.see.ensures.watch ∙ same_app c.args.self.now.watch c.in-Ok-Some.point

pub returns-in-Ok-Some-clause-point : goal.returns-in-Ok-Some-clause-point
returns-in-Ok-Some-clause-point c =
    let w = c.args.self.now.watch in
    let p = c.in-Ok-Some.point in
    let is = read_is c.app.result.now w.app c.args.line.now c.in-Ok-Some.field-0 _ c.in-Ok-Some.ensures c.app.ensures c.in-Ok-Some.field-0-is in
    let answered = c.see.ensures.alarm ∙ ap (λ (v : WatchState). v.alarm) c.see.ensures.watch in
    at_alarm (IsPoint w.app) p c.see.result (said_point w.app c.args.line.now p is) (subst (λ (o : Option Alarm). IfSome o (λ a. a.point ≡ p)) (sym answered) (alarm_of w p c.requires.none))

pub returns-in-Err-clause-line : goal.returns-in-Err-clause-line
returns-in-Err-clause-line c =
    let w = c.args.self.now.watch in
    let is : read_point_line w.app c.args.line.now ≡ Err c.in-Err.rule = subst (λ (a : App). read_point_line a c.args.line.now ≡ Err c.in-Err.rule) c.app.ensures (sym c.in-Err.ensures) in
    fault_said w c.args.self.now.line _ c.in-Err.rule is
