-- the words before the point, or a prefix of them, and the point behind them
use Rattle.std.proofs.{Common.{◌≡◌, ℕ, List, ◌++◌, take, sym, ◌∙◌, subst, codes, Err}, lemmas.Result.{err_from_is_err_and}}
use Rattle.std.specs.Fmt.{decimal}
use Rattle.trace_text.specs.PointTexts.{point_text}
use Rattle.osek_io.specs.Sunk.{sunk, Writes}
use Rattle.command_runs.specs.Telling.{TellsText}
use Rattle.command_runs.proofs.Prefixes.{told_first, told_behind}
use Rattle.commands.specs.Watching.{alarm_line}
use Rattle.commands.proofs.watching.print_alarm.Goals as goal

pub returns-in_err-put_three : goal.returns-in_err-put_three
returns-in_err-put_three g c =
    let p = err_from_is_err_and c.from_residual.result c.from_residual.ensures.1 in
    let old = sunk g.O.Sink c.args.out.now in
    let mid = sunk g.O.Sink c.put_three.new.err in
    let place : c.as_bytes.result.now ≡ decimal c.args.alarm.place = c.as_bytes.ensures.value ∙ c.format.ensures.text in
    subst (TellsText old mid (alarm_line c.args.app.now c.args.alarm)) (sym p.1)
    (told_first old mid (codes "alarm " ++ decimal c.args.alarm.place ++ codes " ") (point_text c.args.app.now c.args.alarm.point ++ codes "\n") p.0
    (subst (λ (xs : List ℕ). TellsText old mid (codes "alarm " ++ xs ++ codes " ") (Err p.0)) place c.in_err-put_three.ensures))

pub returns : goal.returns
returns g c =
    let old = sunk g.O.Sink c.args.out.now in
    let mid = sunk g.O.Sink c.put_three.new.err in
    let new = sunk g.O.Sink c.put_two.new.err in
    let place : c.as_bytes.result.now ≡ decimal c.args.alarm.place = c.as_bytes.ensures.value ∙ c.format.ensures.text in
    let point : take c.put_point-size.result c.put_point-size.new.buf ≡ point_text c.args.app.now c.args.alarm.point = c.put_point-size.ensures.text in
    told_behind old mid new (codes "alarm " ++ decimal c.args.alarm.place ++ codes " ") (point_text c.args.app.now c.args.alarm.point ++ codes "\n") c.put_two.result
    (subst (λ (xs : List ℕ). Writes old mid (codes "alarm " ++ xs ++ codes " ")) place c.in_ok-put_three.ensures)
    (subst (λ (xs : List ℕ). TellsText mid new (xs ++ codes "\n") c.put_two.result) point c.put_two.ensures)
