-- a prefix of the file and the place, or the rule behind them
use Rattle.std.proofs.{Common.{◌++◌, codes, sym, subst}, lemmas.Result.{err_from_is_err_and}}
use Rattle.std.specs.Fmt.{decimal}
use Rattle.osek_io.specs.Sunk.{sunk}
use Rattle.command_runs.specs.Telling.{TellsText, fault_text}
use Rattle.command_runs.proofs.Prefixes.{told_first, told_behind}
use Rattle.command_runs.proofs.tell.tell_fault.Goals as goal

pub returns-in_err-put_place : goal.returns-in_err-put_place
returns-in_err-put_place g c =
    let p = err_from_is_err_and c.from_residual.result c.from_residual.ensures.1 in
    let old = sunk g.E.Sink c.args.err.now in
    let new = sunk g.E.Sink c.put_place.new.err in
    subst (TellsText old new (fault_text c.args.file.now c.args.place c.args.rule.now)) (sym p.1)
    (told_first old new (c.args.file.now ++ codes ":" ++ decimal c.args.place) (codes ": " ++ c.args.rule.now ++ codes "\n") p.0 c.in_err-put_place.ensures)

pub returns : goal.returns
returns g c =
    told_behind (sunk g.E.Sink c.args.err.now) (sunk g.E.Sink c.put_place.new.err) (sunk g.E.Sink c.put_three.new.err)
    (c.args.file.now ++ codes ":" ++ decimal c.args.place) (codes ": " ++ c.args.rule.now ++ codes "\n") c.put_three.result c.in_ok-put_place.ensures c.put_three.ensures
