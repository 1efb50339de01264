-- a prefix of the first two pieces, or the third behind them
use Rattle.std.proofs.{Common.{◌++◌, sym, subst}, lemmas.Result.{err_from_is_err_and}}
use Rattle.osek_io.specs.Sunk.{sunk}
use Rattle.command_runs.specs.Telling.{TellsText}
use Rattle.command_runs.proofs.Prefixes.{told_by, told_first, told_behind}
use Rattle.command_runs.proofs.tell.put_three.Goals as goal

pub returns-in_err-put_two : goal.returns-in_err-put_two
returns-in_err-put_two g c =
    let p = err_from_is_err_and c.from_residual.result c.from_residual.ensures.1 in
    let old = sunk g.E.Sink c.args.err.now in
    let new = sunk g.E.Sink c.put_two.new.err in
    subst (TellsText old new (c.args.first.now ++ c.args.second.now ++ c.args.third.now)) (sym p.1)
    (told_first old new (c.args.first.now ++ c.args.second.now) c.args.third.now p.0 c.in_err-put_two.ensures)

pub returns : goal.returns
returns g c =
    let mid = sunk g.E.Sink c.put_two.new.err in
    let new = sunk g.E.Sink c.put_all.new.sink in
    told_behind (sunk g.E.Sink c.args.err.now) mid new (c.args.first.now ++ c.args.second.now) c.args.third.now c.put_all.result c.in_ok-put_two.ensures
    (told_by mid new c.args.third.now c.put_all.result c.put_all.ensures.ok c.put_all.ensures.no_fault c.put_all.ensures.prefix c.put_all.ensures.cause)
