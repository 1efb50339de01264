-- a prefix of the first piece, or the second behind it
use Rattle.std.proofs.{Common.{◌++◌, sym, subst}, lemmas.Result.{err_from_is_err_and}}
use Rattle.osek_io.specs.Sunk.{sunk}
use Rattle.command_runs.specs.Telling.{TellsText}
use Rattle.command_runs.proofs.Prefixes.{prefix_of_proper, told_by, told_first, told_behind}
use Rattle.command_runs.proofs.tell.put_two.Goals as goal

pub returns-in_err-put_all : goal.returns-in_err-put_all
returns-in_err-put_all g c =
    let p = err_from_is_err_and c.from_residual.result c.from_residual.ensures.1 in
    let old = sunk g.E.Sink c.args.err.now in
    let new = sunk g.E.Sink c.put_all.new.sink in
    subst (TellsText old new (c.args.first.now ++ c.args.second.now)) (sym p.1)
    (told_first old new c.args.first.now c.args.second.now p.0 (c.in_err-put_all.ensures.cause, prefix_of_proper old.written new.written c.args.first.now c.in_err-put_all.ensures.prefix))

pub returns : goal.returns
returns g c =
    let mid = sunk g.E.Sink c.put_all.new.sink in
    let new = sunk g.E.Sink c.put_all-2.new.sink in
    told_behind (sunk g.E.Sink c.args.err.now) mid new c.args.first.now c.args.second.now c.put_all-2.result (c.in_ok-put_all.ensures.no_fault, c.in_ok-put_all.ensures.ok)
    (told_by mid new c.args.second.now c.put_all-2.result c.put_all-2.ensures.ok c.put_all-2.ensures.no_fault c.put_all-2.ensures.prefix c.put_all-2.ensures.cause)
