-- all of the text was told, or not all
use Rattle.std.proofs.Common.{refl, inl, inr, subst, Ok}
use Rattle.osek_io.specs.Sunk.{sunk}
use Rattle.command_runs.specs.Telling.{TellsText, Breaks}
use Rattle.commands.specs.{Names.{Names}, Statuses.{stop_text}}
use Rattle.commands.proofs.telling.refuse.Goals as goal

pub returns-in-Ok : goal.returns-in-Ok
returns-in-Ok g c =
    inl (c.status.ensures, subst (λ (n : Names). TellsText (sunk g.E.Sink c.args.err.now) (sunk g.E.Sink c.tell_stop.new.err) (stop_text n c.args.stop.now) (Ok tt)) c.names_of-names.ensures c.in-Ok.ensures)

pub returns-in-Err-Write : goal.returns-in-Err-Write
returns-in-Err-Write g c =
    inr (refl, subst (λ (n : Names). Breaks (sunk g.E.Sink c.args.err.now) (sunk g.E.Sink c.tell_stop.new.err) (stop_text n c.args.stop.now)) c.names_of-names.ensures c.in-Err-Write.ensures)
