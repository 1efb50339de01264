-- the command that the words are, its answer, and that it is the one which is due
use Rattle.std.proofs.Common.{ℕ, List, sym, subst, map, Global, Err}
use Rattle.std.specs.{String.{string_bytes}, declared.option.Option.{Option}}
use Rattle.commands.specs.{Answering.{CommandAnswers, Does, Tells}, Due.{IsDue}}
use Rattle.osek_io.specs.Sunk.{sunk}
use Rattle.command_runs.specs.Outside.{outside}
use Rattle.commands.specs.Words.{Command, command_of}
use Rattle.command_runs.specs.declared.stop.Stop.TheVariants as stop
use Rattle.commands.proofs.{Exact.{exact_of}, WantOfMemory.{memory_answers}}
use Rattle.commands.proofs.top.osekfit.Goals as goal

pub returns-in-Ok-clause-does : goal.returns-in-Ok-clause-does
returns-in-Ok-clause-does g c =
    subst (λ (k : Option Command). Does k
    (CommandAnswers (outside g.F.Shelf g.O.Sink c.args.shelf.now c.args.out.now) (outside g.F.Shelf g.O.Sink c.run_command.new.shelf c.run_command.new.out) k)
    (λ (text : List ℕ) (status : ℕ). Tells (sunk g.E.Sink c.args.err.now) (sunk g.E.Sink c.run_command.new.err) text status c.run_command.result))
    c.in-Ok.ensures c.run_command.ensures.does

pub returns-in-Ok-clause-exact : goal.returns-in-Ok-clause-exact
returns-in-Ok-clause-exact g c = λ files due told calm still is.
    c.run_command.ensures.exact files due told calm still (subst (λ (k : Option Command). IsDue files k due) (sym c.in-Ok.ensures) is)

pub returns-in-Err-clause-does : goal.returns-in-Err-clause-does
returns-in-Err-clause-does g c = record {
  answer = Err stop.Memory;
  does = memory_answers (outside g.F.Shelf g.O.Sink c.args.shelf.now c.args.out.now) (command_of (map (string_bytes {Z = Global}) c.args.words.now));
  told = c.refuse.ensures;
}

pub returns-in-Err-clause-exact : goal.returns-in-Err-clause-exact
returns-in-Err-clause-exact g c = λ files due told calm still is.
    exact_of files (g.F.Shelf.contents c.args.shelf.now) told
    (outside g.F.Shelf g.O.Sink c.args.shelf.now c.args.out.now)
    (g.F.Shelf.read_faults c.args.shelf.now) (g.F.Shelf.write_faults c.args.shelf.now) (sunk g.O.Sink c.args.out.now)
    (sunk g.E.Sink c.args.err.now) (sunk g.E.Sink c.refuse.new.err)
    (command_of (map (string_bytes {Z = Global}) c.args.words.now)) c.refuse.result calm still due is (returns-in-Err-clause-does g c)
