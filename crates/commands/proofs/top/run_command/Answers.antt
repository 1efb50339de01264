-- the command, its answer, and that it is the one which is due
use Rattle.std.proofs.Common.{ℕ, List, refl, option_map, inl, Ok, Err}
use Rattle.std.specs.declared.{option.Option.{Option}, result.Result.{Result}}
use Rattle.commands.specs.Answering.{CommandAnswers, Tells}
use Rattle.osek_io.specs.Sunk.{sunk}
use Rattle.command_runs.specs.Outside.{outside}
use Rattle.commands.specs.{Seen.{seen}, Words.{Command}}
use Rattle.command_runs.specs.declared.stop.Stop.{Stop}
use Rattle.commands.proofs.{Commands.{does_of}, Exact.{exact_of}}
use Rattle.command_runs.proofs.GivenTexts.{grown-nil}
use Rattle.commands.proofs.top.run_command.Goals as goal

pub returns-in-Ok-clause-does : goal.returns-in-Ok-clause-does
returns-in-Ok-clause-does g c =
    does_of (option_map seen c.args.command.now) (option_map seen c.args.command.now) refl
    (λ (k : Option Command) (r : Result (Unit {0}) Stop). CommandAnswers
    (outside g.F.Shelf g.O.Sink c.args.shelf.now c.args.out.now)
    (outside g.F.Shelf g.O.Sink c.carry_out_words.new.shelf c.carry_out_words.new.out) k r)
    (λ (text : List ℕ) (status : ℕ). Tells (sunk g.E.Sink c.args.err.now) (sunk g.E.Sink c.args.err.now) text status 0)
    (Ok tt) c.in-Ok.ensures (inl (refl, (refl, grown-nil (g.E.Sink.written c.args.err.now))))

pub returns-in-Err-clause-does : goal.returns-in-Err-clause-does
returns-in-Err-clause-does g c =
    does_of (option_map seen c.args.command.now) (option_map seen c.args.command.now) refl
    (λ (k : Option Command) (r : Result (Unit {0}) Stop). CommandAnswers
    (outside g.F.Shelf g.O.Sink c.args.shelf.now c.args.out.now)
    (outside g.F.Shelf g.O.Sink c.carry_out_words.new.shelf c.carry_out_words.new.out) k r)
    (λ (text : List ℕ) (status : ℕ). Tells (sunk g.E.Sink c.args.err.now) (sunk g.E.Sink c.refuse.new.err) text status c.refuse.result)
    (Err c.in-Err.stop) c.in-Err.ensures c.refuse.ensures

pub returns-in-Ok-clause-exact : goal.returns-in-Ok-clause-exact
returns-in-Ok-clause-exact g c = λ files due told calm still is.
    exact_of files (g.F.Shelf.contents c.args.shelf.now) told
    (outside g.F.Shelf g.O.Sink c.carry_out_words.new.shelf c.carry_out_words.new.out)
    (g.F.Shelf.read_faults c.args.shelf.now) (g.F.Shelf.write_faults c.args.shelf.now) (sunk g.O.Sink c.args.out.now)
    (sunk g.E.Sink c.args.err.now) (sunk g.E.Sink c.args.err.now)
    (option_map seen c.args.command.now) 0 calm still due is (returns-in-Ok-clause-does g c)

pub returns-in-Err-clause-exact : goal.returns-in-Err-clause-exact
returns-in-Err-clause-exact g c = λ files due told calm still is.
    exact_of files (g.F.Shelf.contents c.args.shelf.now) told
    (outside g.F.Shelf g.O.Sink c.carry_out_words.new.shelf c.carry_out_words.new.out)
    (g.F.Shelf.read_faults c.args.shelf.now) (g.F.Shelf.write_faults c.args.shelf.now) (sunk g.O.Sink c.args.out.now)
    (sunk g.E.Sink c.args.err.now) (sunk g.E.Sink c.refuse.new.err)
    (option_map seen c.args.command.now) c.refuse.result calm still due is (returns-in-Err-clause-does g c)
