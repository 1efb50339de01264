use Rattle.std.proofs.Common.{inr, refl, codes}
use Rattle.command_runs.proofs.Prefixes.{prefix_of_proper}
use Rattle.commands.proofs.checking.print_yes.Goals as goal

pub returns-in-Err-Write : goal.returns-in-Err-Write
returns-in-Err-Write g c = λ shelf. inr (
  refl,
  (c.in-Err-Write.ensures.cause, prefix_of_proper (g.O.Sink.written c.args.out.now) (g.O.Sink.written c.put_all.new.sink) (codes "yes\n") c.in-Err-Write.ensures.prefix),
)
