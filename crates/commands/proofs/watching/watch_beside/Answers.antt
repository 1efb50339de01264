-- memory ran out before the record was read, or what was seen of it was printed
use Rattle.std.proofs.Common.{refl, inl}
use Rattle.command_runs.specs.{Inputs.{no_memory}, Outside.{outside}}
use Rattle.commands.proofs.WatchEnds.{beside_record}
use Rattle.commands.proofs.watching.watch_beside.Goals as goal

pub returns-in_default-clause-answer : goal.returns-in_default-clause-answer
returns-in_default-clause-answer g c = inl (_, refl, no_memory, refl)

pub returns-in_default-new-clause-answer : goal.returns-in_default-new-clause-answer
returns-in_default-new-clause-answer g c = inl (_, refl, no_memory, refl)

pub returns-clause-answer : goal.returns-clause-answer
returns-clause-answer g c =
    let before = outside g.F.Shelf g.O.Sink c.args.shelf.now c.args.out.now in
    let after = outside g.F.Shelf g.O.Sink c.see_record-end.new.shelf c.print_end-printed.new.out in
    beside_record before after c.args.points.now c.args.app c.in-Ok.watch c.see_record-end.new.self.watch c.see_record-end.result c.print_end-printed.result c.in-Ok.ensures c.see_record-end.ensures.answer
    c.print_end-printed.ensures.end c.print_end-printed.ensures.stop
