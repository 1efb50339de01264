use Rattle.std.proofs.lemmas.Result.{on_ok_weaker}
use Rattle.state_flow.proofs.NumberedCells.{numbered_order, numbered_may, numbered_joined, numbered_after}
use Rattle.state_flow.proofs.numbered_cells.put_in.Goals as goal

pub join-requires-clause-order : goal.join-requires-clause-order
join-requires-clause-order c = numbered_order c.args.pool.now c.args.cells.now.list.items c.requires.cells.proper.order

pub join-requires-clause-may : goal.join-requires-clause-may
join-requires-clause-may c = numbered_may c.args.app.now c.args.pool.now c.args.cells.now.list.items c.args.point c.args.entry.now c.are_values.ensures c.requires.cells c.requires.known c.requires.proper

pub returns-clause-cells : goal.returns-clause-cells
returns-clause-cells c =
    on_ok_weaker c.join.result
    (λ joined. numbered_after c.args.app.now c.args.pool.now c.args.cells.now.list.items c.args.point c.args.entry.now c.are_values.ensures c.requires.cells c.requires.known c.requires.proper c.join.new.self.list.items joined) c.join.ensures

pub returns-clause-joined : goal.returns-clause-joined
returns-clause-joined c =
    on_ok_weaker c.join.result
    (λ joined. numbered_joined c.args.app.now c.args.pool.now c.args.cells.now.list.items c.args.point c.args.entry.now c.are_values.ensures c.requires.cells c.requires.known c.requires.proper c.join.new.self.list.items joined) c.join.ensures
