-- the source is in the table, and its arrival keeps the state well-formed
use Rattle.std.proofs.Common.{sym, subst, arith}
use Rattle.osek_standard.specs.Well.{Well}
use Rattle.osek_standard.proofs.{ArrivalLaws.{arrival_is, latched_known}, RoutineKeeps.{arrival_keeps}}
use Rattle.generic_kernel.proofs.arrivals.take_arrival.Goals as goal

pub enter-requires-clause-known : goal.enter-requires-clause-known
enter-requires-clause-known c =
    let app = c.args.app.now in
    let s = c.args.state.now in
    omega (arith, latched_known s c.in-Some.source.0 (arrival_is app s c.in-Some.source (sym c.in-Some.ensures)).latched, c.requires.latched_len)

pub returns-clause-well : goal.returns-clause-well
returns-clause-well c =
    subst (Well c.args.app.now) c.enter.ensures (arrival_keeps c.args.app.now c.args.state.now c.in-Some.source c.requires (sym c.in-Some.ensures))
