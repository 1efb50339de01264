use Rattle.std.proofs.Common.{sym, subst, Some}
use Rattle.flow_effects.specs.KnownWaits.{AreKnownWaits}
use Rattle.flow_effects.proofs.KeptConditions.{known_with, known_pushed}
use Rattle.flow_effects.proofs.known_waits.KnownWaits.put.Goals as goal

pub returns-in-Some : goal.returns-in-Some
returns-in-Some c = λ app known is. subst (AreKnownWaits app) (sym c.put.ensures) (known_with app c.args.self.now.known c.in-Some.place (record { task = c.args.wait.task; mask = c.args.wait.mask; conditions = Some c.args.conditions }) known is)

pub returns-in-None : goal.returns-in-None
returns-in-None c = λ app known is. known_pushed app c.args.self.now.known c.push.new.self (record { task = c.args.wait.task; mask = c.args.wait.mask; conditions = Some c.args.conditions }) c.push.result known is c.push.ensures.ok c.push.ensures.err
