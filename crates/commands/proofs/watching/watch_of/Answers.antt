-- it is over the least table that was made
use Rattle.std.proofs.lemmas.Result.{IfOk-weaker}
use Rattle.commands.proofs.watching.watch_of.Goals as goal

pub returns : goal.returns
returns c =
    IfOk-weaker c.with-watch.result _ _ (λ w of. record { table = c.in_ok-least.least.table; least = c.in_ok-least.ensures.least; watch = of }) c.with-watch.ensures.watch
