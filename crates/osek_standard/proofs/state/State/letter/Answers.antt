-- the letter of a running task
use Rattle.std.proofs.Common.{◌≡◌, true, rules, refl}
use Rattle.osek_standard.specs.States.{is_that_task}
use Rattle.osek_standard.proofs.state.State.letter.Goals as goal

pub returns-then-eq : goal.returns-then-eq
returns-then-eq c =
    let same : is_that_task c.current.result c.args.task.0 ≡ true = search rules in
    rw (c.task.ensures, c.in-Live.is, ← c.current.ensures, same) refl
