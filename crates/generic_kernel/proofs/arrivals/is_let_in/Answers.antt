-- below the running routine's level
use Rattle.std.proofs.Common.{sym, subst, arith}
use Rattle.std.proofs.lemmas.Bool.{lt-leb}
use Rattle.osek_standard.specs.{Apps.{source_priority}, Levels.{level}, Well.{IsProcessor}}
use Rattle.osek_standard.proofs.LevelLaws.{level_above}
use Rattle.generic_kernel.proofs.arrivals.is_let_in.Goals as goal

pub returns-then-source_priority : goal.returns-then-source_priority
returns-then-source_priority c =
    let app = c.args.app.now in
    let s = c.args.state.now in
    let top = c.in-Interrupted.top in
    let above = level_above app s c.requires.well top c.in-Interrupted.over (subst (IsProcessor app s) c.in-Interrupted.is c.requires.well.processor) in
    sym (lt-leb (level app s) (source_priority app c.args.source.0) (omega (arith, above, c.source_priority.ensures, c.source_priority-in-Interrupted.ensures, c.if-source_priority.true)))
