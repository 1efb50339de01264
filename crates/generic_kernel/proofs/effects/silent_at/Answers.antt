-- a tick and the end of a routine leave each task as high as it was
use Rattle.std.proofs.Common.{◌∙◌, sym, ap}
use Rattle.osek_standard.specs.{declared.state.State.{State}, Effects.{place_at}, Services.{Answer}}
use Rattle.generic_kernel.specs.Levels.{level}
use Rattle.generic_kernel.proofs.SilentLaws.{moved_levels, counted_levels, returned_levels}
use Rattle.generic_kernel.proofs.effects.silent_at.Goals as goal

pub returns-in-CountUp-clause-levels : goal.returns-in-CountUp-clause-levels
returns-in-CountUp-clause-levels c t =
    let app = c.args.app.now in
    let s = c.args.state.now in
    ap (λ (r : State). level app r t) (sym c.count.ensures)
    ∙ counted_levels app c.go_to-in-CountUp.new.state t
    ∙ ap (λ (r : State). level app r t) (sym c.go_to-in-CountUp.ensures.moved)
    ∙ moved_levels app s c.requires.well (place_at c.block-block.result.now.next 0) t

pub returns-in-IsrEnd-clause-levels : goal.returns-in-IsrEnd-clause-levels
returns-in-IsrEnd-clause-levels c t =
    ap (λ (x : Answer). level c.args.app.now x.state t) (sym c.return_from_routine.ensures) ∙ returned_levels c.args.app.now c.args.state.now t
