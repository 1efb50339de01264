-- the machine's turn is the step of its image
use Rattle.std.proofs.Common.{◌≡◌, Bool, ap, subst, sym, ◌∙◌, Some, None}
use Rattle.std.specs.Prelude.{if◌then◌else◌}
use Rattle.osek_standard.specs.Dispatch.{Stepped, stepped}
use Rattle.image_model.specs.ImageStep.{image_step}
use Rattle.image_run.specs.{Machines.{AtWork, turned}, Noted.{noted_if}}
use Rattle.trace_text.specs.LineParts.{ShowsBut}
use Rattle.command_runs.proofs.EventSteps.{turn_is, same_image, runs_on, steps_as, holds_after}
use Rattle.command_runs.proofs.playing.Play.step.Goals as goal

pub returns-clause-step : goal.returns-clause-step
returns-clause-step g c =
    let m = c.foresee.new.self.machine in
    let runs = ap (λ (w : AtWork). w.trapped) c.foresee.ensures.machine ∙ c.requires.running in
    subst (λ (w : AtWork). image_step w.image w.state c.args.event ≡ (if c.step_into.result then Some (stepped c.step_into.new.self.state c.step_into.new.notes) else None))
    c.foresee.ensures.machine
    (steps_as m c.step_into.new.self _ c.step_into.result c.step_into.new.notes (turn_is m c.args.event _ runs c.step_into.ensures.step))

pub returns-clause-image : goal.returns-clause-image
returns-clause-image g c =
    let m = c.foresee.new.self.machine in
    let runs = ap (λ (w : AtWork). w.trapped) c.foresee.ensures.machine ∙ c.requires.running in
    same_image m c.step_into.new.self _ _ (turn_is m c.args.event _ runs c.step_into.ensures.step) ∙ ap (λ (w : AtWork). w.image) c.foresee.ensures.machine

pub returns-clause-running : goal.returns-clause-running
returns-clause-running g c = λ is.
    let m = c.foresee.new.self.machine in
    let runs = ap (λ (w : AtWork). w.trapped) c.foresee.ensures.machine ∙ c.requires.running in
    runs_on m c.step_into.new.self _ c.step_into.new.notes runs
    (turn_is m c.args.event _ runs (c.step_into.ensures.step ∙ ap (λ (b : Bool). turned c.step_into.new.self (noted_if b c.step_into.new.notes)) is))

pub invariant_of-self-clause-shown : goal.invariant_of-self-clause-shown
invariant_of-self-clause-shown g c =
    let p = c.foresee.new.self in
    let runs = ap (λ (w : AtWork). w.trapped) c.foresee.ensures.machine ∙ c.requires.running in
    holds_after p.machine c.step_into.new.self _ _ (λ app s. ShowsBut app s p.unshown p.parts.kept) p.shown
    (subst (λ (w : AtWork). (r : Stepped) → image_step w.image w.state c.args.event ≡ Some r → ShowsBut w.image.app r.state p.unshown p.parts.kept) (sym c.foresee.ensures.machine) c.foresee.ensures.step)
    (turn_is p.machine c.args.event _ runs c.step_into.ensures.step)
