-- a line that is no event, an event whose line was printed, or one that ends the play
use Rattle.std.proofs.{Common.{◌≡◌, ℕ, ◌+◌, List, refl, sym, ◌∙◌, ap, subst, Ok}, lemmas.Result.{err_from_is_err_and}}
use Rattle.std.specs.declared.{option.Option.{Option}, result.Result.{Result}}
use Rattle.osek_values.specs.declared.event.Event.{Event}
use Rattle.osek_standard.specs.declared.{app.App.{App}, state.State.{State}}
use Rattle.trace_text.specs.{declared.fault.EventFault.{EventFault}, EventWords.{read_line}}
use Rattle.osek_io.specs.Sunk.{sunk}
use Rattle.command_runs.specs.{Playing.{given, played_line, Played, GoesOn}, declared.playing.Place.{Place}}
use Rattle.command_runs.proofs.Plays.{line_skipped, line_played, line_ends}
use Rattle.command_runs.proofs.playing.Play.play_line.Goals as goal

read_is : (seen app : App) (line : List ℕ) (o e : Option Event) → ◌≡◌ {A = Result (Option Event) EventFault} (Ok o) (read_line seen line) → seen ≡ app → o ≡ e → read_line app line ≡ Ok e
read_is seen app line o e is same known = subst (λ (x : App). read_line x line ≡ Ok e) same (sym is ∙ ap (λ (x : Option Event). Ok x) known)

pub returns-in_ok-play_event-in-Ok-Some-clause-line : goal.returns-in_ok-play_event-in-Ok-Some-clause-line
returns-in_ok-play_event-in-Ok-Some-clause-line g c =
    let is = read_is c.app.result.now c.args.self.now.machine.image.app c.args.line.now c.in-Ok-Some.field-0 _ c.in-Ok-Some.ensures c.app.ensures c.in-Ok-Some.field-0-is in
    let old = given (sunk g.O.Sink c.args.out.now) c.args.self.now.buffer in
    let new = given (sunk g.O.Sink c.play_event.new.out) c.play_event.new.self.buffer in
    let m = c.args.self.now.machine in
    let at = c.args.self.now.place in
    let t = c.play_event.new.self.machine.state in
    subst (λ (p : Place). GoesOn old new (λ (more : ℕ → State → Played). played_line c.args.showing m.image at.event m.state at.line more (read_line m.image.app c.args.line.now)) (p.event + 1) t) (sym c.in_ok-play_event-in-Ok-Some.ensures.place)
    (line_played old new c.args.showing m.image at.event m.state t at.line _ c.in-Ok-Some.event _ is refl c.in_ok-play_event-in-Ok-Some.ensures.event)

pub returns-in_err-play_event-in-Ok-Some-clause-line : goal.returns-in_err-play_event-in-Ok-Some-clause-line
returns-in_err-play_event-in-Ok-Some-clause-line g c =
    let is = read_is c.app.result.now c.args.self.now.machine.image.app c.args.line.now c.in-Ok-Some.field-0 _ c.in-Ok-Some.ensures c.app.ensures c.in-Ok-Some.field-0-is in
    let p = err_from_is_err_and c.from_residual.result c.from_residual.ensures.1 in
    rw (p.1, p.2) (line_ends (given (sunk g.O.Sink c.args.out.now) c.args.self.now.buffer) (given (sunk g.O.Sink c.play_event.new.out) c.play_event.new.self.buffer)
    c.args.showing c.args.self.now.machine.image c.args.self.now.place.event c.args.self.now.machine.state c.play_event.new.self.machine.state c.args.self.now.place.line _ c.in-Ok-Some.event _ c.in_err-play_event-in-Ok-Some.field-0.0 is refl c.in_err-play_event-in-Ok-Some.ensures.event)

pub returns-in-Ok-None-clause-line : goal.returns-in-Ok-None-clause-line
returns-in-Ok-None-clause-line g c =
    let is = read_is c.app.result.now c.args.self.now.machine.image.app c.args.line.now c.in-Ok-None.field-0 _ c.in-Ok-None.ensures c.app.ensures c.in-Ok-None.field-0-is in
    line_skipped (given (sunk g.O.Sink c.args.out.now) c.args.self.now.buffer) c.args.showing c.args.self.now.machine.image c.args.self.now.place.event c.args.self.now.machine.state c.args.self.now.place.line _ is

pub returns-in-Ok-None-clause-image : goal.returns-in-Ok-None-clause-image
returns-in-Ok-None-clause-image g c = refl
