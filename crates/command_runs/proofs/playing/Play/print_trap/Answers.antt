-- the line of a trap behind what was held back, or a prefix of both
use Rattle.std.proofs.{Common.{◌≡◌, ℕ, List, [], ◌∷◌, ◌++◌, ◌∙◌, refl, ap, subst, inl, inr, codes}, lemmas.Result.{err_from_is_err_and}}
use Rattle.std.specs.Fmt.{decimal}
use Rattle.osek_io.specs.{Pieces.{grown}, Sunk.{sunk}}
use Rattle.image_model.specs.ImageTrace.{trap_line}
use Rattle.command_runs.specs.{Playing.{given}, Telling.{Breaks}, declared.playing.Place.{Place}}
use Rattle.command_runs.proofs.GivenTexts.{prefix_of_held, prefix_past, puts_prefix_of_first, puts_past}
use Rattle.command_runs.proofs.playing.Play.print_trap.Goals as goal

pub returns-in_err-print_held-clause-line : goal.returns-in_err-print_held-clause-line
returns-in_err-print_held-clause-line g c =
    let old = given (sunk g.O.Sink c.args.out.now) c.args.self.now.buffer in
    let new = given (sunk g.O.Sink c.print_held.new.out) c.print_held.new.self.buffer in
    let p = err_from_is_err_and c.from_residual.result c.from_residual.ensures.1 in
    let held = c.in_err-print_held.ensures in
    rw (p.1, p.2) (inr (held.error, puts_prefix_of_first old new [] (trap_line c.args.self.now.place.event) (prefix_of_held old new held.cause held.prefix held.nothing_held)))

pub returns-in-Ok-clause-line : goal.returns-in-Ok-clause-line
returns-in-Ok-clause-line g c =
    let old = given (sunk g.O.Sink c.args.out.now) c.args.self.now.buffer in
    let new = given (sunk g.O.Sink c.put_three.new.err) c.print_held.new.self.buffer in
    let digits : c.as_bytes.result.now ≡ decimal c.args.self.now.place.event = c.as_bytes.ensures.value ∙ c.format.ensures.text ∙ ap (λ (p : Place). decimal p.event) c.print_held.ensures.place in
    inl (
      refl,
      puts_past old new (sunk g.O.Sink c.print_held.new.out) (trap_line c.args.self.now.place.event) c.in_ok-print_held.ensures.ok
          (c.in-Ok.ensures.0, c.in-Ok.ensures.1 ∙ ap (λ (xs : List ℕ). grown (g.O.Sink.written c.print_held.new.out) ((codes "trap " ++ xs) ++ 10 ∷ [])) digits) c.in_ok-print_held.ensures.nothing_held,
    )

pub returns-in-Err-Write-clause-line : goal.returns-in-Err-Write-clause-line
returns-in-Err-Write-clause-line g c =
    let old = given (sunk g.O.Sink c.args.out.now) c.args.self.now.buffer in
    let mid = sunk g.O.Sink c.print_held.new.out in
    let new = given (sunk g.O.Sink c.put_three.new.err) c.print_held.new.self.buffer in
    let digits : c.as_bytes.result.now ≡ decimal c.args.self.now.place.event = c.as_bytes.ensures.value ∙ c.format.ensures.text ∙ ap (λ (p : Place). decimal p.event) c.print_held.ensures.place in
    inr (
      refl,
      prefix_past old new mid (trap_line c.args.self.now.place.event) c.in_ok-print_held.ensures.ok
          (subst (λ (xs : List ℕ). Breaks mid new.out ((codes "trap " ++ xs) ++ 10 ∷ [])) digits c.in-Err-Write.ensures) c.in_ok-print_held.ensures.nothing_held,
    )
