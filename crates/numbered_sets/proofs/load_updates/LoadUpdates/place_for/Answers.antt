use Rattle.std.proofs.Common.{List, [], ◌∷◌, ◌≡◌, ◌∙◌, ◌-◌, length, sym, ap, subst, arith}
use Rattle.std.proofs.lemmas.List.{length-append}
use Rattle.numbered_sets.specs.{declared.load_updates.LoadsAfter.{LoadsAfter}, LoadUpdates.{AreLoadUpdates, HasUpdateAt}}
use Rattle.numbered_sets.proofs.LoadUpdateLaws.{updates_push, update_pushed}
use Rattle.numbered_sets.proofs.load_updates.LoadUpdates.place_for.Goals as goal

pub returns-in_err-push-clause-known : goal.returns-in_err-push-clause-known
returns-in_err-push-clause-known c = λ loads h. subst (AreLoadUpdates loads) (sym c.in_err-push.ensures.err) h

pub returns-clause-known : goal.returns-clause-known
returns-clause-known c = λ loads h.
    subst (AreLoadUpdates loads) (sym c.in_ok-push.ensures.ok) (updates_push loads c.args.self.now.known c.new.result h (c.new.ensures.numbers loads))

pub returns-clause-place : goal.returns-clause-place
returns-clause-place c =
    let known = c.args.self.now.known in
    let last : c.len.result - 1 ≡ length known = omega (arith, c.len.ensures, ap length c.in_ok-push.ensures.ok, length-append known (c.new.result ∷ [])) in
    subst (λ (ks : List LoadsAfter). HasUpdateAt c.args.update.now ks (c.len.result - 1)) (sym c.in_ok-push.ensures.ok) (update_pushed c.args.update.now known (c.len.result - 1) c.new.result last (c.new.ensures.update ∙ c.in_ok-update.ensures))
