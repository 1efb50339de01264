use Rattle.std.proofs.Common.{◌≡◌, get_or, sym, ap, subst, ◌∙◌}
use Rattle.std.proofs.lemmas.List.Elements.{Contains-get_or}
use Rattle.flow_model.specs.declared.change.Update.{Update}
use Rattle.numbered_sets.specs.{declared.{loads.Load.{Load}, load_updates.LoadsAfter.{LoadsAfter}}, LoadUpdates.{load_after, AreNumbersAfter}}
use Rattle.numbered_sets.proofs.LoadUpdateLaws.{number_alike, updates_put}
use Rattle.numbered_sets.proofs.load_updates.LoadUpdates.note.Goals as goal

pub returns-in_err-note : goal.returns-in_err-note
returns-in_err-note c = λ loads h new.
    let known = c.place_for.new.self.known in
    let place = c.in_ok-place.place in
    let it = c.at_mut-known.result.now in
    let there = c.in_ok-place.ensures.place in
    let all = c.place_for.ensures.known loads h in
    let was = subst (λ (x : LoadsAfter). AreNumbersAfter loads x.update x.numbers) (c.at_mut-known.ensures.item it) (all (get_or known place it) (Contains-get_or known place it there.known)) in
    let alike : (x : Load) → load_after c.args.update.now x ≡ load_after it.update x = λ x. sym (ap (λ (y : LoadsAfter). load_after y.update x) (sym (c.at_mut-known.ensures.item it)) ∙ there.is it x) in
    let noted = c.note.ensures.numbers loads was (number_alike loads c.args.update.now it.update alike c.args.load c.args.after new) in
    updates_put loads known place c.note.new.self all (subst (λ (u : Update). AreNumbersAfter loads u c.note.new.self.numbers) (sym c.note.ensures.update) noted)

pub returns : goal.returns
returns c = λ loads h new.
    let known = c.place_for.new.self.known in
    let place = c.in_ok-place.place in
    let it = c.at_mut-known.result.now in
    let there = c.in_ok-place.ensures.place in
    let all = c.place_for.ensures.known loads h in
    let was = subst (λ (x : LoadsAfter). AreNumbersAfter loads x.update x.numbers) (c.at_mut-known.ensures.item it) (all (get_or known place it) (Contains-get_or known place it there.known)) in
    let alike : (x : Load) → load_after c.args.update.now x ≡ load_after it.update x = λ x. sym (ap (λ (y : LoadsAfter). load_after y.update x) (sym (c.at_mut-known.ensures.item it)) ∙ there.is it x) in
    let noted = c.note.ensures.numbers loads was (number_alike loads c.args.update.now it.update alike c.args.load c.args.after new) in
    updates_put loads known place c.note.new.self all (subst (λ (u : Update). AreNumbersAfter loads u c.note.new.self.numbers) (sym c.note.ensures.update) noted)
