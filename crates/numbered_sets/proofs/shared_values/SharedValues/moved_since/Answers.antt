use Rattle.std.proofs.Common.{◌≡◌, length, get_or, sym, ap, subst, ◌∙◌, IsTrue}
use Rattle.std.proofs.lemmas.{Bool.{eqb-true}, List.Elements.{Contains-get_or}}
use Rattle.abstract_state.specs.declared.value.Domain.{Domain}
use Rattle.flow_model.specs.{declared.change.Update.{Update}, Tests.{updated}}
use Rattle.numbered_sets.specs.declared.made_sets.MadeSet.{MadeSet}
use Rattle.numbered_sets.specs.{Keeping.{IsMadeSet, AreMadeSets, with_further}, Made.{AreMade}, Numbers.{Numbers, numbers, has_number, joined_numbers, other_numbers}}
use Rattle.numbered_sets.proofs.KeptLaws.{HaveSame, kept_as, kept_longer, kept_further, kept_answer, of_others, same_with_others, same_as_within}
use Rattle.numbered_sets.proofs.shared_values.SharedValues.moved_since.Goals as goal

pub returns-in_default-clause-kept : goal.returns-in_default-clause-kept
returns-in_default-clause-kept c =
    let vs = c.args.self.now.values in
    let ws = c.moved.new.self.values in
    let grown = c.moved.ensures.grown in
    let sets = c.find.new.self.sets in
    let kept : AreMadeSets vs sets = subst (AreMadeSets vs) (sym c.find.ensures.same) c.requires.kept in
    c.in_ok-keep.ensures ws (kept_longer vs ws sets grown kept)
    (kept_as vs ws c.args.place c.args.update.now c.args.numbers.now c.in_ok-made.made grown c.requires.known c.in_ok-made.ensures.made)

pub returns-then-is_empty-clause-made : goal.returns-then-is_empty-clause-made
returns-then-is_empty-clause-made c =
    let vs = c.args.self.now.values in
    let asked = c.args.numbers.now in
    let sets = c.find.new.self.sets in
    let kept : AreMadeSets vs sets = subst (AreMadeSets vs) (sym c.find.ensures.same) c.requires.kept in
    let x = c.at.result.now in
    let found = c.in-Some.ensures.found in
    let its : IsMadeSet vs x = subst (IsMadeSet vs) (c.at.ensures x) (kept (get_or sets c.in-Some.at x) (Contains-get_or sets c.in-Some.at x found.known)) in
    let update : x.update ≡ c.args.update.now = ap (λ (m : MadeSet). m.update) (sym (c.at.ensures x)) ∙ found.is x in
    let within : (other_numbers x.given asked).bits ≡ 0 = ap (λ (m : MadeSet). (other_numbers m.given asked).bits) (sym (c.at.ensures x)) ∙ found.within x in
    let since : c.in_ok-since.since ≡ other_numbers asked x.given = c.in_ok-since.ensures ∙ ap (λ (m : MadeSet). other_numbers asked m.given) (sym (c.at-2.ensures x) ∙ c.at.ensures x) in
    let none : (other_numbers asked x.given).bits ≡ 0 = ap (λ (m : Numbers). m.bits) (sym since) ∙ eqb-true c.in_ok-since.since.bits 0 (sym c.is_empty.ensures ∙ c.if-is_empty.true) in
    kept_answer vs x c.args.update.now asked c.in_ok-answer.answer (length vs) its update (same_as_within asked x.given within none) c.requires.known
    (c.in_ok-answer.ensures ∙ ap (λ (d : Domain). numbers d x.made.bits) c.domain.ensures)

pub returns-then-is_empty-clause-kept : goal.returns-then-is_empty-clause-kept
returns-then-is_empty-clause-kept c = subst (AreMadeSets c.args.self.now.values) (sym c.find.ensures.same) c.requires.kept

pub moved-requires-2-clause-known : goal.moved-requires-2-clause-known
moved-requires-2-clause-known c = λ n has.
    c.requires.known n (of_others c.args.numbers.now c.at-2.result.now.given n (subst (λ (m : Numbers). IsTrue (has_number m n)) c.in_ok-since.ensures has))

pub moved-requires-2-clause-within : goal.moved-requires-2-clause-within
moved-requires-2-clause-within c = λ n v has is.
    c.requires.within n v (of_others c.args.numbers.now c.at-2.result.now.given n (subst (λ (m : Numbers). IsTrue (has_number m n)) c.in_ok-since.ensures has)) is

pub returns-clause-made : goal.returns-clause-made
returns-clause-made c =
    let vs = c.args.self.now.values in
    let ws = c.moved-2.new.self.values in
    let asked = c.args.numbers.now in
    let sets = c.find.new.self.sets in
    let kept : AreMadeSets vs sets = subst (AreMadeSets vs) (sym c.find.ensures.same) c.requires.kept in
    let x = c.at.result.now in
    let more = c.in_ok-since.since in
    let made = c.in_ok-made-2.made in
    let found = c.in-Some.ensures.found in
    let its : IsMadeSet vs x = subst (IsMadeSet vs) (c.at.ensures x) (kept (get_or sets c.in-Some.at x) (Contains-get_or sets c.in-Some.at x found.known)) in
    let update : x.update ≡ c.args.update.now = ap (λ (m : MadeSet). m.update) (sym (c.at.ensures x)) ∙ found.is x in
    let within : (other_numbers x.given asked).bits ≡ 0 = ap (λ (m : MadeSet). (other_numbers m.given asked).bits) (sym (c.at.ensures x)) ∙ found.within x in
    let since : more ≡ other_numbers asked x.given = c.in_ok-since.ensures ∙ ap (λ (m : MadeSet). other_numbers asked m.given) (sym (c.at-2.ensures x) ∙ c.at.ensures x) in
    let new : AreMade (updated x.update) ws more (length vs) made = subst (λ (w : Update). AreMade (updated w) ws more (length vs) made) (sym update) c.in_ok-made-2.ensures.made in
    let both : IsMadeSet ws (with_further x more made) =
    kept_further vs ws x more made c.moved-2.ensures.grown its
    (λ n has. c.requires.known n (of_others asked x.given n (subst (λ (m : Numbers). IsTrue (has_number m n)) since has))) new in
    let same : HaveSame asked (joined_numbers x.given more) = subst (λ (m : Numbers). HaveSame asked (joined_numbers x.given m)) (sym since) (same_with_others asked x.given within) in
    kept_answer ws (with_further x more made) c.args.update.now asked c.join.new.self (length vs) both update same c.requires.known
    (c.in_ok-join.ensures.set ∙ ap (λ (m : Numbers). joined_numbers m made) (c.in_ok-answer.ensures ∙ ap (λ (d : Domain). numbers d x.made.bits) c.domain.ensures))

pub returns-clause-kept : goal.returns-clause-kept
returns-clause-kept c =
    let vs = c.args.self.now.values in
    let ws = c.moved-2.new.self.values in
    let asked = c.args.numbers.now in
    let sets = c.find.new.self.sets in
    let kept : AreMadeSets vs sets = subst (AreMadeSets vs) (sym c.find.ensures.same) c.requires.kept in
    let x = c.at.result.now in
    let more = c.in_ok-since.since in
    let made = c.in_ok-made-2.made in
    let found = c.in-Some.ensures.found in
    let its : IsMadeSet vs x = subst (IsMadeSet vs) (c.at.ensures x) (kept (get_or sets c.in-Some.at x) (Contains-get_or sets c.in-Some.at x found.known)) in
    let update : x.update ≡ c.args.update.now = ap (λ (m : MadeSet). m.update) (sym (c.at.ensures x)) ∙ found.is x in
    let new : AreMade (updated x.update) ws more (length vs) made = subst (λ (w : Update). AreMade (updated w) ws more (length vs) made) (sym update) c.in_ok-made-2.ensures.made in
    let both : IsMadeSet ws (with_further x more made) =
    kept_further vs ws x more made c.moved-2.ensures.grown its
    (λ n has. c.requires.known n (of_others asked c.at-2.result.now.given n (subst (λ (m : Numbers). IsTrue (has_number m n)) c.in_ok-since.ensures has))) new in
    c.in_ok-extend.ensures x ws (kept_longer vs ws sets c.moved-2.ensures.grown kept)
    (subst (λ (m : MadeSet). IsMadeSet ws (with_further m more made)) (sym (c.at.ensures x)) both)
