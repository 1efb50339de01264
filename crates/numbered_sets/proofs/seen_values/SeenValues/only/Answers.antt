use Rattle.std.proofs.Common.{sym, ap, subst, ◌∙◌}
use Rattle.abstract_state.specs.declared.value.Domain.{Domain}
use Rattle.flow_model.specs.declared.test.Test.TheVariants as test
use Rattle.numbered_sets.specs.{Passing.{IsSifted}, Numbers.{Numbers, numbers, with_number}, NumberedEntries.{numbers_at}}
use Rattle.numbered_sets.proofs.AloneLaws.{only_none, only_there, only_missing}
use Rattle.numbered_sets.proofs.seen_values.SeenValues.only.Goals as goal

pub returns-in-None : goal.returns-in-None
returns-in-None c =
    let v = c.args.value.now in
    let values = c.args.self.now.values in
    let x = numbers_at c.args.entry.now c.args.component in
    subst (IsSifted values (test.Is v) x) (sym (c.new-only.ensures ∙ ap (λ (d : Domain). numbers d 0) c.domain.ensures)) (only_none values x v c.in-None.ensures.none)

pub returns-then-not-has : goal.returns-then-not-has
returns-then-not-has c =
    let v = c.args.value.now in
    let values = c.args.self.now.values in
    let x = numbers_at c.args.entry.now c.args.component in
    subst (IsSifted values (test.Is v) x) (sym (c.new-only.ensures ∙ ap (λ (d : Domain). numbers d 0) c.domain.ensures))
    (only_missing values x v c.in-Some.number c.are_values.ensures.distinct c.in-Some.ensures.number (sym c.has.ensures ∙ c.if-not-has.true))

pub returns-in_ok-put-in-Some : goal.returns-in_ok-put-in-Some
returns-in_ok-put-in-Some c =
    let v = c.args.value.now in
    let values = c.args.self.now.values in
    let x = numbers_at c.args.entry.now c.args.component in
    let number = c.in-Some.number in
    subst (IsSifted values (test.Is v) x)
    (sym (c.in_ok-put-in-Some.ensures.set ∙ ap (λ (y : Numbers). with_number y number) (c.new-only.ensures ∙ ap (λ (d : Domain). numbers d 0) c.domain.ensures)))
    (only_there values x v number c.are_values.ensures.distinct c.in-Some.ensures.number (sym c.has.ensures ∙ c.if-not-has.false))
