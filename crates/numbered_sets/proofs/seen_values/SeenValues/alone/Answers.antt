use Rattle.std.proofs.Common.{sym, ap, subst, ◌∙◌}
use Rattle.numbered_sets.specs.{Passing.{IsNumberAlone}, Numbers.{Numbers, with_number}}
use Rattle.numbered_sets.proofs.AloneLaws.{number_alone, none_alone}
use Rattle.numbered_sets.proofs.seen_values.SeenValues.alone.Goals as goal

pub returns-in-None : goal.returns-in-None
returns-in-None c =
    let v = c.args.value.now in
    let values = c.args.self.now.values in
    subst (IsNumberAlone values v) (sym c.new-alone.ensures) (none_alone _ values v c.in-None.ensures.none)

pub returns-in_ok-put-in-Some : goal.returns-in_ok-put-in-Some
returns-in_ok-put-in-Some c =
    let v = c.args.value.now in
    let values = c.args.self.now.values in
    let number = c.in-Some.number in
    subst (IsNumberAlone values v) (sym (c.in_ok-put-in-Some.ensures.set ∙ ap (λ (x : Numbers). with_number x number) c.new-alone.ensures))
    (number_alone _ values v number c.are_values.ensures.distinct c.in-Some.ensures.number)
