use Rattle.std.proofs.Common.{sym, ◌∙◌}
use Rattle.numbered_sets.specs.{Numbers.{has_number}, NumberedEntries.{numbers_at}}
use Rattle.numbered_sets.proofs.{AloneLaws.{number_tells, absent_tells}, PlainLaws.{member_of_plain}}
use Rattle.numbered_sets.proofs.seen_values.SeenValues.has_value.Goals as goal

pub returns-in-None : goal.returns-in-None
returns-in-None c =
    let values = c.args.self.now.values in
    let numbers = numbers_at c.args.entry.now c.args.component in
    let v = c.args.value.now in
    sym (member_of_plain values numbers v ∙ absent_tells values (has_number numbers) v c.in-None.ensures.none)

pub returns-in-Some : goal.returns-in-Some
returns-in-Some c =
    let values = c.args.self.now.values in
    let numbers = numbers_at c.args.entry.now c.args.component in
    let v = c.args.value.now in
    c.has.ensures ∙ number_tells values (has_number numbers) v c.in-Some.number c.are_values.ensures.distinct c.in-Some.ensures.number ∙ sym (member_of_plain values numbers v)
