use Rattle.std.proofs.{Common.{sym, ◌∙◌}, lemmas.Bool.{OnTrue_from, eqb-true}}
use Rattle.numbered_sets.specs.{Numbers.{other_numbers}, NumberedEntries.{numbers_at}}
use Rattle.numbered_sets.proofs.WithinLaws.{within_set}
use Rattle.state_flow.specs.ExitRows.{IsPart}
use Rattle.state_flow.proofs.joining.is_part.Goals as goal

pub returns : goal.returns
returns c =
    let x = c.args.end.now.numbers in
    let y = numbers_at c.args.entry.now c.args.end.now.component in
    OnTrue_from c.has_each.result (IsPart c.args.entry.now c.args.end.now) (λ e. within_set x y (eqb-true (other_numbers x y).bits 0 (sym c.has_each.ensures ∙ e)))
