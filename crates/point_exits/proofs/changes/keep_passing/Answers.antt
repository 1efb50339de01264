use Rattle.std.proofs.{Common.{not, List, map, ap, ◌∙◌, arith}, lemmas.Bool.{OnTrue_from}}
use Rattle.numbered_sets.specs.{Numbers.{Numbers}, NumberedEntries.{numbers_at, number_domains, AreFilled}}
use Rattle.numbered_sets.proofs.CopiedEntries.{domains_put}
use Rattle.point_exits.proofs.SiftedSets.{filled_still}
use Rattle.point_exits.proofs.changes.keep_passing.Goals as goal

pub returns-in_err-keep_passing-clause-alike : goal.returns-in_err-keep_passing-clause-alike
returns-in_err-keep_passing-clause-alike c = ap number_domains c.in_err-keep_passing.ensures.err

pub returns-clause-alike : goal.returns-clause-alike
returns-clause-alike c =
    ap (λ (xs : List Numbers). map (λ (x : Numbers). x.domain) xs) c.in_ok-keep_passing.ensures.others
    ∙ domains_put c.args.entry.now.sets c.index-component.result (numbers_at c.keep_passing.new.entry c.index-component.result) (omega (arith, c.if-component-len.false, c.len.ensures)) c.in_ok-keep_passing.ensures.passing.domain

pub returns-clause-filled : goal.returns-clause-filled
returns-clause-filled c =
    let k = c.index-component.result in
    OnTrue_from (not c.is_empty-is_left.result) (AreFilled c.args.entry.now → AreFilled c.keep_passing.new.entry)
    (λ left. filled_still c.args.entry.now c.keep_passing.new.entry k c.in_ok-keep_passing.ensures.others c.is_empty-is_left.result c.is_empty-is_left.ensures left)
