use Rattle.std.proofs.{Common.{◌∙◌, List, set, sym, ap, arith}, lemmas.List.{set-get_or}}
use Rattle.abstract_state.specs.{declared.{value.PartValue.{PartValue}, table.ValueSet.{ValueSet}}, Tables.{empty_set}}
use Rattle.numbered_sets.specs.{Numbers.{Numbers}, NumberedEntries.{no_set, numbers_at}}
use Rattle.numbered_sets.proofs.NumberingLaws.{as_many_sets, domain_there}
use Rattle.table_codec.specs.Kept.{numbers_or}
use Rattle.table_codec.proofs.KeptNumbers.{numbers_before, numbers_own}
use Rattle.table_codec.proofs.reading.fill_at.Goals as goal

pub returns-then-not-is_empty : goal.returns-then-not-is_empty
returns-then-not-is_empty c =
    let k = c.args.component in
    let entry = c.args.entry.now in
    let values = ap (λ (s : ValueSet). s.members) (c.at.ensures.item empty_set) in
    let own = numbers_own c.at.result.now.members (numbers_at c.args.before.now k) (numbers_at entry k) (sym c.if-not-is_empty.ensures) in
    sym
    (ap (λ (vs : List PartValue). set entry.sets k (numbers_or (numbers_at c.args.before.now k) vs (numbers_at entry k))) values
    ∙ ap (λ (x : Numbers). set entry.sets k x) own ∙ set-get_or entry.sets k no_set)

pub set-requires : goal.set-requires
set-requires c =
    let many = as_many_sets c.args.before.now.sets c.args.read.now c.requires.before in
    omega (arith, many, c.requires.known)

pub put-requires-clause-known : goal.put-requires-clause-known
put-requires-clause-known c =
    let many = as_many_sets c.args.entry.now.sets c.args.read.now c.requires.entry in
    omega (arith, many, c.requires.known)

pub put-requires-clause-alike : goal.put-requires-clause-alike
put-requires-clause-alike c =
    domain_there c.args.entry.now.sets c.args.read.now c.requires.entry c.args.component ∙ sym (domain_there c.args.before.now.sets c.args.read.now c.requires.before c.args.component)
    ∙ sym (ap (λ (x : Numbers). x.domain) c.in_ok-set.ensures)

pub returns : goal.returns
returns c =
    let k = c.args.component in
    let entry = c.args.entry.now in
    let values = ap (λ (s : ValueSet). s.members) (c.at.ensures.item empty_set) in
    let before = numbers_before c.at.result.now.members (numbers_at c.args.before.now k) (numbers_at entry k) (sym c.if-not-is_empty.ensures) in
    c.in_ok-put.ensures.sets
    ∙ ap (λ (x : Numbers). set entry.sets k x) (c.in_ok-set.ensures ∙ sym before)
    ∙ sym (ap (λ (vs : List PartValue). set entry.sets k (numbers_or (numbers_at c.args.before.now k) vs (numbers_at entry k))) values)
