use Rattle.std.proofs.Common.{length, sym, ap, subst, arith}
use Rattle.std.proofs.lemmas.List.{length-set}
use Rattle.numbered_sets.specs.{declared.numbered_entry.NumberedEntry.{NumberedEntry}, NumberedEntries.{numbers_at}, Passing.{IsSifted}}
use Rattle.numbered_sets.proofs.shared_values.SharedValues.passing.Goals as goal

pub set-requires : goal.set-requires
set-requires c =
    let entry = c.in_ok-sifted.sifted in
    let k = c.args.component in
    let same = ap (λ (e : NumberedEntry). length e.sets) c.in_ok-sifted.ensures in
    omega (arith, c.requires, same, ap length c.in_ok-keep_passing.ensures.others, length-set entry.sets k (numbers_at c.keep_passing.new.entry k))

pub returns-clause-passing : goal.returns-clause-passing
returns-clause-passing c =
    let k = c.args.component in
    let values = c.args.self.now.values in
    let test = c.args.test.now in
    let entry = c.in_ok-sifted.sifted in
    subst (IsSifted values test (numbers_at c.args.entry.now k)) (sym c.in_ok-passing.ensures)
    (subst (λ (e : NumberedEntry). IsSifted values test (numbers_at e k) (numbers_at c.keep_passing.new.entry k)) c.in_ok-sifted.ensures c.in_ok-keep_passing.ensures.passing)
