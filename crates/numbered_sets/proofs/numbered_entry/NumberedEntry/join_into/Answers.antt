use Rattle.std.proofs.Common.{rules, List, length, get_or, ap, inr}
use Rattle.numbered_sets.specs.{Numbers.{Numbers}, NumberedEntries.{no_set, IsPartOfNumberJoin}}
use Rattle.numbered_sets.proofs.numbered_entry.NumberedEntry.join_into.Goals as goal

pub returns-in_err-added-clause-err : goal.returns-in_err-added-clause-err
returns-in_err-added-clause-err c =
    let part : IsPartOfNumberJoin c.args.self.now c.args.other.now (record { sets = c.join_into.new.self }) = record {
      as_many = ap length c.in_err-added.ensures.err;
      each = λ k. inr (ap (λ (xs : List Numbers). get_or xs k no_set) c.in_err-added.ensures.err);
    } in
    search (rules, part)

pub returns-clause-entry : goal.returns-clause-entry
returns-clause-entry c = record { as_many = c.in_ok-added.ensures.sets.as_many; each = c.in_ok-added.ensures.sets.each }
