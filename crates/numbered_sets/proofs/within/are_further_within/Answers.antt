use Rattle.std.proofs.{Common.{length, inl, inr, arith}, lemmas.Bool.{cases_lt}}
use Rattle.bit_words.specs.Further.{further_bits}
use Rattle.bit_words.proofs.FurtherLaws.{no_further}
use Rattle.numbered_sets.proofs.WithinLaws.{none_of_none}
use Rattle.numbered_sets.proofs.within.are_further_within.Goals as goal

pub returns : goal.returns
returns c =
    let more = c.args.more.now in
    let other = c.args.other.now in
    λ k. elim (cases_lt k (length more)) [
      | inl lt ↦ c.loop-component.invariant k (omega (arith, lt, c.loop-component-test.false, c.loop-component.auto.component-end, c.len-component-end.ensures))
      | inr past ↦ none_of_none (further_bits more k) (further_bits other k) (no_further more k (omega (arith, past)))
    ]
