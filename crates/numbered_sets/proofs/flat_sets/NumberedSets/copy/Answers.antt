use Rattle.std.proofs.Common.{ℕ, List, Vec, length, ap, ap₂, ◌∙◌, arith}
use Rattle.std.specs.Global.{Global}
use Rattle.bit_words.specs.Words.{bits_of_words}
use Rattle.abstract_state.specs.declared.value.Domain.{Domain}
use Rattle.numbered_sets.specs.FlatSets.{flat_sets}
use Rattle.numbered_sets.proofs.FlatLaws.{flat_same_further}
use Rattle.numbered_sets.proofs.flat_sets.NumberedSets.copy.Goals as goal

pub invariant_of-result : goal.invariant_of-result
invariant_of-result c =
    let domains = ap (λ (v : Vec Domain Global). length v.items) c.in_ok-domains.ensures.cases in
    let low = ap length (c.in_ok-low.ensures ∙ c.as_slice.ensures.value) in
    let high = ap length (c.in_ok-high.ensures ∙ c.as_slice-2.ensures.value) in
    (omega (arith, domains, low, c.self.invariant.0), omega (arith, domains, high, c.self.invariant.1), omega (arith, domains, c.in_ok-more.ensures.as_many, c.self.invariant.2))

pub returns : goal.returns
returns c =
    let more = c.in_ok-more.more in
    ap (λ (v : Vec Domain Global). flat_sets v.items c.in_ok-low.low.items c.in_ok-high.high.items more) c.in_ok-domains.ensures.cases
    ∙ ap₂ (λ (ls hs : List ℕ). flat_sets c.self.inside.domains.value.items ls hs more) (c.in_ok-low.ensures ∙ c.as_slice.ensures.value) (c.in_ok-high.ensures ∙ c.as_slice-2.ensures.value)
    ∙ flat_same_further c.self.inside.domains.value.items c.self.inside.low.items c.self.inside.high.items c.self.inside.more more (λ k. ap bits_of_words (c.in_ok-more.ensures.words k)) ∙ c.self.view_is
