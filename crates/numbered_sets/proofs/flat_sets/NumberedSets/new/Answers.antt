use Rattle.std.proofs.{Common.{◌≡◌, Vec, length, ap, ◌∙◌, arith}, lemmas.List.{length-replicate}}
use Rattle.std.specs.Global.{Global}
use Rattle.abstract_state.specs.declared.value.Domain.{Domain}
use Rattle.numbered_sets.proofs.FlatLaws.{flat_made}
use Rattle.numbered_sets.proofs.flat_sets.NumberedSets.new.Goals as goal

pub invariant_of-result : goal.invariant_of-result
invariant_of-result c =
    let many : length c.in_ok-domains.domains.value.items ≡ length c.args.domains.now = ap length (ap (λ (v : Vec Domain Global). v.items) c.in_ok-domains.ensures.ok ∙ c.in_ok-copy.ensures.items) in
    let low = ap length c.in_ok-low.ensures ∙ length-replicate (length c.args.domains.now) 0 in
    let high = ap length c.new-2.ensures.items in
    let none = ap length c.new-3.ensures in
    (omega (arith, many, low), omega (arith, high), omega (arith, none))

pub returns : goal.returns
returns c =
    flat_made c.args.domains.now c.in_ok-domains.domains.value.items c.in_ok-low.low.items c.new-2.result.items c.new-3.result
    (ap (λ (v : Vec Domain Global). v.items) c.in_ok-domains.ensures.ok ∙ c.in_ok-copy.ensures.items)
    c.in_ok-low.ensures c.new-2.ensures.items c.new-3.ensures
