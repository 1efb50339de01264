use Rattle.std.proofs.Common.{List, Vec, length, get_or, sym, ap, ◌∙◌, arith}
use Rattle.std.specs.Global.{Global}
use Rattle.abstract_state.specs.declared.value.Domain.{Domain}
use Rattle.abstract_state.specs.declared.value.Domain.TheVariants as domain
use Rattle.numbered_sets.proofs.FlatLaws.{as_many, domain_is}
use Rattle.numbered_sets.proofs.flat_sets.NumberedSets.domain.Goals as goal

pub domain_at-requires : goal.domain_at-requires
domain_at-requires c =
    let many = as_many c.self.inside.domains.value.items c.self.inside.low.items c.self.inside.high.items c.self.inside.more c.args.self.now c.self.view_is in
    let slice = ap length c.as_slice.ensures.value in
    let domains = ap (λ (v : Vec Domain Global). length v.items) c.deref.ensures in
    omega (arith, many, slice, domains, c.requires)

pub returns : goal.returns
returns c =
    let many = as_many c.self.inside.domains.value.items c.self.inside.low.items c.self.inside.high.items c.self.inside.more c.args.self.now c.self.view_is in
    sym (c.domain_at.ensures domain.Alarm) ∙ ap (λ (ds : List Domain). get_or ds c.args.component domain.Alarm) (c.as_slice.ensures.value ∙ ap (λ (v : Vec Domain Global). v.items) c.deref.ensures)
    ∙ domain_is c.self.inside.domains.value.items c.self.inside.low.items c.self.inside.high.items c.self.inside.more c.args.self.now c.self.view_is c.args.component (omega (arith, many, c.requires))
