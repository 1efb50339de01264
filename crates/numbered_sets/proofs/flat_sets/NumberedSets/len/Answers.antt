use Rattle.std.proofs.Common.{Vec, length, ap, arith}
use Rattle.std.specs.Global.{Global}
use Rattle.abstract_state.specs.declared.value.Domain.{Domain}
use Rattle.numbered_sets.proofs.FlatLaws.{as_many}
use Rattle.numbered_sets.proofs.flat_sets.NumberedSets.len.Goals as goal

pub returns : goal.returns
returns c = (let many = as_many c.self.inside.domains.value.items c.self.inside.low.items c.self.inside.high.items c.self.inside.more c.args.self.now c.self.view_is in let domains = ap (λ (v : Vec Domain Global). length v.items) c.deref.ensures in omega (arith, many, c.len.ensures, c.deref.result.now.ok.0, domains))
