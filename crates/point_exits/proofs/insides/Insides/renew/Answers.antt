use Rattle.std.proofs.Common.{◌≡◌, ◌∙◌, length, ap, arith}
use Rattle.numbered_sets.specs.Pools.{values_at}
use Rattle.point_exits.proofs.insides.Insides.renew.Goals as goal

pub returns-clause-insides : goal.returns-clause-insides
returns-clause-insides c =
    let mid = c.bring_in.new.pool in
    let t = c.args.self.now.task.0 in
    let e = c.in_ok-bring_in.ensures in
    let size : c.len.result ≡ length (values_at mid t) = c.len.ensures ∙ ap (λ k. length (values_at mid k)) c.index-component.ensures in
    c.go_on_to.ensures.insides (values_at mid t) size c.bring_in.ensures.insides (λ n v past is. e.rest n v (let first = e.first in omega (arith, past, first)) is)
