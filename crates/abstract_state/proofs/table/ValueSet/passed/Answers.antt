use Rattle.std.proofs.Common.{rules, ◌≡◌, ◌<◌, ◌-◌, ◌∙◌, length, get_or, subst, sym}
use Rattle.abstract_state.specs.ValueOrder.{AreBefore}
use Rattle.abstract_state.proofs.OrderLaws.{all_passed}
use Rattle.abstract_state.proofs.table.ValueSet.passed.Goals as goal

pub returns-in-Less : goal.returns-in-Less
returns-in-Less c =
    let members = c.args.self.now.members in
    let long : c.len-count.result ≡ length members = c.len-count.ensures in
    let last : get_or members (length members - 1) c.at.result.now ≡ c.at.result.now = subst (λ n. get_or members (n - 1) c.at.result.now ≡ c.at.result.now) long (c.at.ensures.item c.at.result.now) in
    let some : 0 < length members = search rules in
    subst (λ n. AreBefore members n c.args.value.now) (sym long) (all_passed members c.at.result.now c.args.value.now c.requires some last (sym c.order.ensures ∙ c.in-Less.is))
