use Rattle.std.proofs.Common.{◌∙◌}
use Rattle.point_exits.proofs.StartEntry.{listed_component, part_there}
use Rattle.point_exits.proofs.start.entry_of.Goals as goal

pub domain_of-domain-requires : goal.domain_of-domain-requires
domain_of-domain-requires c = listed_component c.args.app.now c.as_slice-component-items.result.now c.loop-component.component-index _ (c.as_slice-component-items.ensures ∙ c.in_ok-components.ensures) c.loop-component-test.true

pub part-requires : goal.part-requires
part-requires c =
    part_there c.args.app.now c.args.state.now c.requires _
    (listed_component c.args.app.now c.as_slice-component-items.result.now c.loop-component.component-index _ (c.as_slice-component-items.ensures ∙ c.in_ok-components.ensures) c.loop-component-test.true)
