use Rattle.std.proofs.Common.{subst}
use Rattle.std.specs.Prelude.{IfSome}
use Rattle.abstract_state.specs.declared.value.PartValue.{PartValue}
use Rattle.flow_model.specs.Tests.{updated}
use Rattle.flow_model.specs.declared.change.Update.TheVariants as update
use Rattle.numbered_sets.specs.Pools.{Values, IsNumberOf}
use Rattle.numbered_sets.proofs.SlotLaws.{moved_number}
use Rattle.numbered_sets.proofs.seen_values.SeenValues.found_released.Goals as goal

pub returns : goal.returns
returns c =
    let here = c.self.inside in
    let n = c.args.number in
    let becomes = updated (update.Release c.args.releases.now) in
    subst (λ (x : Values). IfSome c.find.result (λ m. (v : PartValue) → IsNumberOf x.values v n → IsNumberOf x.values (becomes v) m)) c.self.view_is
    (moved_number here.domain here.loads here.slots.used becomes c.at-slot.result c.in_ok-after.after n c.find.result c.at-slot.ensures.slot c.in_ok-after.ensures.is c.find.ensures.number)
