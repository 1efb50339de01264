use Rattle.std.proofs.Common.{◌≡◌, false, subst}
use Rattle.std.specs.{Prelude.{IfSome, IfNone}, List.{list_any}}
use Rattle.abstract_state.specs.ValueOrder.{same_part}
use Rattle.numbered_sets.specs.Pools.{Values, IsNumberOf}
use Rattle.numbered_sets.proofs.SlotLaws.{value_without_slot, some_number, none_found}
use Rattle.numbered_sets.proofs.seen_values.SeenValues.number_of.Goals as goal

pub returns-in-None-clause-none : goal.returns-in-None-clause-none
returns-in-None-clause-none c =
    let here = c.self.inside in
    let v = c.args.value.now in
    subst (λ (x : Values). list_any (same_part v) x.values ≡ false) c.self.view_is (value_without_slot here.domain here.loads here.slots.used v c.self.invariant.known c.in-None.ensures.none)

pub returns-in-Some-clause-number : goal.returns-in-Some-clause-number
returns-in-Some-clause-number c =
    let here = c.self.inside in
    let v = c.args.value.now in
    subst (λ (x : Values). IfSome c.find.result (IsNumberOf x.values v)) c.self.view_is
    (some_number here.domain here.loads here.slots.used c.in-Some.slot v c.find.result c.find.ensures.number c.in-Some.ensures.slot.is)

pub returns-in-Some-clause-none : goal.returns-in-Some-clause-none
returns-in-Some-clause-none c =
    let here = c.self.inside in
    let v = c.args.value.now in
    subst (λ (x : Values). IfNone c.find.result (list_any (same_part v) x.values ≡ false)) c.self.view_is
    (none_found here.domain here.loads here.slots.used c.in-Some.slot v c.find.result c.self.invariant.known c.find.ensures.none c.in-Some.ensures.slot)
