use Rattle.std.proofs.{Common.{◌-◌, ◌/◌, ◌<◌, sym, arith}, Math.Nat.{div-add-mod, mul_comm}, lemmas.Nat.{mod_below}}
use Rattle.numbered_sets.proofs.SlotLaws.{place_there}
use Rattle.numbered_sets.proofs.slot_values.slot_place.Goals as goal

pub returns : goal.returns
returns c =
    let count = c.in_ok-count.count in
    let place = c.args.slot - 1 in
    let some : 0 < count = omega (arith, c.if-count-eq0.false) in
    place_there c.args.domain _ count c.args.slot _ (sym c.in_ok-count.ensures) (mod_below place count some) (omega (arith, div-add-mod place count, mul_comm count (place / count), c.if-slot-eq0.false))
