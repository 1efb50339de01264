use Rattle.std.proofs.{Common.{◌≡◌, ℕ, ◌+◌, ◌-◌, ◌*◌, get_or, ap₂, subst, ◌∙◌}, lemmas.Option.{IfSome_then}}
use Rattle.numbered_sets.specs.{Slots.{none, IsNumberOfSlot}, LoadUpdates.{offset_after}}
use Rattle.numbered_sets.proofs.moving.found_with.Goals as goal

pub returns : goal.returns
returns c =
    let slots = c.args.slots.now in
    let p = c.in_ok-place.place in
    let numbers = c.args.loads.now in
    let same : 1 + (c.at-load.result + 1) * slots.width + c.offset_after.result ≡ 1 + (get_or numbers (p.row - 1) none + 1) * slots.width + offset_after c.args.standing p =
    ap₂ (λ (m o : ℕ). 1 + (m + 1) * slots.width + o) c.at-load.ensures c.offset_after.ensures in
    IfSome_then c.find_behind.result c.find_behind.ensures (λ m there. record {
      slot = c.at.result;
      place = p;
      its = c.at.ensures.slot;
      at = c.in_ok-place.ensures;
      live = c.if-place-eq0.false;
      load = λ e. c.if-load.false (c.at-load.ensures ∙ e);
      there = subst (λ (s : ℕ). IsNumberOfSlot slots.used s m) same there;
    })
