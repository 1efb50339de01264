use Rattle.std.proofs.Common.{◌≡◌, drop}
use Rattle.oil_model.specs.Systems.{mask_named}
use Rattle.oil_model.proofs.events.mask_named.Given as goal

abbrev pub invariant-loop-event : goal.invariant-loop-event
invariant-loop-event l = mask_named l.name (drop l.event-index l.events) ≡ mask_named l.name l.events
