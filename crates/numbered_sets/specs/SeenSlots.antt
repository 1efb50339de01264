-- What is kept of the values of a domain that were seen, and of their slots.
use Rattle.std.specs.Prelude.{◌≡◌, List}
use Rattle.abstract_state.specs.declared.value.Domain.{Domain}
use Rattle.numbered_sets.specs.{declared.loads.Load.{Load}, Pools.{AreNumbered}, Slots.{slot_values, slot_width, UsedSlots, AreSlots}}

pub record AreSeen (d : Domain) (loads : List Load) (slots : UsedSlots) : Type 0 where
  pub numbered : AreNumbered d (slot_values d loads slots.used)
  pub known : AreSlots d loads slots.used
  pub wide : slots.width ≡ slot_width d
