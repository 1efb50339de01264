-- The laws of the order of entries, under names that an impl can cite.
use Rattle.std.specs.Prelude.{◌≡◌, ◌≤◌}
use Rattle.abstract_state.specs.{declared.table.PlainEntry.{PlainEntry}, Tables.{entry_values}, Domains.{domains, entry_height, IsSoundEntry, IsBelow}}
use Rattle.abstract_state.proofs.DomainValues.{domain_counted}
use Rattle.abstract_state.proofs.LatticeLaws as laws

pub below_itself : (x : PlainEntry) → IsBelow x x
below_itself = laws.below_itself

pub below_onward : (x y z : PlainEntry) → IsBelow x y → IsBelow y z → IsBelow x z
below_onward = laws.below_onward

pub heights_agree : (x y : PlainEntry) → domains x ≡ domains y → entry_height x ≡ entry_height y
heights_agree = laws.heights_agree

pub values_grow : (x y : PlainEntry) → IsSoundEntry x → IsSoundEntry y → domains x ≡ domains y → IsBelow x y → entry_values x ≤ entry_values y
values_grow = laws.values_grow

pub growth_shows : (x y : PlainEntry) → IsSoundEntry x → IsSoundEntry y → domains x ≡ domains y → IsBelow x y → entry_values y ≤ entry_values x → IsBelow y x
growth_shows = laws.growth_shows

pub equal_entries : (x y : PlainEntry) → IsSoundEntry x → IsSoundEntry y → domains x ≡ domains y → IsBelow x y → IsBelow y x → x ≡ y
equal_entries = laws.equal_entries

pub most_values : (entry : PlainEntry) → IsSoundEntry entry → entry_values entry ≤ entry_height entry
most_values = laws.most_values domain_counted
