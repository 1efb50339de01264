-- The laws of the order of numbered entries, under names that an impl can cite.
use Rattle.std.specs.Prelude.{◌≡◌, ◌≤◌}
use Rattle.numbered_sets.specs.declared.numbered_entry.NumberedEntry.{NumberedEntry}
use Rattle.numbered_sets.specs.NumberedEntries.{number_domains, entry_numbers, numbers_height, AreSoundNumbers, IsBelowNumbers}
use Rattle.numbered_sets.proofs.NumberLattice as laws

pub below_itself : (x : NumberedEntry) → IsBelowNumbers x x
below_itself = laws.below_itself

pub below_onward : (x y z : NumberedEntry) → IsBelowNumbers x y → IsBelowNumbers y z → IsBelowNumbers x z
below_onward = laws.below_onward

pub heights_agree : (x y : NumberedEntry) → number_domains x ≡ number_domains y → numbers_height x ≡ numbers_height y
heights_agree = laws.heights_agree

pub numbers_grow : (x y : NumberedEntry) → AreSoundNumbers x → AreSoundNumbers y → number_domains x ≡ number_domains y → IsBelowNumbers x y → entry_numbers x ≤ entry_numbers y
numbers_grow = laws.numbers_grow

pub growth_shows : (x y : NumberedEntry) → AreSoundNumbers x → AreSoundNumbers y → number_domains x ≡ number_domains y → IsBelowNumbers x y → entry_numbers y ≤ entry_numbers x → IsBelowNumbers y x
growth_shows = laws.growth_shows

pub equal_entries : (x y : NumberedEntry) → AreSoundNumbers x → AreSoundNumbers y → number_domains x ≡ number_domains y → IsBelowNumbers x y → IsBelowNumbers y x → x ≡ y
equal_entries = laws.equal_entries

pub most_numbers : (x : NumberedEntry) → AreSoundNumbers x → entry_numbers x ≤ numbers_height x
most_numbers = laws.most_numbers
