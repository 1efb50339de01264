-- Sets of numbers, each the number whose bits they are.
use Rattle.std.specs.Prelude.{ℕ, ◌<◌, ◌^◌, ◌==◌, Bool, not, bit_and, bit_or, bit_xor, count_ones}
use Rattle.osek_values.specs.Bits.{has_bit}
use Rattle.abstract_state.specs.{declared.value.Domain.{Domain}, Domains.{domain_size}}

-- Numbers of values of a domain: those whose bit is set.
pub record Numbers : Type 0 where
  pub domain : Domain
  pub bits : ℕ

abbrev pub numbers : Domain → ℕ → Numbers
numbers d m = record { domain = d; bits = m }

-- Whether a number is in the set.
abbrev pub has_number : Numbers → ℕ → Bool
has_number x n = has_bit x.bits n

-- a number more
abbrev pub with_number : Numbers → ℕ → Numbers
with_number x n = numbers x.domain (bit_or x.bits (2 ^ n))

-- The numbers of both.
abbrev pub joined_numbers : Numbers → Numbers → Numbers
joined_numbers x y = numbers x.domain (bit_or x.bits y.bits)

-- The numbers that the other has too.
abbrev pub kept_numbers : Numbers → Numbers → Numbers
kept_numbers x y = numbers x.domain (bit_and x.bits y.bits)

-- The numbers that the other lacks.
abbrev pub other_numbers : Numbers → Numbers → Numbers
other_numbers x y = numbers x.domain (bit_xor x.bits (bit_and x.bits y.bits))

-- Some number is in both.
abbrev pub meets : Numbers → Numbers → Bool
meets x y = not (bit_and x.bits y.bits == 0)

-- How many numbers there are.
abbrev pub number_count : Numbers → ℕ
number_count x = count_ones x.bits

-- each number is below the size of the domain
abbrev pub AreSound : Numbers → Type 0
AreSound x = x.bits < 2 ^ domain_size x.domain
