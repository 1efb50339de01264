-- What holds of the objects that an OIL file declares (ISO 17356-6, standard objects).
use Rattle.std.specs.Prelude.{ℕ}

-- above the greatest base priority, which is twice a number of 16 bits
abbrev pub greatest_ceiling : ℕ
greatest_ceiling = 131071

-- one more than the greatest priority of an ISR, which is a number of 8 bits
abbrev pub greatest_interrupt_ceiling : ℕ
greatest_interrupt_ceiling = 256
