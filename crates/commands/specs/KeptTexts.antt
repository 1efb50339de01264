-- A sink that keeps what is written: its bytes, and how often a write failed.
use Rattle.std.specs.Prelude.{ℕ, List}

pub record Kept : Type 0 where
  pub bytes : List ℕ
  pub faults : ℕ
