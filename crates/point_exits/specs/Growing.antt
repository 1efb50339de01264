-- What becomes of a numbering as values come in.
use Rattle.std.specs.Prelude.{◌≡◌}
use Rattle.numbered_sets.specs.Pools.{IsLonger}
use Rattle.point_exits.specs.declared.numbering.Numbering.{Numbering}

-- It is one of the same application, and the numbers of values stay.
pub record IsGrown (before after : Numbering) : Type 0 where
  pub app : after.app.now ≡ before.app.now
  pub pool : IsLonger before.pool after.pool
