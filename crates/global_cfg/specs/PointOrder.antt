-- Points that are put in a list in its order.
use Rattle.std.specs.Prelude.{◌≡◌, ◌⊎◌, ℕ, List, Contains}
use Rattle.osek_standard.specs.{declared.point.Point.{Point}, Points.{point_number}}
use Rattle.table_rows.specs.Order.{AscendBy}

-- one of the points has this number
pub record HasNumber (points : List Point) (number : ℕ) : Type 0 where
  pub point : Point
  pub listed : Contains points point
  pub is : point_number point ≡ number

-- The point, or one with its number, is among the points after, which were there before or are it.
pub record IsPut (before : List Point) (point : Point) (after : List Point) : Type 0 where
  pub order : AscendBy point_number after
  pub kept : (q : Point) → Contains before q → Contains after q
  pub from : (q : Point) → Contains after q → Contains before q ⊎ (q ≡ point)
  pub there : HasNumber after (point_number point)
