-- The points of an application ascend by their numbers, and are its points and no others.
use Rattle.osek_standard.specs.{declared.{app.App.{App}, point.Point.{Point}}, Points.{point_number, points_in_order, IsPoint}}
use Rattle.osek_standard.proofs.{Members.{Among, among_contained, contained_among}, PointLaws.{are_points, points_ascend}}
use Rattle.table_codec.proofs.Merging.{Up, up_from_sorted}

module _ (app : App) where
  pub points_up : Up point_number (points_in_order app)
  points_up = up_from_sorted point_number (points_in_order app) (points_ascend app)

  pub point_among : (p : Point) → IsPoint app p → Among p (points_in_order app)
  point_among p h = contained_among (points_in_order app) p ((are_points app).each p h)

  pub among_point : (p : Point) → Among p (points_in_order app) → IsPoint app p
  among_point p m = (are_points app).no_other p (among_contained (points_in_order app) p m)
