use Rattle.osek_standard.proofs.PointLaws.{are_points, points_ascend, points_counted}
use Rattle.osek_standard.proofs.laws.points_are_counted.Goals as goal

pub returns : goal.returns
returns c = record {
  points = are_points;
  count = points_counted;
  order = points_ascend;
}
