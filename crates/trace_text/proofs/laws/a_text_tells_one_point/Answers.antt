use Rattle.trace_text.proofs.PointsApart.{point_once}
use Rattle.trace_text.proofs.laws.a_text_tells_one_point.Goals as goal

pub returns : goal.returns
returns c = point_once
