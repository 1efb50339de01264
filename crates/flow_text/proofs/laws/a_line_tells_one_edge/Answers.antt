use Rattle.flow_text.proofs.LinesApart.{edge_once}
use Rattle.flow_text.proofs.laws.a_line_tells_one_edge.Goals as goal

pub returns : goal.returns
returns c = edge_once
