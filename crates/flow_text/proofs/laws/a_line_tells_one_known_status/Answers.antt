use Rattle.flow_text.proofs.LinesApart.{known_site_once}
use Rattle.flow_text.proofs.laws.a_line_tells_one_known_status.Goals as goal

pub returns : goal.returns
returns c = known_site_once
