use Rattle.flow_text.proofs.LinesApart.{site_once}
use Rattle.flow_text.proofs.laws.a_line_tells_one_site.Goals as goal

pub returns : goal.returns
returns c = site_once
