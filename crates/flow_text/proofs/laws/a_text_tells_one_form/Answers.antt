use Rattle.flow_text.proofs.FormsApart.{form_once}
use Rattle.flow_text.proofs.laws.a_text_tells_one_form.Goals as goal

pub returns : goal.returns
returns c = form_once
