use Rattle.dictated_forms.proofs.FormLaws.{one_form, one_known}
use Rattle.dictated_forms.proofs.laws.one_form_is_dictated.Goals as goal

pub returns : goal.returns
returns c = record { known = one_known; form = one_form }
