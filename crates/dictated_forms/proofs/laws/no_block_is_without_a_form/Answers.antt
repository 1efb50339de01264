use Rattle.dictated_forms.proofs.FormLaws.{some_form, some_known}
use Rattle.dictated_forms.proofs.laws.no_block_is_without_a_form.Goals as goal

pub returns : goal.returns
returns c = record { form = some_form; known = some_known }
