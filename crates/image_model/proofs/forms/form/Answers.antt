-- the form of the site that stands at the block
use Rattle.std.proofs.Common.{rules}
use Rattle.image_model.proofs.forms.form.Goals as goal

pub returns-clause-form : goal.returns-clause-form
returns-clause-form c = search rules

pub returns-clause-none : goal.returns-clause-none
returns-clause-none c = search rules
