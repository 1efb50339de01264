-- a site has the general form
use Rattle.std.proofs.Common.{rules}
use Rattle.image_model.proofs.forms.general_site.Goals as goal

pub returns-then-is_site : goal.returns-then-is_site
returns-then-is_site c = search rules
