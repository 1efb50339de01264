-- what is known stands behind the form, where the block is a site
use Rattle.std.proofs.Common.{rules}
use Rattle.image_fields.specs.BlockReading.{site_at}
use Rattle.image_fields.proofs.sites.site.Goals as goal

pub returns-then-not-is_site : goal.returns-then-not-is_site
unfolding site_at
returns-then-not-is_site c = search rules
