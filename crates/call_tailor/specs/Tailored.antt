-- The sites of what is found.
use Rattle.std.specs.{Prelude.{Some, None}, declared.option.Option.{Option}}
use Rattle.image_model.specs.declared.site.Site.{Site}
use Rattle.flow_check.specs.{declared.found.Findings.{Findings}, Found.{form_of, known_of}}

abbrev pub site_of : Option Findings → Option Site
site_of None = None
site_of (Some x) = Some (record { form = form_of x.outcome; known = known_of x.status })
