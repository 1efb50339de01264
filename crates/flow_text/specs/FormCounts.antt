-- How many sites there are, and how many of each form.
use Rattle.std.specs.{Prelude.{Bool, true, false, List, count_by, is_some, Some, None}, declared.option.Option.{Option}}
use Rattle.image_model.specs.declared.site.{Form.{Form}, Site.{Site}}
use Rattle.image_model.specs.declared.site.Form.TheVariants as form
use Rattle.flow_text.specs.declared.form_counts.SiteCounts.{SiteCounts}

abbrev pub is_never : Form → Bool
is_never form.Never = true
is_never _ = false

abbrev pub is_stay : Form → Bool
is_stay form.Stay = true
is_stay _ = false

abbrev pub is_direct : Form → Bool
is_direct (form.Direct x) = true
is_direct _ = false

abbrev pub is_general : Form → Bool
is_general form.General = true
is_general _ = false

-- a site whose form passes the test
abbrev pub is_site_with : (Form → Bool) → Option Site → Bool
is_site_with test None = false
is_site_with test (Some x) = test x.form

abbrev pub site_counts : List (Option Site) → SiteCounts
site_counts sites = record {
  sites = count_by is_some sites;
  never = count_by (is_site_with is_never) sites;
  stay = count_by (is_site_with is_stay) sites;
  direct = count_by (is_site_with is_direct) sites;
  general = count_by (is_site_with is_general) sites;
}
