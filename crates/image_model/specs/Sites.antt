-- The sites of an image: one where a block of the application is a site, and none elsewhere.
use Rattle.std.specs.{Prelude.{◌≡◌, ⊤, ℕ, ◌<◌, Bool, not, IsTrue, List, length, slice_index_or, Option, Some, None, if◌then◌else◌}, Coded.{Unit-prop, le_prop}}
use Rattle.std.proofs.Props.{props}
use Rattle.osek_standard.specs.{declared.app.App.{App}, Apps.{is_site}}
use Rattle.image_model.specs.declared.site.{Form.{Form}, Site.{Site}}
use Rattle.image_model.specs.declared.site.Form.TheVariants as form
use Rattle.image_model.specs.declared.site.Known.TheVariants as known

-- a task that a form names is one of the application's
abbrev pub IsForm : ℕ → Form → Type 0
IsForm tasks form.Never = ⊤
IsForm tasks form.Stay = ⊤
IsForm tasks (form.Direct None) = ⊤
IsForm tasks (form.Direct (Some t)) = t.0 < tasks
IsForm tasks form.General = ⊤

-- whether a block is a site, and what stands for it
abbrev pub IsSiteAt : App → Bool → Option Site → Type 0
IsSiteAt app is None = IsTrue (not is)
IsSiteAt app is (Some x) = IsTrue is × IsForm (length app.tasks) x.form

pub record AreSites (app : App) (sites : List (Option Site)) : Type 0 where
  pub count : length sites ≡ length app.blocks
  pub each : (b : ℕ) → b < length app.blocks → IsSiteAt app (is_site app b) (slice_index_or sites b None)

pub IsForm-prop : (tasks : ℕ) (x : Form) → IsProp (IsForm tasks x)
IsForm-prop tasks form.Never = Unit-prop
IsForm-prop tasks form.Stay = Unit-prop
IsForm-prop tasks (form.Direct None) = Unit-prop
IsForm-prop tasks (form.Direct (Some t)) = le_prop
IsForm-prop tasks form.General = Unit-prop

pub IsSiteAt-prop : (app : App) (is : Bool) (x : Option Site) → IsProp (IsSiteAt app is x)
IsSiteAt-prop app is None = hlevel props
IsSiteAt-prop app is (Some x) = hlevel (props, IsForm-prop)

pub AreSites-prop : (app : App) (sites : List (Option Site)) → IsProp (AreSites app sites)
AreSites-prop app sites = hlevel (props, IsSiteAt-prop)

-- a site of the general form, of which nothing is known
abbrev pub general : Site
general = record { form = form.General; known = known.Any }

-- it stands if the block is a site
abbrev pub general_site : Bool → Option Site
general_site is = if is then Some general else None
