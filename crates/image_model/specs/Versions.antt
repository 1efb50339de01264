-- What the versions of the image format ask of an image, beside the conditions of its application and of its sites.
use Rattle.std.specs.{Prelude.{⊤, List, All, Option, Some, None}, Coded.{Unit-prop}}
use Rattle.std.proofs.Props.{props}
use Rattle.osek_standard.specs.{declared.app.App.{App}, Apps.{tables}, Versions.{FitsVersion1, FitsVersion1-prop}}
use Rattle.image_model.specs.declared.image.Version.{Version}
use Rattle.image_model.specs.declared.image.Version.TheVariants as version
use Rattle.image_model.specs.declared.site.{Known.{Known}, Site.{Site}}
use Rattle.image_model.specs.declared.site.Known.TheVariants as known

-- nothing is known of a status
abbrev pub IsUnknown : Known → Type 0
IsUnknown known.Any = ⊤
IsUnknown (known.Always x) = ⊥

abbrev pub SaysNothing : Option Site → Type 0
SaysNothing None = ⊤
SaysNothing (Some x) = IsUnknown x.known

-- what version 1 asks alone: distinct priorities of tasks, for it has no place for further activations, INTERNAL resources,
-- priorities and resources of ISRs, and known statuses
pub record FitsVersion1Alone (app : App) (sites : List (Option Site)) : Type 0 where
  pub tables : FitsVersion1 (tables app)
  pub unknown : All SaysNothing sites

-- what a version asks that the other doesn't
abbrev pub FitsAlone : Version → App → List (Option Site) → Type 0
FitsAlone version.One app sites = FitsVersion1Alone app sites
FitsAlone version.Two app sites = ⊤

pub IsUnknown-prop : (x : Known) → IsProp (IsUnknown x)
IsUnknown-prop known.Any = Unit-prop
IsUnknown-prop (known.Always x) = hlevel props

pub SaysNothing-prop : (x : Option Site) → IsProp (SaysNothing x)
SaysNothing-prop None = Unit-prop
SaysNothing-prop (Some x) = IsUnknown-prop x.known

pub FitsVersion1Alone-prop : (app : App) (sites : List (Option Site)) → IsProp (FitsVersion1Alone app sites)
FitsVersion1Alone-prop app sites = hlevel (props, FitsVersion1-prop, SaysNothing-prop)

pub FitsAlone-prop : (x : Version) (app : App) (sites : List (Option Site)) → IsProp (FitsAlone x app sites)
FitsAlone-prop version.One app sites = FitsVersion1Alone-prop app sites
FitsAlone-prop version.Two app sites = Unit-prop
