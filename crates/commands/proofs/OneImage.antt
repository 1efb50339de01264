-- One image is fitted to an application, and one to the application of two texts.
use Rattle.std.proofs.Common.{◌≡◌, ℕ, ◌<◌, length, get_or, refl, sym, ◌∙◌, ap, subst, Option, Some, None}
use Rattle.std.specs.Prelude.{Bool, true, false, option_map, Ok}
use Rattle.std.proofs.lemmas.List.{ext_get_or}
use Rattle.osek_standard.specs.{declared.app.App.{App}, Apps.{is_site}}
use Rattle.oil_system.specs.declared.system.System.{System}
use Rattle.front_end.specs.Texts.{GivesApp}
use Rattle.front_end.proofs.OneAnswer.{one_oil, one_code}
use Rattle.image_model.specs.{declared.{image.Image.{Image}, site.{Form.{Form}, Known.{Known}, Site.{Site}}}, Sites.{IsSiteAt}}
use Rattle.image_codec.specs.Spelling.{spelling}
use Rattle.image_codec.proofs.DecodeLaws.{image_ext}
use Rattle.dictated_forms.specs.Forms.{FormOf, KnownOf, HasDictatedForms, HasDictatedStatuses}
use Rattle.abstract_state.specs.Tables.{Sets}
use Rattle.abstract_state.proofs.ContainmentLaws.{one_least}
use Rattle.dictated_forms.proofs.FormLaws.{one_form, one_known}
use Rattle.commands.specs.{Fitting.{IsFitted}, Laws.{OneImageIsBuilt}}

abbrev form_of_site : Option Site → Option Form
form_of_site x = option_map (λ (s : Site). s.form) x

abbrev known_of_site : Option Site → Option Known
known_of_site x = option_map (λ (s : Site). s.known) x

-- the form and the status that the table dictates of a site, if it is one
abbrev Dictated : App → Sets → ℕ → Option Site → Type 0
Dictated app table b x = (s : Site) → x ≡ Some s → FormOf app table b s.form × KnownOf app table b s.known

-- two sites of one block, each as the table dictates
same_site : (app : App) (table : Sets) (b : ℕ) (is : Bool) (x y : Option Site) → IsSiteAt app is x → IsSiteAt app is y →
    Dictated app table b x → Dictated app table b y → x ≡ y
same_site app table b is None None p q f g = refl
same_site app table b true None (Some t) p q f g = absurd cc
same_site app table b false None (Some t) p q f g = absurd cc
same_site app table b true (Some s) None p q f g = absurd cc
same_site app table b false (Some s) None p q f g = absurd cc
same_site app table b is (Some s) (Some t) p q f g =
    let forms = one_form app table b s.form t.form (f s refl).0 (g t refl).0 in
    let knowns = one_known app table b s.known t.known (f s refl).1 (g t refl).1 in
    (λ j. Some (record { form = forms j; known = knowns j }))

module _ (app : App) (table : Sets) where
  dictated : (i : Image) → i.app ≡ app → HasDictatedForms table i → HasDictatedStatuses table i → (b : ℕ) → Dictated app table b (get_or i.sites b None)
  dictated i is forms statuses b s e = (
    subst (λ (a : App). FormOf a table b s.form) is (forms b s.form (ap (λ (o : Option Site). form_of_site o) e)),
    subst (λ (a : App). KnownOf a table b s.known) is (statuses b s.known (ap (λ (o : Option Site). known_of_site o) e)),
  )

  -- the sites of two images with the forms and the statuses that the table dictates
  same_sites : (i j : Image) → i.app ≡ app → j.app ≡ app → HasDictatedForms table i → HasDictatedForms table j → HasDictatedStatuses table i → HasDictatedStatuses table j → i.sites ≡ j.sites
  same_sites i j x y f g h k =
      let blocks : length i.app.blocks ≡ length j.app.blocks = ap (λ (a : App). length a.blocks) (x ∙ sym y) in
      ext_get_or None i.sites j.sites (i.valid.count ∙ blocks ∙ sym j.valid.count)
      (λ b lt.
      let within : b < length i.app.blocks = subst (λ (n : ℕ). b < n) i.valid.count lt in
      same_site app table b (is_site app b) (get_or i.sites b None) (get_or j.sites b None)
      (subst (λ (a : App). IsSiteAt a (is_site a b) (get_or i.sites b None)) x (i.valid.each b within))
      (subst (λ (a : App). IsSiteAt a (is_site a b) (get_or j.sites b None)) y (j.valid.each b (subst (λ (n : ℕ). b < n) blocks within)))
      (dictated i x f h b) (dictated j y g k b))

-- the image that is fitted is one
pub one_fitted : (app : App) (i j : Image) → IsFitted app i → IsFitted app j → i ≡ j
one_fitted app i j x y =
    let tables = one_least app x.forms.table y.forms.table x.forms.least y.forms.least in
    let apps : i.app ≡ j.app = x.kernel.is ∙ sym y.kernel.is in
    let sites : i.sites ≡ j.sites = same_sites app y.forms.table i j x.kernel.is y.kernel.is (subst (λ (t : Sets). HasDictatedForms t i) tables x.forms.forms) y.forms.forms
    (subst (λ (t : Sets). HasDictatedStatuses t i) tables x.forms.statuses) y.forms.statuses in
    let versions : i.version ≡ j.version = x.forms.version ∙ sym y.forms.version in
    image_ext i j (λ k. record {
      version = versions k;
      hooks = (apps k).hooks;
      tables = record { tasks = (apps k).tasks; isrs = (apps k).isrs; counters = (apps k).counters; alarms = (apps k).alarms; resources = (apps k).resources; modes = (apps k).modes };
      blocks = (apps k).blocks;
      sites = sites k;
    })

pub one_image : OneImageIsBuilt
one_image oil code bytes others x y =
    let systems : x.system ≡ y.system = (let both = one_oil oil (Ok x.system) (Ok y.system) x.declares y.declares in cc both) in
    let apps : x.app ≡ y.app = (let both = one_code y.system code (Ok x.app) (Ok y.app) (subst (λ (s : System). GivesApp s code x.app) systems x.gives) y.gives in cc both) in
    x.are ∙ ap spelling (one_fitted y.app x.image y.image (subst (λ (a : App). IsFitted a x.image) apps x.fitted) y.fitted) ∙ sym y.are
