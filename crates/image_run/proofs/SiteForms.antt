-- What the site at a block says of the effect there.
use Rattle.std.proofs.Common.{Bool, IfSome, None, Some, arith, false, get_or-set_other, get_or-set_same, inl, inr, length, refl, slice_index_or, slice_set, subst, sym, true, ℕ, ◌<◌, ◌∙◌, ◌≡◌}
use Rattle.std.proofs.{Math.ListN.{length-set}, lemmas.Bool.{cases_eq}}
use Rattle.std.specs.declared.option.Option.{Option}
use Rattle.osek_standard.specs.{declared.app.App.{App}, Apps.{is_site}}
use Rattle.image_model.specs.{declared.{site.Site.{Site}, image.Image.{Image}}, Sites.{AreSites, IsForm, IsSiteAt}, ImageStep.{site_at}}

-- a block with a site is one
site_of : (app : App) (is : Bool) (x : Option Site) → IsSiteAt app is x → IfSome x (λ (y : Site). is ≡ true)
site_of app is None h = tt
site_of app is (Some x) h = h.0

no_site_of : (app : App) (is : Bool) (x : Option Site) → IsSiteAt app is x → x ≡ None → is ≡ false
no_site_of app true None h e = absurd (cc)
no_site_of app false None h e = refl
no_site_of app is (Some x) h e = absurd (cc)

pub is_of_site : (i : Image) (b : ℕ) → b < length i.app.blocks → IfSome (site_at i b) (λ (x : Site). is_site i.app b ≡ true)
is_of_site i b known = site_of i.app (is_site i.app b) (site_at i b) (i.valid.each b known)

pub no_site_there : (i : Image) (b : ℕ) → b < length i.app.blocks → site_at i b ≡ None → is_site i.app b ≡ false
no_site_there i b known e = no_site_of i.app (is_site i.app b) (site_at i b) (i.valid.each b known) e

-- another site in place of one
pub with_site : (i : Image) (b : ℕ) (y x : Site) → b < length i.app.blocks → site_at i b ≡ Some y → IsForm (length i.app.tasks) x.form → AreSites i.app (slice_set i.sites b (Some x))
with_site i b y x known e form =
    let here : b < length i.sites = omega (arith, i.valid.count, known) in
    let site : is_site i.app b ≡ true = subst (λ (o : Option Site). IfSome o (λ (z : Site). is_site i.app b ≡ true)) e (is_of_site i b known) in
    record {
      count = length-set i.sites b (Some x) ∙ i.valid.count;
      each = λ k below. elim (cases_eq k b) [
        | inl same ↦ (let at : IsSiteAt i.app (is_site i.app b) (Some x) = (site, form) in
            subst (λ (n : ℕ). IsSiteAt i.app (is_site i.app n) (slice_index_or (slice_set i.sites b (Some x)) n None)) (sym same)
            (subst (IsSiteAt i.app (is_site i.app b)) (sym (get_or-set_same i.sites b (Some x) None here)) at))
        | inr other ↦ subst (IsSiteAt i.app (is_site i.app k)) (sym (get_or-set_other i.sites b k (Some x) None other)) (i.valid.each k below)
      ];
    }
