-- Sites of the same forms are shown and counted alike.
use Rattle.std.proofs.Common.{◌≡◌, ℕ, ◌+◌, ◌<◌, Bool, true, false, cond, List, [], ◌∷◌, ◌++◌, length, get_or, map, refl, sym, ap, ap₂, subst, ◌∙◌, sum_by, Option, Some, None, arith}
use Rattle.std.specs.{Prelude.{option_map, is_some}, List.{flat_map, enumerate_from}}
use Rattle.std.proofs.{Math.ListN.{get_or-map}, lemmas.List.{ext_get_or, length-map, Sums.{sum_by-cons}}}
use Rattle.osek_standard.specs.{declared.app.App.{App}, Apps.{is_site}}
use Rattle.image_model.specs.declared.{image.Image.{Image}, site.{Form.{Form}, Site.{Site}}}
use Rattle.image_model.specs.declared.image.Version.TheVariants as version
use Rattle.image_model.specs.Sites.{IsSiteAt}
use Rattle.dictated_forms.specs.Forms.{FormOf, HasDictatedForms}
use Rattle.abstract_state.specs.Tables.{Sets}
use Rattle.dictated_forms.proofs.FormLaws.{one_form}
use Rattle.flow_text.specs.{FormCounts.{is_never, is_stay, is_direct, is_general, is_site_with, site_counts}, Texts.{site_text, sites_text}, FlowLines.{site_line}}

abbrev form_of : Option Site → Option Form
form_of x = option_map (λ (s : Site). s.form) x

abbrev forms_of : List (Option Site) → List (Option Form)
forms_of sites = map (λ (x : Option Site). form_of x) sites

-- what is told of one
same_text : (app : App) (b : ℕ) (x y : Option Site) → form_of x ≡ form_of y → site_text app version.One b x ≡ site_text app version.One b y
same_text app b None None e = refl
same_text app b None (Some t) e = absurd (cc)
same_text app b (Some s) None e = absurd (cc)
same_text app b (Some s) (Some t) e = let forms : s.form ≡ t.form = cc in ap (site_line app b) forms

texts_from : (app : App) (n : ℕ) (xs ys : List (Option Site)) → forms_of xs ≡ forms_of ys →
    flat_map (λ (d : ℕ × Option Site). site_text app version.One d.0 d.1) (enumerate_from n xs) ≡ flat_map (λ (d : ℕ × Option Site). site_text app version.One d.0 d.1) (enumerate_from n ys)
texts_from app n [] [] e = refl
texts_from app n [] (y ∷ ys) e = absurd (cc)
texts_from app n (x ∷ xs) [] e = absurd (cc)
texts_from app n (x ∷ xs) (y ∷ ys) e =
    let first : form_of x ≡ form_of y = cc in
    let rest : forms_of xs ≡ forms_of ys = cc in
    ap₂ (λ (a b : List ℕ). a ++ b) (same_text app n x y first) (texts_from app (n + 1) xs ys rest)

pub same_texts : (app : App) (xs ys : List (Option Site)) → forms_of xs ≡ forms_of ys → sites_text app version.One xs ≡ sites_text app version.One ys
same_texts app xs ys e = texts_from app 0 xs ys e

-- how many pass a test
sums : (size : Option Site → ℕ) → ((x y : Option Site) → form_of x ≡ form_of y → size x ≡ size y) → (xs ys : List (Option Site)) → forms_of xs ≡ forms_of ys → sum_by size xs ≡ sum_by size ys
sums size same [] [] e = refl
sums size same [] (y ∷ ys) e = absurd (cc)
sums size same (x ∷ xs) [] e = absurd (cc)
sums size same (x ∷ xs) (y ∷ ys) e =
    let first : form_of x ≡ form_of y = cc in
    let rest : forms_of xs ≡ forms_of ys = cc in
    omega (arith, sum_by-cons size x xs, sum_by-cons size y ys, same x y first, sums size same xs ys rest)

same_test : (test : Form → Bool) (x y : Option Site) → form_of x ≡ form_of y → is_site_with test x ≡ is_site_with test y
same_test test None None e = refl
same_test test None (Some t) e = absurd (cc)
same_test test (Some s) None e = absurd (cc)
same_test test (Some s) (Some t) e = let forms : s.form ≡ t.form = cc in ap test forms

same_there : (x y : Option Site) → form_of x ≡ form_of y → is_some x ≡ is_some y
same_there None None e = refl
same_there None (Some t) e = absurd (cc)
same_there (Some s) None e = absurd (cc)
same_there (Some s) (Some t) e = refl

pub same_counts : (xs ys : List (Option Site)) → forms_of xs ≡ forms_of ys → site_counts xs ≡ site_counts ys
same_counts xs ys e =
    let count : (test : Option Site → Bool) → ((x y : Option Site) → form_of x ≡ form_of y → test x ≡ test y) → sum_by (λ x. cond (test x) 1 0) xs ≡ sum_by (λ x. cond (test x) 1 0) ys =
    λ test same. sums (λ x. cond (test x) 1 0) (λ x y h. ap (λ b. cond b 1 0) (same x y h)) xs ys e in
    λ i. record {
      sites = count is_some same_there i;
      never = count (is_site_with is_never) (same_test is_never) i;
      stay = count (is_site_with is_stay) (same_test is_stay) i;
      direct = count (is_site_with is_direct) (same_test is_direct) i;
      general = count (is_site_with is_general) (same_test is_general) i;
    }

-- two sites of one block, each of the form that the table dictates
same_form : (app : App) (table : Sets) (b : ℕ) (is : Bool) (x y : Option Site) → IsSiteAt app is x → IsSiteAt app is y →
    ((f : Form) → form_of x ≡ Some f → FormOf app table b f) → ((f : Form) → form_of y ≡ Some f → FormOf app table b f) → form_of x ≡ form_of y
same_form app table b is None None p q f g = refl
same_form app table b true None (Some t) p q f g = absurd cc
same_form app table b false None (Some t) p q f g = absurd cc
same_form app table b true (Some s) None p q f g = absurd cc
same_form app table b false (Some s) None p q f g = absurd cc
same_form app table b is (Some s) (Some t) p q f g = ap (λ (x : Form). Some x) (one_form app table b s.form t.form (f s.form refl) (g t.form refl))

-- the sites of two images of an application with the forms that a table dictates
pub same_forms : (app : App) (table : Sets) (i j : Image) → i.app ≡ app → j.app ≡ app → HasDictatedForms table i → HasDictatedForms table j → forms_of i.sites ≡ forms_of j.sites
same_forms app table i j x y f g =
    let blocks : length i.app.blocks ≡ length j.app.blocks = ap (λ (a : App). length a.blocks) (x ∙ sym y) in
    let as_many : length i.sites ≡ length j.sites = i.valid.count ∙ blocks ∙ sym j.valid.count in
    let size : (k : Image) → length (forms_of k.sites) ≡ length k.sites = λ k. length-map k.sites (λ (x : Option Site). form_of x) in
    ext_get_or None (forms_of i.sites) (forms_of j.sites) (size i ∙ as_many ∙ sym (size j))
    (λ b lt.
    let within : b < length i.app.blocks = omega (arith, lt, size i, i.valid.count) in
    get_or-map (λ (x : Option Site). form_of x) i.sites b None
    ∙ same_form app table b (is_site app b) (get_or i.sites b None) (get_or j.sites b None)
    (subst (λ (a : App). IsSiteAt a (is_site a b) (get_or i.sites b None)) x (i.valid.each b within))
    (subst (λ (a : App). IsSiteAt a (is_site a b) (get_or j.sites b None)) y (j.valid.each b (omega (arith, within, blocks))))
    (λ form e. subst (λ (a : App). FormOf a table b form) x (f b form e))
    (λ form e. subst (λ (a : App). FormOf a table b form) y (g b form e))
    ∙ sym (get_or-map (λ (x : Option Site). form_of x) j.sites b None))
