-- The sites of general form, one block after the other.
use Rattle.std.proofs.Common.{◌≡◌, ℕ, ◌+◌, ◌<◌, Bool, true, false, List, [], ◌∷◌, ◌++◌, length, get_or, Option, None, refl, sym, ap, subst, ◌∙◌, inl, inr, arith}
use Rattle.std.specs.Prelude.{IfSome}
use Rattle.std.proofs.lemmas.{Bool.{cases_lt}, List.{get_or_append_left, get_or_push, length_push, Elements.{All-push}}}
use Rattle.osek_standard.specs.{declared.app.App.{App}, Apps.{is_site}}
use Rattle.image_model.specs.{declared.site.Site.{Site}, Sites.{IsSiteAt, general, general_site}, ImageTrace.{AreGeneral}}

-- the sites of the first n blocks
pub record AreFirstSites (app : App) (n : ℕ) (sites : List (Option Site)) : Type 0 where
  pub count : length sites ≡ n
  pub each : (b : ℕ) → b < n → IsSiteAt app (is_site app b) (get_or sites b None)
  pub general : AreGeneral sites

abbrev IsGeneralSite : Option Site → Type 0
IsGeneralSite x = IfSome x (λ s. s ≡ general)

is_general : (is : Bool) → IsGeneralSite (general_site is)
is_general true = refl
is_general false = tt

is_its_site : (app : App) (is : Bool) → IsSiteAt app is (general_site is)
is_its_site app true = (refl, tt)
is_its_site app false = refl

pub one_more : (app : App) (n : ℕ) (sites more : List (Option Site)) → AreFirstSites app n sites → more ≡ sites ++ general_site (is_site app n) ∷ [] → AreFirstSites app (n + 1) more
one_more app n sites more so_far e =
    let x = general_site (is_site app n) in
    subst (AreFirstSites app (n + 1)) (sym e) (record {
      count = length_push sites x ∙ ap (λ k. k + 1) so_far.count;
      each = λ b lt. elim (cases_lt b n) [
        | inl below ↦ subst (IsSiteAt app (is_site app b)) (sym (get_or_append_left sites (x ∷ []) None b (omega (arith, so_far.count)))) (so_far.each b below)
        | inr above ↦
            let same : b ≡ n = omega arith in
            subst (λ (k : ℕ). IsSiteAt app (is_site app k) (get_or (sites ++ x ∷ []) k None)) (sym same)
            (subst (IsSiteAt app (is_site app n)) (sym (get_or_push sites x None n so_far.count)) (is_its_site app (is_site app n)))
      ];
      general = All-push IsGeneralSite sites x so_far.general (is_general (is_site app n));
    })
