-- The sites of an image by what is found over the rows of a table: which fit, and which is the first that doesn't.
use Rattle.std.proofs.Common.{◌≡◌, ℕ, ◌<◌, ◌≤◌, List, length, get_or, Some, None, refl, sym, ap, subst, ◌∙◌, inl, inr, arith}
use Rattle.std.specs.{Prelude.{option_map}, declared.option.Option.{Option}}
use Rattle.std.proofs.lemmas.{Bool.{cases_lt}, List.{get_or_past}}
use Rattle.osek_values.specs.declared.numbers.BlockNo.{BlockNo}
use Rattle.osek_standard.specs.Apps.{is_site}
use Rattle.image_model.specs.declared.{image.Image.{Image}, site.{Form.{Form}, Known.{Known}, Site.{Site}}}
use Rattle.image_model.specs.declared.site.Form.TheVariants as form
use Rattle.image_model.specs.Sites.{IsSiteAt}
use Rattle.abstract_state.specs.{declared.table.PlainTable.{PlainTable}, Tables.{Inductive, sets_of}, Written.{IsWritten}}
use Rattle.dictated_forms.specs.Forms.{FormOf, KnownOf, IsUnreached, FormFits, KnownFits}
use Rattle.dictated_forms.proofs.FormLaws.{one_form, one_known}
use Rattle.flow_model.specs.declared.case.Decision.TheVariants as decision
use Rattle.flow_check.specs.declared.found.{Found.{Found}, Findings.{Findings}}
use Rattle.flow_check.specs.declared.found.Found.TheVariants as found
use Rattle.flow_check.specs.{Found.{form_of, known_of}, Outcomes.{IsFoundAt, AreFound}, Fitting.{IsFormFit, IsKnownFit, AreFit, IsFirstUnfit}}
use Rattle.flow_check.specs.Verdicts.{FormsFit, StatusesFit, IsFirstForm, IsFirstKnown}
use Rattle.flow_check.proofs.FoundForms.{form_found, known_found}

-- the form is Never where no outcome is found alone
never_of_none : (x : Found) → form_of x ≡ form.Never → x ≡ found.None
never_of_none found.None e = refl
never_of_none (found.One decision.Keep) e = absurd (cc)
never_of_none (found.One (decision.To x)) e = absurd (cc)
never_of_none found.Several e = absurd (cc)

module _ (i : Image) (table : PlainTable) (written : IsWritten i.app table) where
  abbrev form_in : Option Site → Option Form
  form_in x = option_map (λ (site : Site). site.form) x

  abbrev known_in : Option Site → Option Known
  known_in x = option_map (λ (site : Site). site.known) x

  module _ (b : ℕ) where
    -- no state stands at a block exactly where no outcome is found there
    unreached : (x : Findings) → IsFoundAt i.app table.rows b (Some x) → x.outcome ≡ found.None → IsUnreached i.app (sets_of table) b
    unreached x f none = subst (λ (o : Found). FormOf i.app (sets_of table) b (form_of o)) none (form_found i.app table written b x f.1)

    none_found : (x : Findings) → IsFoundAt i.app table.rows b (Some x) → IsUnreached i.app (sets_of table) b → x.outcome ≡ found.None
    none_found x f none = never_of_none x.outcome (one_form i.app (sets_of table) b (form_of x.outcome) form.Never (form_found i.app table written b x f.1) none)

    no_site : (s : Site) → IsSiteAt i.app (is_site i.app b) (Some s) → IsFoundAt i.app table.rows b None → ⊥
    no_site s site f = (let yes = site.0 in let no = f in absurd (cc))

    form_fits : (x : Option Findings) (s : Option Site) → IsFoundAt i.app table.rows b x → IsSiteAt i.app (is_site i.app b) s → IsFormFit x s → (f : Form) → form_in s ≡ Some f → FormFits i.app (sets_of table) b f
    form_fits x None at site fit f e = absurd (cc)
    form_fits None (Some s) at site fit f e = absurd (no_site s site at)
    form_fits (Some x) (Some s) at site (inl none) f e = inl (unreached x at none)
    form_fits (Some x) (Some s) at site (inr (inl general)) f e = (let same : s.form ≡ f = cc in inr (inl (sym same ∙ general)))
    form_fits (Some x) (Some s) at site (inr (inr is)) f e =
        let same : s.form ≡ f = cc in
        inr (inr (subst (FormOf i.app (sets_of table) b) (sym is ∙ same) (form_found i.app table written b x at.1)))

    form_misfits : (x : Option Findings) (s : Option Site) → IsFoundAt i.app table.rows b x → (IsFormFit x s → ⊥) → (f : Form) × (form_in s ≡ Some f) × (FormFits i.app (sets_of table) b f → ⊥)
    form_misfits None s at unfit = absurd (unfit tt)
    form_misfits (Some x) None at unfit = absurd (unfit tt)
    form_misfits (Some x) (Some s) at unfit = (s.form, refl, by)
      where
        by : FormFits i.app (sets_of table) b s.form → ⊥
        by (inl none) = unfit (inl (none_found x at none))
        by (inr (inl general)) = unfit (inr (inl general))
        by (inr (inr of)) = unfit (inr (inr (one_form i.app (sets_of table) b s.form (form_of x.outcome) of (form_found i.app table written b x at.1))))

    known_fits : (x : Option Findings) (s : Option Site) → IsFoundAt i.app table.rows b x → IsSiteAt i.app (is_site i.app b) s → IsKnownFit x s → (k : Known) → known_in s ≡ Some k → KnownFits i.app (sets_of table) b k
    known_fits x None at site fit k e = absurd (cc)
    known_fits None (Some s) at site fit k e = absurd (no_site s site at)
    known_fits (Some x) (Some s) at site (inl none) k e = inl (unreached x at none)
    known_fits (Some x) (Some s) at site (inr (inl any)) k e = (let same : s.known ≡ k = cc in inr (inl (sym same ∙ any)))
    known_fits (Some x) (Some s) at site (inr (inr is)) k e =
        let same : s.known ≡ k = cc in
        inr (inr (subst (KnownOf i.app (sets_of table) b) (sym is ∙ same) (known_found i.app table written b x at.1)))

    known_misfits : (x : Option Findings) (s : Option Site) → IsFoundAt i.app table.rows b x → (IsKnownFit x s → ⊥) → (k : Known) × (known_in s ≡ Some k) × (KnownFits i.app (sets_of table) b k → ⊥)
    known_misfits None s at unfit = absurd (unfit tt)
    known_misfits (Some x) None at unfit = absurd (unfit tt)
    known_misfits (Some x) (Some s) at unfit = (s.known, refl, by)
      where
        by : KnownFits i.app (sets_of table) b s.known → ⊥
        by (inl none) = unfit (inl (none_found x at none))
        by (inr (inl any)) = unfit (inr (inl any))
        by (inr (inr of)) = unfit (inr (inr (one_known i.app (sets_of table) b s.known (known_of x.status) of (known_found i.app table written b x at.1))))

  module _ (sites : List (Option Findings)) (all : AreFound i.app table.rows sites) where
    -- a block with a site is the application's
    site_known : {Y : Type 0} (of : Site → Y) (b : ℕ) (y : Y) → option_map of (get_or i.sites b None) ≡ Some y → b < length i.app.blocks
    site_known of b y e = elim (cases_lt b (length i.app.blocks)) [
      | inl lt ↦ lt
      | inr past ↦
          (let none : get_or i.sites b None ≡ None = get_or_past i.sites b None (omega (arith, past, i.valid.count)) in
          let wrong : option_map of None ≡ Some y = ap (option_map of) (sym none) ∙ e in
          absurd (cc))
    ]

    pub forms_fit : (blocks : ℕ) → blocks ≤ length i.app.blocks → AreFit IsFormFit i.sites sites blocks → FormsFit (sets_of table) i blocks
    forms_fit blocks few fit b f lt e =
        let known : b < length i.app.blocks = omega (arith, lt, few) in
        form_fits b (get_or sites b None) (get_or i.sites b None) (all.each b known) (i.valid.each b known) (fit b lt) f e

    pub all_forms : (blocks : ℕ) → length i.app.blocks ≡ blocks → AreFit IsFormFit i.sites sites blocks → (b : ℕ) (f : Form) → form_in (get_or i.sites b None) ≡ Some f → FormFits i.app (sets_of table) b f
    all_forms blocks whole fit b f e = forms_fit blocks (omega (arith, whole)) fit b f (omega (arith, site_known (λ (site : Site). site.form) b f e, whole)) e

    pub statuses_fit : (blocks : ℕ) → blocks ≤ length i.app.blocks → AreFit IsKnownFit i.sites sites blocks → StatusesFit (sets_of table) i blocks
    statuses_fit blocks few fit b k lt e =
        let known : b < length i.app.blocks = omega (arith, lt, few) in
        known_fits b (get_or sites b None) (get_or i.sites b None) (all.each b known) (i.valid.each b known) (fit b lt) k e

    pub all_statuses : (blocks : ℕ) → length i.app.blocks ≡ blocks → AreFit IsKnownFit i.sites sites blocks → (b : ℕ) (k : Known) → known_in (get_or i.sites b None) ≡ Some k → KnownFits i.app (sets_of table) b k
    all_statuses blocks whole fit b k e = statuses_fit blocks (omega (arith, whole)) fit b k (omega (arith, site_known (λ (site : Site). site.known) b k e, whole)) e

    module _ (inductive : Inductive i.app (sets_of table)) (b : BlockNo) where
      pub first_form : IsFirstUnfit IsFormFit i.sites sites b.0 → IsFirstForm (sets_of table) i b.0
      first_form h =
          let there : b.0 < length i.app.blocks = omega (arith, h.known, i.valid.count) in
          let m = form_misfits b.0 (get_or sites b.0 None) (get_or i.sites b.0 None) (all.each b.0 there) h.unfit in
          record { inductive = inductive; before = forms_fit b.0 (omega (arith, there)) h.before; form = m.0; site = m.1; misfits = m.2 }

      pub first_known : AreFit IsFormFit i.sites sites (length i.app.blocks) → IsFirstUnfit IsKnownFit i.sites sites b.0 → IsFirstKnown (sets_of table) i b.0
      first_known forms h =
          let there : b.0 < length i.app.blocks = omega (arith, h.known, i.valid.count) in
          let m = known_misfits b.0 (get_or sites b.0 None) (get_or i.sites b.0 None) (all.each b.0 there) h.unfit in
          record { inductive = inductive; forms = all_forms (length i.app.blocks) refl forms; before = statuses_fit b.0 (omega (arith, there)) h.before; known = m.0; site = m.1; misfits = m.2 }
