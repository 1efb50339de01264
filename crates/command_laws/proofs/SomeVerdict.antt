-- Of each image and table some verdict is right: it can't be that none is. Whether a start or a step leaves the table and whether
-- a form fits is supposed both ways, place after place.
use Rattle.std.proofs.Common.{◌≡◌, ℕ, zero, suc, ◌<◌, ◌≤◌, Bool, true, false, length, option_map, Option, Some, None, refl, ap, subst, inl, inr}
use Rattle.std.proofs.Common.{arith}
use Rattle.std.proofs.lemmas.{Bool.{cases_lt, false≢true}, List.{get_or_past}}
use Rattle.std.specs.Prelude.{IsTrue}
use Rattle.osek_values.specs.{Numbers.{mode_no, block_no}, declared.{event.Event.{Event}}}
use Rattle.osek_standard.specs.{declared.{state.State.{State}, point.Point.{Point}}, Kernel.{start, step}, Points.{point_number, point_of}}
use Rattle.osek_standard.proofs.{InsideLaws.{step_inside}, StepKeeps.{step_keeps}}
use Rattle.image_model.specs.{declared.{image.Image.{Image}, site.{Form.{Form}, Known.{Known}, Site.{Site}}}, ImageStep.{form_at, known_at, site_at}}
use Rattle.abstract_state.specs.{Tables.{In, Inductive, Sets}}
use Rattle.dictated_forms.specs.Forms.{FormFits, KnownFits}
use Rattle.flow_check.specs.{declared.verdict.Verdict.{Verdict}, Verdicts.{IsVerdict, Leaves, StartsIn, StaysIn}}
use Rattle.flow_check.specs.declared.verdict.Verdict.TheVariants as verdict

stable : (b : Bool) → ((IsTrue b → ⊥) → ⊥) → IsTrue b
stable true h = refl
stable false h = absurd (h (λ e. false≢true e))

-- a fact of each number below n and of n, by an equation of its argument
below_or : (P : ℕ → Type 0) (n : ℕ) → ((b : ℕ) → b < n → P b) → P n → (b : ℕ) → b < suc n → P b
below_or P n below here b less = elim (cases_lt b n) [
  | inl h ↦ below b h
  | inr h ↦ (let same : n ≡ b = omega (arith, h, less) in subst P same here)
]

module _ (i : Image) (t : Sets) (none : (v : Verdict) → IsVerdict i t v → ⊥) where
  starts : (n : ℕ) → n ≤ length i.app.modes → (StartsIn i.app t n → ⊥) → ⊥
  starts zero h go = go (λ m less. absurd (omega (arith, less)))
  starts (suc n) h go = starts n (omega (arith, h)) (λ before. none (verdict.N1 (mode_no n)) (record {
    mode = omega (arith, h);
    before = before;
    out = λ inside. go (λ m less. below_or (λ k. In i.app t (start i.app (mode_no k)).state) n (λ k fewer. before (mode_no k) fewer) inside m.0 less);
  }))

  module _ (all : StartsIn i.app t (length i.app.modes)) where
    stays : (n : ℕ) → StaysIn i.app t n
    stays zero p less leaves = omega (arith, less)
    stays (suc n) p less leaves = elim (cases_lt (point_number p) n) [
      | inl h ↦ stays n p h leaves
      | inr h ↦ none (verdict.N2 p) (record { starts = all; before = λ q before l. stays n q (omega (arith, before, less)) l; leaves = leaves })
    ]

    never : (p : Point) → Leaves i.app t p → ⊥
    never p leaves = stays (suc (point_number p)) p (omega arith) leaves

    next_in : (s : State) (e : Event) → In i.app t s → In i.app t (step i.app s e).state
    next_in s e inside = record {
      well = step_keeps i.app s e inside.well;
      regular = record { inside = step_inside i.app s e inside.well inside.regular.inside };
      entry = stable _ (λ no. never (point_of s) (record { from = s; event = e; inside = inside; at = refl; out = λ h. no h.entry }));
      within = λ c known. stable _ (λ no. never (point_of s) (record { from = s; event = e; inside = inside; at = refl; out = λ h. no (h.within c known) }));
    }

    inductive : Inductive i.app t
    inductive = record { start = all; step = next_in }

    abbrev AreFit : ℕ → Type 0
    AreFit b = (f : Form) → form_at i b ≡ Some f → FormFits i.app t b f

    abbrev AreKnown : ℕ → Type 0
    AreKnown b = (k : Known) → known_at i b ≡ Some k → KnownFits i.app t b k

    forms : (n : ℕ) → (((b : ℕ) → b < n → AreFit b) → ⊥) → ⊥
    forms zero go = go (λ b less. absurd (omega (arith, less)))
    forms (suc n) go = forms n (λ before. at (form_at i n) refl before) where
      at : (o : Option Form) → form_at i n ≡ o → ((b : ℕ) → b < n → AreFit b) → ⊥
      at None e before = go (below_or AreFit n before (λ f is. absurd (cc)))
      at (Some f) e before = none (verdict.N3 (block_no n)) (record {
        inductive = inductive;
        before = λ b g less is. before b less g is;
        form = f;
        site = e;
        misfits = λ fits. go (below_or AreFit n before (λ g is. let same : f ≡ g = cc in subst (FormFits i.app t n) same fits));
      })

    module _ (fit : (b : ℕ) (f : Form) → form_at i b ≡ Some f → FormFits i.app t b f) where
      statuses : (n : ℕ) → (((b : ℕ) → b < n → AreKnown b) → ⊥) → ⊥
      statuses zero go = go (λ b less. absurd (omega (arith, less)))
      statuses (suc n) go = statuses n (λ before. at (known_at i n) refl before) where
        at : (o : Option Known) → known_at i n ≡ o → ((b : ℕ) → b < n → AreKnown b) → ⊥
        at None e before = go (below_or AreKnown n before (λ k is. absurd (cc)))
        at (Some k) e before = none (verdict.N4 (block_no n)) (record {
          inductive = inductive;
          forms = fit;
          before = λ b l less is. before b less l is;
          known = k;
          site = e;
          misfits = λ fits. go (below_or AreKnown n before (λ l is. let same : k ≡ l = cc in subst (KnownFits i.app t n) same fits));
        })

    -- no block past the sites is one
    no_site : (b : ℕ) → length i.sites ≤ b → site_at i b ≡ None
    no_site b past = get_or_past i.sites b None past

    each_form : ((b : ℕ) → b < length i.sites → AreFit b) → (b : ℕ) → AreFit b
    each_form below b f is = elim (cases_lt b (length i.sites)) [
      | inl h ↦ below b h f is
      | inr h ↦ (let gone : form_at i b ≡ None = ap (option_map (λ (x : Site). x.form)) (no_site b h) in absurd (cc))
    ]

    each_status : ((b : ℕ) → b < length i.sites → AreKnown b) → (b : ℕ) → AreKnown b
    each_status below b k is = elim (cases_lt b (length i.sites)) [
      | inl h ↦ below b h k is
      | inr h ↦ (let gone : known_at i b ≡ None = ap (option_map (λ (x : Site). x.known)) (no_site b h) in absurd (cc))
    ]

    inductive_said : ⊥
    inductive_said = forms (length i.sites) (λ fit. statuses (each_form fit) (length i.sites) (λ known.
        none verdict.Yes (inductive, record { forms = each_form fit; statuses = each_status known })))

  said : ⊥
  said = starts (length i.app.modes) (omega arith) inductive_said

pub some_verdict : (i : Image) (table : Sets) → ((v : Verdict) → IsVerdict i table v → ⊥) → ⊥
some_verdict i table none = said i table none
