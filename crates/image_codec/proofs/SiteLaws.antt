-- Readers of sites, and their spelling: the form, and what is known of the status.
use Rattle.std.proofs.Common.{◌≡◌, ℕ, ◌+◌, ◌-◌, ◌^◌, ◌<◌, ◌≤◌, Bool, true, false, cond, ◌&&◌, eqb, leb, ltb, List, [], ◌++◌, length, Option, Some, None, Ok, refl, sym, ap, subst, ◌∙◌, arith, inl, inr}
use Rattle.std.specs.{Prelude.{slice_get}, Int.{w16}}
use Rattle.std.proofs.lemmas.Bool.{eqb-true, leb-true, and_parts}
use Rattle.osek_values.specs.Numbers.{task_no}
use Rattle.osek_values.specs.declared.status.Status.TheVariants as status
use Rattle.osek_standard.specs.{declared.block.Kind.{Kind}, Apps.{is_site_in}}
use Rattle.image_model.specs.declared.site.{Form.{Form}, Known.{Known}, Site.{Site}}
use Rattle.image_model.specs.declared.site.Form.TheVariants as form
use Rattle.image_model.specs.declared.site.Known.TheVariants as known
use Rattle.image_model.specs.declared.image.Version.{Version}
use Rattle.image_model.specs.declared.image.Version.TheVariants as version
use Rattle.image_fields.specs.declared.{fault.ImageRule.TheVariants.{I3}, parts.Tables.{Tables}}
use Rattle.image_codec.specs.Spelling.{one, two, further, form_number, known_number, site_bytes}
use Rattle.image_fields.specs.Reading.{AreBytes, Read, ◌>>=◌, byte_at, number_at}
use Rattle.image_fields.specs.BlockReading.{direct_form, form_of, form_at, knowns, known_of, known_at, stated_at, site_at}
use Rattle.image_fields.proofs.Steps.{bind_ok, ok_is}
use Rattle.image_codec.proofs.Spells.{joined2, Takes, Spells, nothing_more, and_then, said, wide16, number_law, byte_law}
use Rattle.image_codec.proofs.FoundLaws.{first_choice, found_law}
use Rattle.image_codec.proofs.KindLaws.{listed}

-- ---- forms

direct_back : (tasks n : ℕ) (f : Form) → direct_form tasks n ≡ Some f → form_number f ≡ n
direct_back tasks n f e =
    elim (first_choice (leb 0x0200 n && ltb n (0x0200 + tasks)) (form.Direct (Some (task_no (n - 0x0200)))) None f e) [
      | inl h ↦
          let enough : 0x0200 ≤ n = leb-true _ _ (and_parts (leb 0x0200 n) (ltb n (0x0200 + tasks)) h.0).0 in
          let back : 0x0200 + (n - 0x0200) ≡ n = omega (arith, enough) in
          ap form_number (sym h.1) ∙ back
      | inr h ↦ absurd cc
    ]

form_back : (tasks n : ℕ) (f : Form) → form_of tasks n ≡ Some f → form_number f ≡ n
form_back tasks n f e =
    elim (first_choice (eqb n 0x0000) form.Never _ f e) [
      | inl h ↦ ap form_number (sym h.1) ∙ sym (eqb-true n 0x0000 h.0)
      | inr e1 ↦ elim (first_choice (eqb n 0x0100) form.Stay _ f e1) [
        | inl h ↦ ap form_number (sym h.1) ∙ sym (eqb-true n 0x0100 h.0)
        | inr e2 ↦ elim (first_choice (eqb n 0x02ff) (form.Direct None) _ f e2) [
          | inl h ↦ ap form_number (sym h.1) ∙ sym (eqb-true n 0x02ff h.0)
          | inr e3 ↦ elim (first_choice (eqb n 0x0300) form.General _ f e3) [
            | inl h ↦ ap form_number (sym h.1) ∙ sym (eqb-true n 0x0300 h.0)
            | inr e4 ↦ direct_back tasks n f e4
          ]
        ]
      ]
    ]

-- a form whose number stands for it
abbrev pub GoodForm : ℕ → Form → Type 0
GoodForm tasks f = (form_of tasks (form_number f) ≡ Some f) × (form_number f < 2 ^ 16)

form_law : (tasks : ℕ) → Spells (form_at tasks) (λ f. two (form_number f)) (GoodForm tasks)
unfolding form_at
form_law tasks =
    found_law (number_at w16) two (λ n. n < 2 ^ 16) I3 (form_of tasks) form_number (GoodForm tasks) (number_law w16 (2 ^ 16) wide16)
    (λ n f small e.
    let same = form_back tasks n f e in
    (same, (ap (form_of tasks) same ∙ e, subst (λ (k : ℕ). k < 2 ^ 16) (sym same) small)))
    (λ f good. (good.1, good.0))

-- ---- known statuses

known_back : (n : ℕ) (k : Known) → known_of n ≡ Some k → known_number k ≡ n
known_back n k e =
    elim (first_choice (eqb n 0xff) known.Any (slice_get knowns n) k e) [
      | inl h ↦ ap known_number (sym h.1) ∙ sym (eqb-true n 0xff h.0)
      | inr h ↦ listed known_number knowns 10 refl refl n k h
    ]

known_again : (k : Known) → (known_number k < 256) × (known_of (known_number k) ≡ Some k)
known_again known.Any = (omega arith, refl)
known_again (known.Always None) = (omega arith, refl)
known_again (known.Always (Some status.Ok)) = (omega arith, refl)
known_again (known.Always (Some status.Access)) = (omega arith, refl)
known_again (known.Always (Some status.CallLevel)) = (omega arith, refl)
known_again (known.Always (Some status.Id)) = (omega arith, refl)
known_again (known.Always (Some status.Limit)) = (omega arith, refl)
known_again (known.Always (Some status.NoFunc)) = (omega arith, refl)
known_again (known.Always (Some status.Resource)) = (omega arith, refl)
known_again (known.Always (Some status.State)) = (omega arith, refl)
known_again (known.Always (Some status.Value)) = (omega arith, refl)

-- version 1 says nothing
abbrev pub GoodKnown : Version → Known → Type 0
GoodKnown version.One k = k ≡ known.Any
GoodKnown version.Two k = Unit {0}

known_law : (v : Version) → Spells (known_at v) (λ k. further v (one (known_number k))) (GoodKnown v)
unfolding known_at
known_law version.One = nothing_more known.Any
known_law version.Two =
    found_law byte_at one (λ n. n < 256) I3 known_of known_number (λ _. Unit {0}) byte_law
    (λ n k small e. (known_back n k e, tt)) (λ k _. known_again k)

-- ---- sites

abbrev a_site : Form → Known → Site
a_site f k = record { form = f; known = k }

abbrev stated_bytes : Version → Site → List ℕ
stated_bytes v x = two (form_number x.form) ++ further v (one (known_number x.known))

abbrev GoodStated : Version → ℕ → Site → Type 0
GoodStated v tasks x = GoodForm tasks x.form × GoodKnown v x.known

stated_law : (v : Version) (tasks : ℕ) → Spells (stated_at v tasks) (stated_bytes v) (GoodStated v tasks)
unfolding stated_at
stated_law v tasks =
    said (stated_at v tasks) _ _ (stated_bytes v) (GoodStated v tasks)
    (and_then (form_at tasks) (λ f. two (form_number f)) (GoodForm tasks) (λ (x : Site). x.form) _ _ _ (form_law tasks) (λ f _.
    and_then (known_at v) (λ k. further v (one (known_number k))) (GoodKnown v) (λ (x : Site). x.known) (λ k rest. Ok (a_site f k, rest)) (λ _. []) (λ k x. x ≡ a_site f k)
    (known_law v) (λ k _. nothing_more (a_site f k))
    (λ k x _ is. ap (λ (y : Site). y.known) is))
    (λ f x _ good. ap (λ (y : Site). y.form) good.1))
    (λ x. joined2 (two (form_number x.form)) (further v (one (known_number x.known))))
    (λ x good. (good.0, good.1.0))
    (λ x good. (good.0, (good.1, refl)))

-- what stands for a block that is a site, or isn't
abbrev pub GoodSite : Version → ℕ → Bool → Option Site → Type 0
GoodSite v tasks is None = is ≡ false
GoodSite v tasks is (Some x) = (is ≡ true) × GoodStated v tasks x

abbrev site_reader : Version → ℕ → Bool → List ℕ → Read (Option Site)
site_reader v tasks is bytes = cond is (stated_at v tasks bytes >>= (λ x. Ok (Some x.0, x.1))) (Ok (None, bytes))

site_takes : (v : Version) (tasks : ℕ) (is : Bool) (bytes : List ℕ) (x : Option Site) (rest : List ℕ) → AreBytes bytes → site_reader v tasks is bytes ≡ Ok (x, rest) → Takes bytes (site_bytes v x) rest × GoodSite v tasks is x
site_takes v tasks true bytes x rest fits e =
    let a = bind_ok (stated_at v tasks bytes) (λ y. Ok (Some y.0, y.1)) (x, rest) e in
    let u = (stated_law v tasks).takes bytes a.0.0 a.0.1 fits a.1 in
    subst (λ (p : Option Site × List ℕ). Takes bytes (site_bytes v p.0) p.1 × GoodSite v tasks true p.0) (ok_is (Some a.0.0, a.0.1) (x, rest) a.2) (u.0, (refl, u.1))
site_takes v tasks false bytes x rest fits e =
    subst (λ (p : Option Site × List ℕ). Takes bytes (site_bytes v p.0) p.1 × GoodSite v tasks false p.0) (ok_is (None, bytes) (x, rest) e) (record { parts = refl; rest_fits = fits }, refl)

site_again : (v : Version) (tasks : ℕ) (is : Bool) (x : Option Site) (rest : List ℕ) → GoodSite v tasks is x → site_reader v tasks is (site_bytes v x ++ rest) ≡ Ok (x, rest)
site_again v tasks true None rest good = absurd cc
site_again v tasks false None rest good = refl
site_again v tasks true (Some x) rest good = ap (λ (r : Read Site). r >>= λ y. Ok (Some y.0, y.1)) ((stated_law v tasks).again x rest good.1)
site_again v tasks false (Some x) rest good = absurd (cc (good.0))

pub site_law : (t : Tables) (b : ℕ) (v : Version) (k : Kind) → Spells (site_at t b v k) (site_bytes v) (GoodSite v (length t.tasks) (is_site_in t.tasks b k))
unfolding site_at
site_law t b v k = record { takes = site_takes v (length t.tasks) (is_site_in t.tasks b k); again = site_again v (length t.tasks) (is_site_in t.tasks b k) }
