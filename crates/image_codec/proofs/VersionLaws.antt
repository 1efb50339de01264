-- Readers of what the versions differ in, and their spellings: the magic, and the fields that version 2 alone has.
use Rattle.std.proofs.Common.{◌≡◌, ℕ, ◌^◌, ◌<◌, ◌≤◌, Bool, false, inl, inr, ltb, List, ◌++◌, length, take, drop, Some, None, refl, sym, ap, subst, ◌∙◌, arith}
use Rattle.std.specs.{Int.{w16}, Str.{bytes_eq}}
use Rattle.std.proofs.lemmas.{Bool.{ltb-false, le-ltb}, List.{take_at, drop_at, take-append-drop, length-append, length-take}}
use Rattle.osek_standard.specs.declared.objects.Task.{Task}
use Rattle.image_model.specs.declared.image.Version.{Version}
use Rattle.image_model.specs.declared.image.Version.TheVariants as version
use Rattle.image_fields.specs.{declared.fault.ImageRule.TheVariants.{I1, I2, I3, I5}, Magic.{magic}}
use Rattle.image_codec.specs.Spelling.{one, two, further, flag_number}
use Rattle.image_fields.specs.Reading.{Read, fault_at, text_at, flag_at, further_byte_at, further_16_at}
use Rattle.image_fields.specs.TableReading.{version_of, version_at, is_property, property_at}
use Rattle.image_codec.proofs.Spells.{AreBytes-drop, Takes, Spells, nothing_more, wide16, Tested, tested_law, tested_byte_law, tested_number_law}
use Rattle.image_codec.proofs.FieldLaws.{bytes_eq_is, flag_law}
use Rattle.image_fields.proofs.Steps.{enough_ok}
use Rattle.image_codec.proofs.FoundLaws.{first_choice, found_law}

-- ---- the magic

abbrev front_at : ℕ → List ℕ → Read (List ℕ)
front_at len bytes = text_at len (length bytes) bytes

front_law : (len : ℕ) → Spells (front_at len) (λ x. x) (λ x. length x ≡ len)
front_law len = record {
  takes = λ bytes x rest fits e.
      let g = enough_ok (ltb (length bytes) len) (fault_at I1 bytes) (take len bytes, drop len bytes) (x, rest) e in
      let long : len ≤ length bytes = ltb-false _ _ g.0 in
      subst (λ (p : List ℕ × List ℕ). Takes bytes p.0 p.1 × (length p.0 ≡ len)) g.1 (
        record { parts = sym (take-append-drop len bytes); rest_fits = AreBytes-drop len bytes fits },
        omega (arith, length-take len bytes),
      );
  again = λ x rest good.
      let long : ltb (length (x ++ rest)) len ≡ false = le-ltb _ _ (omega (arith, length-append x rest)) in
      rw (long, take_at x rest len good, drop_at x rest len good) refl;
}

version_back : (front : List ℕ) (v : Version) → version_of front ≡ Some v → magic v ≡ front
version_back front v e =
    elim (first_choice (bytes_eq front (magic version.One)) version.One _ v e) [
      | inl h ↦ ap magic (sym h.1) ∙ sym (bytes_eq_is front (magic version.One) h.0)
      | inr e1 ↦ elim (first_choice (bytes_eq front (magic version.Two)) version.Two None v e1) [
        | inl h ↦ ap magic (sym h.1) ∙ sym (bytes_eq_is front (magic version.Two) h.0)
        | inr h ↦ absurd cc
      ]
    ]

version_again : (v : Version) → (length (magic v) ≡ 8) × (version_of (magic v) ≡ Some v)
version_again version.One = (refl, refl)
version_again version.Two = (refl, refl)

pub version_law : Spells version_at magic (λ _. Unit {0})
unfolding version_at
version_law =
    found_law (front_at 8) (λ x. x) (λ x. length x ≡ 8) I2 version_of magic (λ _. Unit {0}) (front_law 8)
    (λ front v _ e. (version_back front v e, tt)) (λ v _. version_again v)

-- ---- fields of version 2 alone

-- a number that passes a test in version 2, and is this one in version 1
abbrev pub IsFurther : Version → ℕ → (ℕ → Bool) → ℕ → Type 0
IsFurther version.One value test n = n ≡ value
IsFurther version.Two value test n = Tested test (λ k. k < 256) n

pub further_byte_law : (v : Version) (value : ℕ) (test : ℕ → Bool) → Spells (further_byte_at v value test) (λ n. further v (one n)) (IsFurther v value test)
unfolding further_byte_at
further_byte_law version.One value test = nothing_more value
further_byte_law version.Two value test = tested_byte_law test I3

-- the same of a number of two bytes
abbrev pub IsFurther16 : Version → ℕ → (ℕ → Bool) → ℕ → Type 0
IsFurther16 version.One value test n = n ≡ value
IsFurther16 version.Two value test n = Tested test (λ k. k < 2 ^ 16) n

pub further_16_law : (v : Version) (value : ℕ) (test : ℕ → Bool) → Spells (further_16_at v value test) (λ n. further v (two n)) (IsFurther16 v value test)
unfolding further_16_at
further_16_law version.One value test = nothing_more value
further_16_law version.Two value test = tested_number_law w16 (2 ^ 16) wide16 test I3

-- a property that goes with the tasks that name the resource
abbrev pub IsProperty : Version → List Task → ℕ → Bool → Type 0
IsProperty version.One tasks r internal = internal ≡ false
IsProperty version.Two tasks r internal = Tested (is_property tasks r) (λ _. Unit {0}) internal

pub property_law : (v : Version) (tasks : List Task) (r : ℕ) → Spells (property_at v tasks r) (λ internal. further v (one (flag_number internal))) (IsProperty v tasks r)
unfolding property_at
property_law version.One tasks r = nothing_more false
property_law version.Two tasks r = tested_law flag_at (λ internal. one (flag_number internal)) (λ _. Unit {0}) (is_property tasks r) I5 flag_law
