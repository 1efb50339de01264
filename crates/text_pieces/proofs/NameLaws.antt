-- Names: which bytes they have, and that no two of a list are the same.
use Rattle.std.proofs.Common.{◌≡◌, ℕ, ◌<◌, ◌≤◌, Bool, true, false, ◌||◌, not, eqb, leb, List, [], ◌∷◌, map, length, get_or, refl, sym, ◌∙◌, ap, inl, inr, arith}
use Rattle.std.specs.{List.{IsDistinct, list_all}, Str.{bytes_eq}}
use Rattle.std.proofs.{Math.ListN.{get_or-map}, lemmas.{Bool.{and_parts, cases_order, true≢false}, List.{length-map}, Map.Keys.{apart_from_distinct}, Slice.Eq.{bytes_eq-Decides}}}
use borrow.Author.Tests.{eqb-true, leb-true}
use Rattle.osek_values.specs.Names.{is_letter, is_digit, is_name_byte, is_word, is_name}

-- a byte that no name has
lacks_by : (b : Bool) (c d : ℕ) → is_name_byte d ≡ false → is_name_byte c ≡ true → eqb c d ≡ b → not b ≡ true
lacks_by true c d out within e = let same = eqb-true c d e in cc (ap is_name_byte same)
lacks_by false c d out within e = refl

pub byte_lacks : (c d : ℕ) → is_name_byte d ≡ false → is_name_byte c ≡ true → not (eqb c d) ≡ true
byte_lacks c d out within = lacks_by (eqb c d) c d out within refl

pub lacks : (d : ℕ) (cs : List ℕ) → is_name_byte d ≡ false → list_all is_name_byte cs ≡ true → list_all (λ c. not (eqb c d)) cs ≡ true
lacks d [] out h = refl
lacks d (c ∷ cs) out h =
    let parts = and_parts (is_name_byte c) (list_all is_name_byte cs) h in
    rw (byte_lacks c d out parts.0, lacks d cs out parts.1)

letter_by : (a b : Bool) → a ≡ true → (a || b) ≡ true
letter_by true b h = refl
letter_by false b h = absurd (cc)

word_bytes : (name : List ℕ) → is_word name ≡ true → (0 < length name) × (list_all is_name_byte name ≡ true)
word_bytes [] h = absurd (cc)
word_bytes (c ∷ cs) h =
    let parts = and_parts (is_letter c) (list_all is_name_byte cs) h in
    (omega arith, rw (letter_by (is_letter c) (is_digit c) parts.0, parts.1))

-- what is known of a name
pub record Name (name : List ℕ) : Type 0 where
  pub some : 0 < length name
  pub bytes : list_all is_name_byte name ≡ true
  pub short : length name ≤ 64

pub name_is : (name : List ℕ) → is_name name ≡ true → Name name
name_is name h =
    let parts = and_parts (is_word name) (leb (length name) 64) h in
    let bytes = word_bytes name parts.0 in
    record { some = bytes.0; bytes = bytes.1; short = leb-true (length name) 64 parts.1 }

module _ {X : Type 0} (name : X → List ℕ) (xs : List X) (none : X) (distinct : IsDistinct bytes_eq (map name xs)) where
  -- an earlier one has another name
  pub apart : (j k : ℕ) → j < k → k < length xs → bytes_eq (name (get_or xs j none)) (name (get_or xs k none)) ≡ false
  apart j k before below =
      let within : k < length (map name xs) = omega (arith, length-map xs name, below) in
      ap (λ n. bytes_eq n (name (get_or xs k none))) (sym (get_or-map name xs j none)) ∙ ap (λ n. bytes_eq (get_or (map name xs) j (name none)) n) (sym (get_or-map name xs k none))
      ∙ apart_from_distinct bytes_eq (map name xs) j k (name none) distinct before within

  earlier_differs : (j k : ℕ) → j < k → k < length xs → name (get_or xs j none) ≡ name (get_or xs k none) → ⊥
  earlier_differs j k before below e =
      let same = (bytes_eq-Decides (name (get_or xs j none)) (name (get_or xs k none))).1 e in
      true≢false (sym same ∙ apart j k before below)

  -- a name stands at one place
  pub name_once : (j k : ℕ) → j < length xs → k < length xs → name (get_or xs j none) ≡ name (get_or xs k none) → j ≡ k
  name_once j k lower upper e = elim (cases_order j k) [
    | inl same ↦ same
    | inr (inl before) ↦ absurd (earlier_differs j k before upper e)
    | inr (inr behind) ↦ absurd (earlier_differs k j behind lower (sym e))
  ]
