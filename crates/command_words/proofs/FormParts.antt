-- The form of words by their parts: the verb, and the words behind it.
use Rattle.std.proofs.{Common.{◌≡◌, ℕ, ◌-◌, ◌<◌, ◌≤◌, false, ◌&&◌, List, [], ◌∷◌, length, map, take, drop, get_or, refl, ap, arith, take_all}, lemmas.List.{length-map}}
use Rattle.std.specs.List.{list_all}
use Rattle.command_words.specs.Forms.{is_plain, is_verb, is_form}
use Rattle.command_words.proofs.Plain.{all_of_map}

module _ {X : Type 0} (bytes : X → List ℕ) where
  -- the words behind the first two
  abbrev pub behind : List X → List X
  behind ws = take (length ws - 2) (drop 2 ws)

  pub form_parts : (ws : List X) (verb : X) → 2 ≤ length ws → verb ≡ get_or ws 1 verb →
      is_form (map bytes ws) ≡ (list_all (λ x. is_plain (bytes x)) (behind ws) && is_verb (bytes verb) (length (behind ws)))
  form_parts (program ∷ v ∷ rest) verb h e =
      let whole : take (length (program ∷ v ∷ rest) - 2) rest ≡ rest = take_all (length (program ∷ v ∷ rest) - 2) rest (omega arith) in
      rw (whole, all_of_map is_plain bytes rest, e)
      (ap (λ (n : ℕ). list_all (λ (x : X). is_plain (bytes x)) rest && is_verb (bytes v) n) (length-map rest bytes))
  form_parts (program ∷ []) verb h e = absurd (omega arith)
  form_parts [] verb h e = absurd (omega arith)

  pub of_no_form : (ws : List X) → length ws < 2 → false ≡ is_form (map bytes ws)
  of_no_form [] h = refl
  of_no_form (program ∷ []) h = refl
  of_no_form (program ∷ verb ∷ rest) h = absurd (omega arith)
