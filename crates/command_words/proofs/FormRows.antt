-- What clap finds of words that are of a form.
use Rattle.std.proofs.{Common.{◌≡◌, Bool, true, ◌==◌, List, [], ◌∷◌, Some, length, map, drop, refl, ap, subst}, lemmas.Slice.Eq.{bytes_eq-Decides}}
use Rattle.std.specs.{List.{list_all}, Prelude.{find}, Str.{bytes_eq}, declared.option.Option.{Option}}
use borrow.Author.Tests.{eqb-true}
use Rattle.clap.specs.{Walk.{Row, Text, answers_to, rows_after}, Simple.{built, entered, subcommand_of}}
use Rattle.command_words.specs.{Command.{the_app, built_rule, words_row}, Forms.{Verb, verbs, is_plain, is_verb, is_form, takes}}
use Rattle.command_words.proofs.{Plain.{ArePlain, plain_words, both}, TopWalk.{names, verb_rows}, VerbLists.{any_of_each, each_equal}, VerbWalks.{takes_some, rows}}

-- clap finds the words of a verb
abbrev pub Finds : Text → Text → List Text → Type 0
Finds program verb rest = (name : Text) × (subcommand_of the_app (program ∷ verb ∷ rest) ≡ Some (name, words_row rest ∷ []))

-- what the walk meets at a verb, what it finds behind it, and whether there are words behind it
abbrev met_at : List Text → Verb → Option (Text × List Text) × (Option (Text × List Row) × Bool)
met_at rest v = (find (answers_to v.0) names, (entered (built the_app) (Some (v.0, rest)), takes_some v.1))

abbrev is_met : List Text → Verb → Option (Text × List Text) × (Option (Text × List Row) × Bool)
is_met rest v = (Some (v.0, []), (Some (v.0, rows_after (built_rule v.1 ∷ []) [] rest), true))

-- computed for each verb of the table
each_met : (rest : List Text) → map (met_at rest) verbs ≡ map (is_met rest) verbs
each_met rest = refl

module _ (program verb : Text) (rest : List Text) (p : ArePlain rest) where
  by_verb : (v : Verb) → takes v verb (length rest) ≡ true → met_at rest v ≡ is_met rest v → Finds program verb rest
  by_verb v e met =
      let h = both (bytes_eq v.0 verb) (length rest == v.1) e in
      let same : v.0 ≡ verb = (bytes_eq-Decides v.0 verb).0 h.0 in
      let n : length rest ≡ v.1 = eqb-true (length rest) v.1 h.1 in
      let are = rows v.1 rest (ap (λ m. m.1.1) met) n p in
      subst (λ (w : Text). Finds program w rest) same (v.0, verb_rows v.0 v.1 rest (ap (λ m. m.0) met) (ap (λ m. m.1.0) met) are program)

  pub verb_finds : is_verb verb (length rest) ≡ true → Finds program verb rest
  verb_finds e = any_of_each (λ v. takes v verb (length rest)) (λ v. met_at rest v ≡ is_met rest v) verbs (each_equal (met_at rest) (is_met rest) verbs (each_met rest)) e by_verb

-- the words behind the first two
pub form_finds : (ws : List Text) → is_form ws ≡ true → (name : Text) × (subcommand_of the_app ws ≡ Some (name, words_row (drop 2 ws) ∷ []))
form_finds (program ∷ verb ∷ rest) e =
    let h = both (list_all is_plain rest) (is_verb verb (length rest)) e in
    verb_finds program verb rest (plain_words rest h.0) h.1
form_finds (program ∷ []) e = absurd (cc)
form_finds [] e = absurd (cc)
