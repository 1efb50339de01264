-- What the matches of a verb hold.
use Rattle.std.proofs.Common.{◌≡◌, List, [], ◌∷◌, Some, codes, map, option_map, ◌∙◌, ap}
use Rattle.std.specs.{Borrow.{Bor}, declared.option.Option.{Option}}
use Rattle.clap.proofs.WalkLemmas.{raw_values-rows}
use Rattle.clap.specs.{Matches.{matched_of, raw_values}, Walk.{Text, Row, rows_of, all_of}, declared.parser.matches.Found.{Found}}
use Rattle.command_words.specs.Command.{words_row}

pub words_are : (f : Found) (rows : Option (Text × List Row)) (vs : List (Bor Text)) (name : Text) (words : List Text) → Some (rows_of f) ≡ option_map (λ p. p.1) rows →
    Some (map (λ (w : Bor Text). w.now) vs) ≡ option_map raw_values (matched_of f (codes "words")) → rows ≡ Some (name, words_row words ∷ []) → map (λ (w : Bor Text). w.now) vs ≡ words
words_are f rows vs name words e h is =
    let all : Some (rows_of f) ≡ Some (words_row words ∷ []) = e ∙ ap (option_map (λ p. p.1)) is in
    let one : rows_of f ≡ words_row words ∷ [] = cc in
    let same : Some (map (λ (w : Bor Text). w.now) vs) ≡ Some words = h ∙ raw_values-rows f (codes "words") ∙ ap (all_of (codes "words")) one in
    cc
