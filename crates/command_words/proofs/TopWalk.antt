-- The walk stops at a verb, and hands on the words behind it.
use Rattle.std.proofs.{Common.{◌≡◌, ℕ, false, List, [], ◌∷◌, ◌++◌, Some, sym, ◌∙◌, ap, append_assoc, refl}, lemmas.List.{append-nil}}
use Rattle.std.specs.Prelude.{fold, find}
use Rattle.clap.specs.{Walk.{Text, Row, Walk, Names, idle, nothing_held, walk_from, walked, walk, answers_to, rows_after}, Simple.{built, names_of, subcommand_of, entered}}
use Rattle.command_words.specs.Command.{the_app, built_rule, words_row}

abbrev pub names : Names
names = names_of (built the_app)

-- the walk has stopped at a verb, and has seen these words
abbrev halted : Text → List Text → Walk
halted name seen = record { held = nothing_held; waiting = idle; position = 1; is_trailing = false; stopped = Some (name, seen) }

more : (name : Text) (seen ws : List Text) → fold (walked [] names) (halted name seen) ws ≡ halted name (seen ++ ws)
unfolding walked
more name seen [] = ap (halted name) (sym (append-nil seen))
more name seen (w ∷ ws) = more name (seen ++ w ∷ []) ws ∙ ap (halted name) (append_assoc seen (w ∷ []) ws)

first : (name : Text) → find (answers_to name) names ≡ Some (name, []) → walked [] names (walk_from nothing_held) name ≡ halted name []
unfolding walked
first name e = rw e refl

stops : (name : Text) (rest : List Text) → find (answers_to name) names ≡ Some (name, []) → walk [] names nothing_held (name ∷ rest) ≡ halted name rest
stops name rest e = ap (λ (w : Walk). fold (walked [] names) w rest) (first name e) ∙ more name [] rest

-- what is found at a verb, for its argument of k values
pub verb_rows : (name : Text) (k : ℕ) (rest : List Text) → find (answers_to name) names ≡ Some (name, []) → entered (built the_app) (Some (name, rest)) ≡ Some (name, rows_after (built_rule k ∷ []) [] rest) →
    rows_after (built_rule k ∷ []) [] rest ≡ words_row rest ∷ [] → (program : Text) → subcommand_of the_app (program ∷ name ∷ rest) ≡ Some (name, words_row rest ∷ [])
verb_rows name k rest met found are program =
    ap (λ (w : Walk). entered (built the_app) w.stopped) (stops name rest met) ∙ found ∙ ap (λ (r : List Row). Some (name, r)) are
