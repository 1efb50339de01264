-- The walk over the words of a verb, and what is found for its argument.
use Rattle.std.proofs.Common.{◌≡◌, ℕ, ◌==◌, ◌||◌, Bool, true, false, List, [], ◌∷◌, ◌++◌, Some, None, codes, length, refl, sym, ◌∙◌, ap, subst, append_assoc, arith}
use Rattle.std.proofs.lemmas.List.{append-nil}
use Rattle.std.specs.Prelude.{fold}
use borrow.Author.Tests.{eqb-true}
use Rattle.clap.specs.Walk.{Rule, Text, Walk, idle, positional, nothing_held, walk_from, walked, takes_several, rows_after}
use Rattle.command_words.specs.Command.{built_rule, words_row}
use Rattle.command_words.proofs.{Plain.{IsPlainWord, ArePlain}, VerbLists.{or_else}}

module _ (k : ℕ) (several : takes_several (built_rule k) ≡ true) where
  abbrev pub rules : List Rule
  rules = built_rule k ∷ []

  -- after these words
  abbrev at : List Text → Walk
  at [] = walk_from nothing_held
  at (v ∷ vs) = record { held = record { rows = []; pending = Some (codes "words", v ∷ vs); skip = 0 }; waiting = positional; position = 1; is_trailing = false; stopped = None }

  step : (vs : List Text) (w : Text) → IsPlainWord w → walked rules [] (at vs) w ≡ at (vs ++ w ∷ [])
  unfolding walked
  step [] w p = rw (p.dashes, p.long, p.short, several) refl
  step (v ∷ vs) w p = rw (p.dashes, p.long, p.short, several) refl

  walks : (vs ws : List Text) → ArePlain ws → fold (walked rules []) (at vs) ws ≡ at (vs ++ ws)
  walks vs [] p = ap at (sym (append-nil vs))
  walks vs (w ∷ ws) p = ap (λ (x : Walk). fold (walked rules []) x ws) (step vs w p.0) ∙ walks (vs ++ w ∷ []) ws p.1 ∙ ap at (append_assoc vs (w ∷ []) ws)

  several_rows : (v : Text) (vs : List Text) → ArePlain (v ∷ vs) → rows_after rules [] (v ∷ vs) ≡ words_row (v ∷ vs) ∷ []
  several_rows v vs p = rw (walks [] (v ∷ vs) p) refl

-- an argument of one value
one : Text → Walk
one w = record { held = record { rows = []; pending = Some (codes "words", w ∷ []); skip = 0 }; waiting = idle; position = 2; is_trailing = false; stopped = None }

one_step : (w : Text) → IsPlainWord w → walked (built_rule 1 ∷ []) [] (walk_from nothing_held) w ≡ one w
unfolding walked one
one_step w p = rw (p.dashes, p.long, p.short) refl

one_row : (w : Text) → IsPlainWord w → rows_after (built_rule 1 ∷ []) [] (w ∷ []) ≡ words_row (w ∷ []) ∷ []
unfolding one
one_row w p = rw (one_step w p) refl

one_rows : (w : Text) (ws : List Text) → length (w ∷ ws) ≡ 1 → IsPlainWord w → rows_after (built_rule 1 ∷ []) [] (w ∷ ws) ≡ words_row (w ∷ ws) ∷ []
one_rows w [] n p = one_row w p
one_rows w (x ∷ xs) n p = absurd (omega arith)

-- the argument takes one value or several
abbrev pub takes_some : ℕ → Bool
takes_some k = takes_several (built_rule k) || (k == 1)

-- it takes as many words as there are
pub rows : (k : ℕ) (ws : List Text) → takes_some k ≡ true → length ws ≡ k → ArePlain ws → rows_after (built_rule k ∷ []) [] ws ≡ words_row ws ∷ []
rows k [] e n p =
    let none : takes_some 0 ≡ true = subst (λ (j : ℕ). takes_some j ≡ true) (sym n) e in
    absurd (cc)
rows k (v ∷ vs) e n p =
    or_else (takes_several (built_rule k)) (k == 1) e
    (λ several. several_rows k several v vs p)
    (λ one.
    let is : k ≡ 1 = eqb-true k 1 one in
    subst (λ (j : ℕ). rows_after (built_rule j ∷ []) [] (v ∷ vs) ≡ words_row (v ∷ vs) ∷ []) (sym is) (one_rows v vs (n ∙ is) p.0))
