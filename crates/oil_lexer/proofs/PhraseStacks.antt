-- What a stack of phrases takes to its end is its phrases, and whatever the stack is, something completes it.
use Rattle.std.proofs.Common.{◌≡◌, ℕ, List, [], ◌∷◌, ◌++◌, refl, ◌∙◌}
use Rattle.std.specs.Prelude.{Option, Some, None, option_and_then}
use Rattle.oil_lexer.specs.declared.token.{TokenKind.{TokenKind}, Token.{Token}}
use Rattle.oil_lexer.specs.Scan as scans
use Rattle.oil_lexer.specs.Scan.{onto}

module _ (Phrase : Type 0) (step : Phrase → TokenKind → Option (List Phrase)) (begin : TokenKind → Option (List Phrase)) where
  abbrev run : List Phrase → List Token → Option (List Phrase)
  run = scans.run Phrase (scans.step_all Phrase step begin)

  -- the run behind a first token
  abbrev pub behind : List Phrase → List Token → Option (List Phrase) → Option (List Phrase)
  behind stack ts phrases = option_and_then (λ next. run next ts) (onto stack phrases)

  -- tokens that each phrase takes complete any stack
  module _ (least : Phrase → List Token → List Token)
      (least_taken : (p : Phrase) (stack : List Phrase) (more : List Token) → run (p ∷ stack) (least p more) ≡ run stack more) where
    pub completion : (stack : List Phrase) → (more : List Token) × (run stack more ≡ Some [])
    completion [] = ([], refl)
    completion (p ∷ stack) =
        let (more, e) = completion stack in
        (least p more, least_taken p stack more ∙ e)

  -- A grammar says which tokens are a phrase, with those behind them, and which may stand where nothing is expected.
  module _ (IsPhrase : Phrase → List Token → List Token → Type 0) (MayEnd : List Token → Type 0) where
    -- the tokens are the stack's phrases
    abbrev pub ArePhrases : List Phrase → List Token → Type 0
    ArePhrases [] ts = MayEnd ts
    ArePhrases (p ∷ stack) ts = (rest : List Token) × IsPhrase p ts rest × ArePhrases stack rest

    -- the stack behind a first token, as the stack before it
    abbrev pub Back : List Phrase → Token → List Phrase → List Token → Option (List Phrase) → Type 0
    Back before t stack ts None = Unit {0}
    Back before t stack ts (Some phrases) = ArePhrases (phrases ++ stack) ts → ArePhrases before (t ∷ ts)

    back_onto : (before : List Phrase) (t : Token) (stack : List Phrase) (ts : List Token) (phrases : Option (List Phrase)) → Back before t stack ts phrases
        → ((next : List Phrase) → run next ts ≡ Some [] → ArePhrases next ts) → behind stack ts phrases ≡ Some [] → ArePhrases before (t ∷ ts)
    back_onto before t stack ts None back more e = absurd cc
    back_onto before t stack ts (Some phrases) back more e = back (more (phrases ++ stack) e)

    module _ (back : (p : Phrase) (kind : TokenKind) (line : ℕ) (stack : List Phrase) (ts : List Token)
        → Back (p ∷ stack) (record { kind = kind; line = line }) stack ts (step p kind))
        (begins : (kind : TokenKind) (line : ℕ) (ts : List Token) → Back [] (record { kind = kind; line = line }) [] ts (begin kind))
        (may_end : MayEnd []) where
      pub taken : (ts : List Token) (stack : List Phrase) → run stack ts ≡ Some [] → ArePhrases stack ts
      taken [] [] e = may_end
      taken [] (p ∷ stack) e = absurd cc
      taken (t ∷ ts) [] e = back_onto [] t [] ts (begin t.kind) (begins t.kind t.line ts) (λ next h. taken ts next h) e
      taken (t ∷ ts) (p ∷ stack) e = back_onto (p ∷ stack) t stack ts (step p t.kind) (back p t.kind t.line stack ts) (λ next h. taken ts next h) e
