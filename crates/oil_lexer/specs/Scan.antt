-- What may still come behind tokens, as a stack of phrases, and the place where reading stops.
use Rattle.std.specs.Prelude.{ℕ, List, [], ◌∷◌, ◌++◌, nat_le, ◌&&◌, if◌then◌else◌, Option, Some, None, option_and_then}
use Rattle.osek_values.specs.declared.refusal.SyntaxRule.{SyntaxRule, TheVariants.{S1, S2, S3}}
use Rattle.oil_lexer.specs.declared.{token.{TokenKind.{TokenKind}, Token.{Token}}, fault.Stop.{Stop, TheVariants.{NotAllowed, TooDeep, Ends}}}
use Rattle.osek_values.specs.declared.refused.LineFault.{LineFault}
use Rattle.oil_lexer.specs.{Tokens.{is_open, last_line}, Depth.{deeper}}

-- The tokens end here: allowed where nothing is expected.
abbrev pub at_end : {Phrase : Type 0} → List Phrase → Option Stop
at_end [] = None
at_end (_ ∷ _) = Some Ends

-- what is left of a phrase is expected first
abbrev pub onto : {Phrase : Type 0} → List Phrase → Option (List Phrase) → Option (List Phrase)
onto stack None = None
onto stack (Some phrases) = Some (phrases ++ stack)

-- A grammar says what is left of a phrase behind its first token, and what a token begins where nothing is expected.
module _ (Phrase : Type 0) (step : Phrase → TokenKind → Option (List Phrase)) (begin : TokenKind → Option (List Phrase)) where
  -- what is expected behind a token, if it is allowed
  abbrev pub step_all : List Phrase → TokenKind → Option (List Phrase)
  step_all [] kind = onto [] (begin kind)
  step_all (phrase ∷ stack) kind = onto stack (step phrase kind)

-- So it says what is expected behind tokens, and where reading stops.
module _ (Phrase : Type 0) (step_all : List Phrase → TokenKind → Option (List Phrase)) where
  -- what is expected behind the tokens, if they are allowed
  abbrev pub run : List Phrase → List Token → Option (List Phrase)
  run stack [] = Some stack
  run stack (t ∷ ts) = option_and_then (λ next. run next ts) (step_all stack t.kind)

  module _ (limit : ℕ) where
    abbrev pub at_token : ℕ → Token → Option (List Phrase) → (List Phrase → Option Stop) → Option Stop
    at_token d t None go = Some (NotAllowed t.line)
    at_token d t (Some next) go = if is_open t.kind && nat_le limit d then Some (TooDeep t.line) else go next

    -- where reading stops, if it does, from a depth and a stack on
    abbrev pub scan : ℕ → List Phrase → List Token → Option Stop
    scan d stack [] = at_end stack
    scan d stack (t ∷ ts) = at_token d t (step_all stack t.kind) (λ next. scan (deeper d t.kind) next ts)

-- the fault of the place where reading stops
abbrev pub fault_of : Stop → List Token → (LineFault SyntaxRule)
fault_of (NotAllowed line) tokens = record { line = line; rule = S1 }
fault_of (TooDeep line) tokens = record { line = line; rule = S3 }
fault_of Ends tokens = record { line = last_line 1 tokens; rule = S2 }
