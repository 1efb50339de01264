-- The first fault of a list of tokens, by a grammar and a limit of depth (this project's profile). A grammar is the set
-- of its sentences with their trees, without any limit.
use Rattle.std.specs.Prelude.{◌≡◌, ℕ, ◌≤◌, List, [], ◌∷◌, ◌++◌, IsTrue}
use Rattle.osek_values.specs.declared.refusal.SyntaxRule.{SyntaxRule, TheVariants.{S1, S2, S3}}
use Rattle.oil_lexer.specs.{declared.token.Token.{Token}, Tokens.{is_open, last_line}, Depth.{depth_from}}

module _ (Tree : Type 0) (IsSentence : List Token → Tree → Type 0) (limit : ℕ) where
  -- the tokens are a prefix of a sentence
  abbrev pub IsPrefix : List Token → Type 0
  IsPrefix tokens = (more : List Token) × (tree : Tree) × IsSentence (tokens ++ more) tree

  -- behind the front comes an open brace that is nested deeper than the limit
  abbrev pub IsTooDeep : List Token → Token → Type 0
  IsTooDeep prefix t = IsTrue (is_open t.kind) × (limit ≤ depth_from 0 prefix)

  -- how the token behind a prefix fails: it isn't allowed there, or it is and opens a brace too deep
  abbrev pub FailsS1 : List Token → Token → Type 0
  FailsS1 prefix t = ¬ (IsPrefix (prefix ++ t ∷ []))

  abbrev pub FailsS3 : List Token → Token → Type 0
  FailsS3 prefix t = IsPrefix (prefix ++ t ∷ []) × IsTooDeep prefix t

  -- no token fails
  abbrev pub IsClear : List Token → Type 0
  IsClear tokens = (prefix : List Token) (t : Token) (back : List Token) → tokens ≡ prefix ++ t ∷ back → (¬ (FailsS1 prefix t)) × (¬ (FailsS3 prefix t))

  -- the first token that fails, and its line
  pub record FailsAt (Fails : List Token → Token → Type 0) (tokens : List Token) (line : ℕ) : Type 0 where
    pub prefix : List Token
    pub token : Token
    pub back : List Token
    pub parts : tokens ≡ prefix ++ token ∷ back
    pub clear : IsClear prefix
    pub fails : Fails prefix token
    pub line_is : line ≡ token.line

  -- no token fails, and the whole is no sentence: the line of the last token, or 1
  pub record EndsEarly (tokens : List Token) (line : ℕ) : Type 0 where
    pub clear : IsClear tokens
    pub no_sentence : (tree : Tree) → ¬ (IsSentence tokens tree)
    pub line_is : line ≡ last_line 1 tokens

  -- the first fault: a token isn't allowed here, the tokens end too early, an open brace is nested too deeply
  abbrev pub IsFirstFault : List Token → SyntaxRule → ℕ → Type 0
  IsFirstFault tokens S1 line = FailsAt FailsS1 tokens line
  IsFirstFault tokens S2 line = EndsEarly tokens line
  IsFirstFault tokens S3 line = FailsAt FailsS3 tokens line

  -- a sentence with its tree, and no brace nested too deeply
  pub record HasTree (tokens : List Token) (tree : Tree) : Type 0 where
    pub sentence : IsSentence tokens tree
    pub clear : IsClear tokens
