-- How many braces are open.
use Rattle.std.specs.Prelude.{ℕ, ◌+◌, ◌-◌, List, [], ◌∷◌}
use Rattle.oil_lexer.specs.declared.token.{TokenKind.{TokenKind, TheVariants.{Mark}}, Mark.TheVariants.{OpenBrace, CloseBrace}, Token.{Token}}

-- how many braces are open behind a token
abbrev pub deeper : ℕ → TokenKind → ℕ
deeper d (Mark OpenBrace) = d + 1
deeper d (Mark CloseBrace) = d - 1
deeper d _ = d

-- how many braces are open behind the tokens, where so many were open before
abbrev pub depth_from : ℕ → List Token → ℕ
depth_from d [] = d
depth_from d (t ∷ ts) = depth_from (deeper d t.kind) ts
