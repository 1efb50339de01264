-- The grammar of an OIL file (ISO 17356-6, the grammar of OIL, in this project's profile):
--
--   file:    [version] [impl] cpu
--   version: OIL_VERSION = text [desc] ;
--   impl:    IMPLEMENTATION name { balanced } [desc] ;
--   cpu:     CPU name { object* } [desc] ;
--   object:  name name [ { attr* } ] [desc] ;
--   attr:    name = value [ { attr* } ] [desc] ;
--   value:   name | text | [+ or -] number
--   desc:    : text
--
-- where balanced is any tokens whose braces balance. There is no limit of depth.
--
-- A relation with two lists of tokens says that the first list begins with such a phrase, and that the second is what
-- is left behind it. A repetition is told with its closing brace, and an optional part with what follows it.
use Rattle.std.specs.Prelude.{◌≡◌, ℕ, false, List, [], ◌∷◌}
use Rattle.oil_lexer.specs.declared.token.{Mark.TheVariants.{OpenBrace, CloseBrace, Equals, Semicolon, Colon, Plus as plus_mark, Minus as minus_mark}, Token.{Token}}
use Rattle.oil_tree.specs.Attrs.{Attrs, no_attrs, attr_then}
use Rattle.oil_tree.specs.declared.tree.{Object.{Object}, Tree.{Tree}, Value.{Value, TheVariants.{Word, Quoted, Numeric}}, Sign.TheVariants.{Bare, Plus, Minus}}
use Rattle.oil_tree.specs.declared.words.Word.TheVariants.{Version, Implementation, Cpu}
use Rattle.oil_lexer.specs.Tokens.{name, number, text, mark, is_open, is_close}
use Rattle.oil_tree.specs.Words.{word_of}

-- value: name | text | [+ or -] number
pub data IsValue : Value → List Token → List Token → Type 0 where
  is_name : {n : List ℕ} {l : ℕ} {rest : List Token} → IsValue (Word n) (name n l ∷ rest) rest
  is_text : {t : List ℕ} {l : ℕ} {rest : List Token} → IsValue (Quoted t) (text t l ∷ rest) rest
  is_number : {v l : ℕ} {rest : List Token} → IsValue (Numeric Bare v) (number v l ∷ rest) rest
  is_plus : {v l l' : ℕ} {rest : List Token} → IsValue (Numeric Plus v) (mark plus_mark l ∷ (number v l' ∷ rest)) rest
  is_minus : {v l l' : ℕ} {rest : List Token} → IsValue (Numeric Minus v) (mark minus_mark l ∷ (number v l' ∷ rest)) rest

-- [desc] ;
pub data IsEnd : List Token → List Token → Type 0 where
  plain : {l : ℕ} {rest : List Token} → IsEnd (mark Semicolon l ∷ rest) rest
  described : {l l' l'' : ℕ} {t : List ℕ} {rest : List Token} → IsEnd (mark Colon l ∷ (text t l' ∷ (mark Semicolon l'' ∷ rest))) rest

mutual
  -- attr* }, each attribute on the line of its name
  pub data IsAttrs : Attrs → List Token → List Token → Type 0 where
    no_more : {l : ℕ} {rest : List Token} → IsAttrs no_attrs (mark CloseBrace l ∷ rest) rest
    one_more : {n : List ℕ} {l l' : ℕ} {value : Value} {inner next : Attrs} {a b c rest : List Token} → IsValue value a b → IsBody inner b c → IsAttrs next c rest → IsAttrs (attr_then n l value inner next) (name n l ∷ (mark Equals l' ∷ a)) rest

  -- [ { attr* } ] [desc] ;
  pub data IsBody : Attrs → List Token → List Token → Type 0 where
    bare : {a rest : List Token} → IsEnd a rest → IsBody no_attrs a rest
    nested : {l : ℕ} {inner : Attrs} {a b rest : List Token} → IsAttrs inner a b → IsEnd b rest → IsBody inner (mark OpenBrace l ∷ a) rest

-- object* }, each object on the line of its kind
pub data IsObjects : List Object → List Token → List Token → Type 0 where
  no_objects : {l : ℕ} {rest : List Token} → IsObjects [] (mark CloseBrace l ∷ rest) rest
  one_object : {k n : List ℕ} {l l' : ℕ} {attrs : Attrs} {next : List Object} {a b rest : List Token} → IsBody attrs a b → IsObjects next b rest → IsObjects (record { kind = k; line = l; name = n; attrs = attrs } ∷ next) (name k l ∷ (name n l' ∷ a)) rest

-- balanced }
pub data IsBalanced : List Token → List Token → Type 0 where
  closed : {l : ℕ} {rest : List Token} → IsBalanced (mark CloseBrace l ∷ rest) rest
  braces : {l : ℕ} {a b rest : List Token} → IsBalanced a b → IsBalanced b rest → IsBalanced (mark OpenBrace l ∷ a) rest
  other : {t : Token} {a rest : List Token} → is_open t.kind ≡ false → is_close t.kind ≡ false → IsBalanced a rest → IsBalanced (t ∷ a) rest

-- cpu, and the tree on the line of CPU
pub data IsCpu : Tree → List Token → List Token → Type 0 where
  cpu : {w n : List ℕ} {l l' l'' : ℕ} {objects : List Object} {a b rest : List Token} → word_of w ≡ Cpu → IsObjects objects a b → IsEnd b rest → IsCpu (record { line = l; objects = objects }) (name w l ∷ (name n l' ∷ (mark OpenBrace l'' ∷ a))) rest

-- [impl] cpu
pub data IsUnversioned : Tree → List Token → List Token → Type 0 where
  no_impl : {file : Tree} {a rest : List Token} → IsCpu file a rest → IsUnversioned file a rest
  impl : {file : Tree} {w n : List ℕ} {l l' l'' : ℕ} {a b c rest : List Token} → word_of w ≡ Implementation → IsBalanced a b → IsEnd b c → IsCpu file c rest → IsUnversioned file (name w l ∷ (name n l' ∷ (mark OpenBrace l'' ∷ a))) rest

-- [version] [impl] cpu
pub data IsFile : Tree → List Token → List Token → Type 0 where
  no_version : {file : Tree} {a rest : List Token} → IsUnversioned file a rest → IsFile file a rest
  version : {file : Tree} {w t : List ℕ} {l l' l'' : ℕ} {a b rest : List Token} → word_of w ≡ Version → IsEnd a b → IsUnversioned file b rest → IsFile file (name w l ∷ (mark Equals l' ∷ (text t l'' ∷ a))) rest

-- a sentence, with its tree
abbrev pub IsSentence : List Token → Tree → Type 0
IsSentence tokens file = IsFile file tokens []
