-- What reading a phrase did.
use Rattle.std.specs.Prelude.{◌≡◌, ℕ, ◌-◌, List, [], ◌∷◌, ◌++◌, ◌<◌, length, Some, None}
use Rattle.oil_lexer.specs.declared.{token.Token.{Token}, fault.Stop.{Stop}}
use Rattle.oil_tree.specs.Expect.{Phrase, Stack, scan, a_name, an_equals, a_value, a_body, some_attrs, some_objects, some_balanced, a_file, an_unversioned, a_cpu}
use Rattle.oil_tree.specs.{declared.tree.{Attr.{Attr}, Object.{Object}, Tree.{Tree}}, Attrs.{Attrs, attr_then}}
use Rattle.oil_tree.specs.Grammar.{IsAttrs, IsBody, IsObjects, IsBalanced, IsCpu, IsUnversioned, IsFile, IsSentence}

-- reading went on behind the phrase, from a depth to a depth
abbrev pub Takes : Phrase → ℕ → ℕ → List Token → List Token → Type 0
Takes phrase d d' tokens rest = (stack : Stack) → scan d (phrase ∷ stack) tokens ≡ scan d' stack rest

-- reading stops in the phrases
abbrev pub StopsIn : Stack → ℕ → List Token → Stop → Type 0
StopsIn phrases d tokens stop = (stack : Stack) → scan d (phrases ++ stack) tokens ≡ Some stop

-- reading stops at the front, whichever part of a file is to begin there
abbrev pub StopsAtWord : List Token → Stop → Type 0
StopsAtWord tokens stop = StopsIn (a_file ∷ []) 0 tokens stop × StopsIn (an_unversioned ∷ []) 0 tokens stop × StopsIn (a_cpu ∷ []) 0 tokens stop

-- name = value body, as the stack has it
abbrev pub attr_phrases : Stack
attr_phrases = a_name ∷ (an_equals ∷ (a_value ∷ (a_body ∷ [])))

-- the attribute joins those behind it
abbrev pub Joins : Attr → List Token → List Token → Type 0
Joins a tokens rest = (next : Attrs) (last : List Token) → IsAttrs next rest last → IsAttrs (attr_then a.name a.line a.value a.attrs next) tokens last

-- reading went on behind the phrases
abbrev pub TakesAll : Stack → ℕ → List Token → List Token → Type 0
TakesAll phrases d tokens rest = (stack : Stack) → scan d (phrases ++ stack) tokens ≡ scan d stack rest

-- an attribute was read at the front
pub record ReadsAttr (d : ℕ) (tokens : List Token) (a : Attr) (rest : List Token) : Type 0 where
  pub joins : Joins a tokens rest
  pub takes : TakesAll attr_phrases d tokens rest
  pub shorter : length rest < length tokens

-- [ { attr* } ] [desc] ; was read
pub record ReadsBody (d : ℕ) (tokens : List Token) (attrs : Attrs) (rest : List Token) : Type 0 where
  pub is_body : IsBody attrs tokens rest
  pub takes : Takes a_body d d tokens rest

-- attr* } was read
pub record ReadsAttrs (d : ℕ) (tokens : List Token) (attrs : Attrs) (rest : List Token) : Type 0 where
  pub is_attrs : IsAttrs attrs tokens rest
  pub takes : Takes some_attrs d (d - 1) tokens rest

-- name name body, as the stack has it
abbrev pub object_phrases : Stack
object_phrases = a_name ∷ (a_name ∷ (a_body ∷ []))

-- an object was read at the front
pub record ReadsObject (tokens : List Token) (o : Object) (rest : List Token) : Type 0 where
  pub joins : (next : List Object) (last : List Token) → IsObjects next rest last → IsObjects (o ∷ next) tokens last
  pub takes : TakesAll object_phrases 1 tokens rest
  pub shorter : length rest < length tokens

-- object* } was read
pub record ReadsObjects (tokens : List Token) (objects : List Object) (rest : List Token) : Type 0 where
  pub are_objects : IsObjects objects tokens rest
  pub takes : Takes some_objects 1 0 tokens rest

-- balanced } was read
pub record ReadsBalanced (d : ℕ) (tokens rest : List Token) : Type 0 where
  pub is_balanced : IsBalanced tokens rest
  pub takes : Takes some_balanced d (d - 1) tokens rest

-- a version was read, or none is there
pub record ReadsVersion (tokens rest : List Token) : Type 0 where
  pub joins : (tree : Tree) (last : List Token) → IsUnversioned tree rest last → IsFile tree tokens last
  pub takes : (stack : Stack) → scan 0 (a_file ∷ stack) tokens ≡ scan 0 (an_unversioned ∷ stack) rest

-- an implementation was read, or none is there
pub record ReadsImpl (tokens rest : List Token) : Type 0 where
  pub joins : (tree : Tree) (last : List Token) → IsCpu tree rest last → IsUnversioned tree tokens last
  pub takes : (stack : Stack) → scan 0 (an_unversioned ∷ stack) tokens ≡ scan 0 (a_cpu ∷ stack) rest

-- a CPU was read
pub record ReadsCpu (tokens : List Token) (tree : Tree) (rest : List Token) : Type 0 where
  pub is_cpu : IsCpu tree tokens rest
  pub takes : Takes a_cpu 0 0 tokens rest

-- a file was read
pub record ReadsFile (tokens : List Token) (tree : Tree) (rest : List Token) : Type 0 where
  pub is_file : IsFile tree tokens rest
  pub takes : Takes a_file 0 0 tokens rest

-- the whole was read
pub record ReadsAll (tokens : List Token) (tree : Tree) : Type 0 where
  pub is_sentence : IsSentence tokens tree
  pub taken : scan 0 (a_file ∷ []) tokens ≡ None
