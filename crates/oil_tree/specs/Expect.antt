-- What may still come, as a stack of phrases, and what a token makes of it.
use Rattle.std.specs.Prelude.{ℕ, List, [], ◌∷◌, Option, Some, None}
use Rattle.oil_lexer.specs.declared.token.{TokenKind.{TokenKind, TheVariants.{Name, Number, Text, Mark}}, Mark.TheVariants.{OpenBrace, CloseBrace, Equals, Semicolon, Colon, Plus, Minus}, Token.{Token}}
use Rattle.oil_tree.specs.declared.words.Word.{Word, TheVariants.{Version, Implementation, Cpu, Other}}
use Rattle.oil_lexer.specs.declared.fault.Stop.{Stop}
use Rattle.oil_lexer.specs.Scan as scans
use Rattle.oil_tree.specs.Words.{word_of}
use Rattle.osek_values.specs.declared.limits.TheConstants.{MAX_OIL_DEPTH}

-- a phrase of the grammar; each begins with a token
pub data Phrase : Type 0 where
  a_file an_unversioned a_cpu some_objects some_attrs some_balanced a_body an_end a_value : Phrase
  a_name a_text a_number an_equals an_open a_semicolon : Phrase

abbrev pub Stack : Type 0
Stack = List Phrase

-- what follows the first word of a file
abbrev pub after_cpu : Option Stack
after_cpu = Some (a_name ∷ (an_open ∷ (some_objects ∷ (an_end ∷ []))))

abbrev pub after_impl : Option Stack
after_impl = Some (a_name ∷ (an_open ∷ (some_balanced ∷ (an_end ∷ (a_cpu ∷ [])))))

abbrev pub cpu_word : Word → Option Stack
cpu_word Cpu = after_cpu
cpu_word _ = None

abbrev pub unversioned_word : Word → Option Stack
unversioned_word Implementation = after_impl
unversioned_word Cpu = after_cpu
unversioned_word _ = None

abbrev pub file_word : Word → Option Stack
file_word Version = Some (an_equals ∷ (a_text ∷ (an_end ∷ (an_unversioned ∷ []))))
file_word Implementation = after_impl
file_word Cpu = after_cpu
file_word Other = None

-- what is left of a phrase behind its first token
abbrev pub step : Phrase → TokenKind → Option Stack
step a_file (Name n) = file_word (word_of n)
step an_unversioned (Name n) = unversioned_word (word_of n)
step a_cpu (Name n) = cpu_word (word_of n)
step some_objects (Name n) = Some (a_name ∷ (a_body ∷ (some_objects ∷ [])))
step some_objects (Mark CloseBrace) = Some []
step some_attrs (Name n) = Some (an_equals ∷ (a_value ∷ (a_body ∷ (some_attrs ∷ []))))
step some_attrs (Mark CloseBrace) = Some []
step some_balanced (Mark OpenBrace) = Some (some_balanced ∷ (some_balanced ∷ []))
step some_balanced (Mark CloseBrace) = Some []
step some_balanced _ = Some (some_balanced ∷ [])
step a_body (Mark OpenBrace) = Some (some_attrs ∷ (an_end ∷ []))
step a_body (Mark Semicolon) = Some []
step a_body (Mark Colon) = Some (a_text ∷ (a_semicolon ∷ []))
step an_end (Mark Semicolon) = Some []
step an_end (Mark Colon) = Some (a_text ∷ (a_semicolon ∷ []))
step a_value (Name n) = Some []
step a_value (Text t) = Some []
step a_value (Number v) = Some []
step a_value (Mark Plus) = Some (a_number ∷ [])
step a_value (Mark Minus) = Some (a_number ∷ [])
step a_name (Name n) = Some []
step a_text (Text t) = Some []
step a_number (Number v) = Some []
step an_equals (Mark Equals) = Some []
step an_open (Mark OpenBrace) = Some []
step a_semicolon (Mark Semicolon) = Some []
step _ _ = None

-- behind a file nothing comes
abbrev pub behind_file : TokenKind → Option Stack
behind_file kind = None

-- what may come behind a token
abbrev pub step_all : Stack → TokenKind → Option Stack
step_all = scans.step_all Phrase step behind_file

-- what may come behind the tokens
abbrev pub run : Stack → List Token → Option Stack
run = scans.run Phrase step_all

-- where reading stops, from a depth on
abbrev pub scan : ℕ → Stack → List Token → Option Stop
scan = scans.scan Phrase step_all MAX_OIL_DEPTH
