-- The words of a command line by their number: a verb, and so many words behind it (this project's profile).
use Rattle.std.specs.{Prelude.{ℕ, ◌==◌, ◌&&◌, Bool, false, not, List, [], ◌∷◌, length, codes}, List.{list_all, list_any}, Str.{bytes_eq}}
use Rattle.command_words.specs.declared.forms.Form.{Form}

-- a verb, and how many words it takes
abbrev pub Verb : Type 0
Verb = List ℕ × ℕ

-- the stated forms
abbrev pub verbs : List Verb
verbs =
    (codes "build", 3) ∷ (codes "replay", 3) ∷ (codes "trace", 4) ∷ (codes "show", 2) ∷ (codes "report", 2) ∷ (codes "gen", 2) ∷ (codes "info", 1)
    ∷ (codes "upgrade", 2) ∷ (codes "certify", 4) ∷ (codes "check", 2) ∷ (codes "record", 3) ∷ (codes "watch", 3) ∷ []

-- a row of the table of forms: its verb, and how many words it names
abbrev pub verb_of : Form → Verb
verb_of form = (form.verb.now, length form.words.now)

-- neither empty nor beginning with a dash
abbrev pub is_plain : List ℕ → Bool
is_plain [] = false
is_plain (c ∷ cs) = not (c == 45)

abbrev pub takes : Verb → List ℕ → ℕ → Bool
takes v verb n = bytes_eq v.0 verb && (n == v.1)

-- a verb takes so many words
abbrev pub is_verb : List ℕ → ℕ → Bool
is_verb verb n = list_any (λ v. takes v verb n) verbs

-- the first word is the program's name, and isn't looked at
abbrev pub is_form : List (List ℕ) → Bool
is_form (program ∷ verb ∷ words) = list_all is_plain words && is_verb verb (length words)
is_form other = false
