-- The words of the grammar.
use Rattle.std.specs.{Prelude.{ℕ, List, if◌then◌else◌, codes}, Str.{bytes_eq}}
use Rattle.oil_tree.specs.declared.words.Word.{Word, TheVariants.{Version, Implementation, Cpu, Other}}

-- the word that a name is to the grammar of a file
abbrev pub word_of : List ℕ → Word
word_of n =
    if bytes_eq n (codes "CPU") then Cpu
    else (if bytes_eq n (codes "OIL_VERSION") then Version
    else (if bytes_eq n (codes "IMPLEMENTATION") then Implementation
    else Other))
