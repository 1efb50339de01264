-- What stands in a list of attributes. The first attribute of a name counts; whether there may be more is for the rules.
use Rattle.std.specs.{Prelude.{ℕ, List, [], Bool, Option, Some, None, find, filter}, List.{list_any}, Str.{bytes_eq}}
use Rattle.oil_tree.specs.{declared.tree.{Attr.{Attr}, Value.{Value, TheVariants.{Word, Numeric}}}, AttrLists.{attr_list}}

abbrev pub is_named : List ℕ → Attr → Bool
is_named n a = bytes_eq a.name n

-- the attributes of a name, and the first of them
abbrev pub named : List ℕ → List Attr → List Attr
named n attrs = filter (is_named n) attrs

abbrev pub has : List ℕ → List Attr → Bool
has n attrs = list_any (is_named n) attrs

abbrev pub first_named : List ℕ → List Attr → Option Attr
first_named n attrs = find (is_named n) attrs

-- the number of a value, if it is one
abbrev pub number_or : ℕ → Value → ℕ
number_or default (Numeric sign v) = v
number_or default _ = default

abbrev pub number_at : ℕ → Option Attr → ℕ
number_at default None = default
number_at default (Some a) = number_or default a.value

-- the number at a name, or the default
abbrev pub number : List ℕ → List Attr → ℕ → ℕ
number n attrs default = number_at default (first_named n attrs)

-- the bytes of a value that is a name or a word, else none
abbrev pub word_of : Value → List ℕ
word_of (Word w) = w
word_of _ = []

abbrev pub word_at : Option Attr → List ℕ
word_at None = []
word_at (Some a) = word_of a.value

-- the word at a name
abbrev pub word : List ℕ → List Attr → List ℕ
word n attrs = word_at (first_named n attrs)

-- whether the name is there with this word
abbrev pub says : List ℕ → List ℕ → List Attr → Bool
says n w attrs = bytes_eq (word n attrs) w

abbrev pub inner_at : Option Attr → List Attr
inner_at None = []
inner_at (Some a) = attr_list a.attrs

-- the attributes in the attribute of a name
abbrev pub inner : List ℕ → List Attr → List Attr
inner n attrs = inner_at (first_named n attrs)

abbrev pub line_or : ℕ → Option Attr → ℕ
line_or default None = default
line_or default (Some a) = a.line

-- the line of the attribute of a name, or the default
abbrev pub line : List ℕ → List Attr → ℕ → ℕ
line n attrs default = line_or default (first_named n attrs)

abbrev pub attr_line : Attr → ℕ
attr_line a = a.line
