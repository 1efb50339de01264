-- Lists of attributes as data: attributes within attributes.
use Rattle.std.specs.Prelude.{ℕ, ◌+◌, List}
use Rattle.oil_tree.specs.declared.tree.Value.{Value}

-- a list of attributes: none, or one with its name, the line of the name, its value and the list in it, and then others
pub data Attrs : Type 0 where
  no_attrs : Attrs
  attr_then : (n : List ℕ) (line : ℕ) (value : Value) (inner next : Attrs) → Attrs

-- how many attributes there are, at all depths
abbrev pub nodes : Attrs → ℕ
nodes no_attrs = 0
nodes (attr_then n line value inner next) = nodes inner + nodes next + 1
