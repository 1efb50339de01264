-- A list of attributes as data, and as the list of those at its top.
use Rattle.std.specs.Prelude.{List, [], ◌∷◌}
use Rattle.oil_tree.specs.{declared.tree.Attr.{Attr}, Attrs.{Attrs, no_attrs, attr_then}}

-- the attributes of a list, and behind them others
abbrev pub list_before : List Attr → Attrs → Attrs
list_before [] next = next
list_before (a ∷ more) next = attr_then a.name a.line a.value a.attrs (list_before more next)

abbrev pub list_of : List Attr → Attrs
list_of attrs = list_before attrs no_attrs

-- the attributes at the top, in order
abbrev pub attr_list : Attrs → List Attr
attr_list no_attrs = []
attr_list (attr_then n line value inner next) = record { name = n; line = line; value = value; attrs = inner } ∷ attr_list next
