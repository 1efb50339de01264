-- The lists of attributes of a tree, each in its scope: of an object, on the line of its kind, and in an attribute, on
-- the line of that attribute.
use Rattle.std.specs.{Prelude.{ℕ, List, [], ◌++◌, Option, Some, None}, List.{flat_map}}
use Rattle.oil_tree.specs.{AttrLists.{attr_list}, declared.tree.{Attr.{Attr}, Object.{Object}}}
use Rattle.oil_model.specs.{declared.table.Scope.{Scope}, Table.{scope_of, inner_scope}}

-- what is found in a list of attributes, by its scope and line
module _ (found : Scope → ℕ → List Attr → List ℕ) where
  -- in the list in an attribute, where the table has a scope there
  abbrev pub found_within : Attr → Option Scope → List ℕ
  found_within a None = []
  found_within a (Some scope) = found scope a.line (attr_list a.attrs)

  abbrev pub found_below : Scope → Attr → List ℕ
  found_below scope a = found_within a (inner_scope scope a.name a.value)

  -- in the lists of an object: its own, and those in its attributes
  abbrev pub found_at : Object → Option Scope → List ℕ
  found_at o None = []
  found_at o (Some scope) = found scope o.line (attr_list o.attrs) ++ flat_map (found_below scope) (attr_list o.attrs)

  abbrev pub found_of : Object → List ℕ
  found_of o = found_at o (scope_of o.kind)

  -- in all lists
  abbrev pub found_in : List Object → List ℕ
  found_in objects = flat_map found_of objects
