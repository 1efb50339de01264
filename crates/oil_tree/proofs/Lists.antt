-- The attributes at the top of the list that a vector holds are the vector's.
use Rattle.std.proofs.Common.{◌≡◌, List, [], ◌∷◌, refl, ap}
use Rattle.oil_tree.specs.{declared.tree.Attr.{Attr}, AttrLists.{list_of, attr_list}}

pub attr_list-list_of : (attrs : List Attr) → attr_list (list_of attrs) ≡ attrs
attr_list-list_of [] = refl
attr_list-list_of (a ∷ attrs) = ap (λ (more : List Attr). a ∷ more) (attr_list-list_of attrs)
