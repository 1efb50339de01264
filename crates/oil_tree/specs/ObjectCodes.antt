-- A spelling by which a proof tells two lists of objects apart.
use Rattle.std.specs.{Prelude.{ℕ, List, refl}, Coded.{Coded, code_by, coded×, coded_ℕ, coded_list}}
use Rattle.oil_tree.specs.{Attrs.{Attrs}, AttrCodes.{attrs_code}, declared.tree.Object.{Object}}

abbrev pub object_code : Coded Object
object_code =
    code_by (List ℕ × (ℕ × (List ℕ × Attrs))) (coded× (coded_list coded_ℕ) (coded× coded_ℕ (coded× (coded_list coded_ℕ) attrs_code))) (λ o. (o.kind, (o.line, (o.name, o.attrs)))) (λ p. record { kind = p.0; line = p.1.0; name = p.1.1.0; attrs = p.1.1.1 }) (λ _. refl)

abbrev pub objects_code : Coded (List Object)
objects_code = coded_list object_code
