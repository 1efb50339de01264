-- The test for points is right, and a written table says what stands in its rows.
use Rattle.std.proofs.Common.{◌≡◌, ◌↔◌, ℕ, Bool, true, ◌&&◌, refl, sym, ap, ap₂, ◌∙◌, IsTrue, Some, None}
use Rattle.std.specs.{Prelude.{◌==◌}, declared.option.Option.{Option}}
use Rattle.std.proofs.lemmas.{Bool.{eqb-true, eq-eqb, and_parts, and_from}, List.Folds.{Any-from_list_any, list_any_at}, Map.Views.{Contains-from_any, list_any-from_Contains}}
use Rattle.osek_values.specs.{Numbers.{task_no, block_no}, declared.numbers.{TaskNo.{TaskNo}, BlockNo.{BlockNo}}}
use Rattle.osek_standard.specs.declared.point.Point.{Point}
use Rattle.osek_standard.specs.declared.point.Point.TheVariants as point
use Rattle.abstract_state.specs.declared.{value.PartValue.{PartValue}, table.{TableRow.{TableRow}, PlainTable.{PlainTable}}}
use Rattle.abstract_state.specs.Tables.{same_over, same_point, set_at, is_member, is_row_of, sets_of, HasRow, HasValue}
use Rattle.abstract_state.proofs.OrderLaws.{part_right, part_laws}

block_by_number : (b c : BlockNo) → (b.0 == c.0) ≡ true → b ≡ c
block_by_number b c e = ap block_no (eqb-true b.0 c.0 e)

task_by_number : (t u : TaskNo) → (t.0 == u.0) ≡ true → t ≡ u
task_by_number t u e = ap task_no (eqb-true t.0 u.0 e)

over_right : (x y : Option TaskNo) → same_over x y ≡ true → x ≡ y
over_right None None e = refl
over_right (Some t) (Some u) e = ap (λ (v : TaskNo). Some v) (task_by_number t u e)
over_right None (Some u) e = absurd (cc)
over_right (Some t) None e = absurd (cc)

over_itself : (x : Option TaskNo) → same_over x x ≡ true
over_itself None = refl
over_itself (Some t) = eq-eqb t.0 t.0 refl

pub point_right : (p q : Point) → same_point p q ≡ true → p ≡ q
point_right point.Halted point.Halted e = refl
point_right point.Idle point.Idle e = refl
point_right (point.Task b) (point.Task c) e = ap point.Task (block_by_number b c e)
point_right (point.Routine b over) (point.Routine c under) e =
    let both = and_parts (b.0 == c.0) (same_over over under) e in
    ap₂ point.Routine (block_by_number b c both.0) (over_right over under both.1)
point_right _ _ e = absurd (cc)

pub point_itself : (p : Point) → same_point p p ≡ true
point_itself point.Halted = refl
point_itself point.Idle = refl
point_itself (point.Task b) = eq-eqb b.0 b.0 refl
point_itself (point.Routine b over) = and_from (b.0 == b.0) (same_over over over) (eq-eqb b.0 b.0 refl) (over_itself over)

abbrev has_value_at : Point → ℕ → PartValue → TableRow → Bool
has_value_at p c v row = is_row_of p row && is_member (set_at row.entry c) v

module _ (table : PlainTable) (p : Point) where
  row_found : IsTrue ((sets_of table).entry p) → HasRow table p
  row_found e =
      let r = Any-from_list_any (is_row_of p) table.rows e in
      record { row = r.1; among = (r.0, r.2, r.3); point = sym (point_right p r.1.point r.4) }

  found_row : HasRow table p → IsTrue ((sets_of table).entry p)
  found_row h = list_any_at (is_row_of p) table.rows h.among.0 h.row h.among.1 (ap (is_row_of p) h.among.2 ∙ ap (same_point p) h.point ∙ point_itself p)

  pub written_entry : IsTrue ((sets_of table).entry p) ↔ HasRow table p
  written_entry = (row_found, found_row)

  module _ (c : ℕ) (v : PartValue) where
    value_found : IsTrue ((sets_of table).has p c v) → HasValue table p c v
    value_found e =
        let r = Any-from_list_any (has_value_at p c v) table.rows e in
        let both = and_parts (is_row_of p r.1) (is_member (set_at r.1.entry c) v) r.4 in
        record { row = r.1; among = (r.0, r.2, r.3); point = sym (point_right p r.1.point both.0); member = Contains-from_any part_right v (set_at r.1.entry c).members both.1 }

    found_value : HasValue table p c v → IsTrue ((sets_of table).has p c v)
    found_value h = list_any_at (has_value_at p c v) table.rows h.among.0 h.row h.among.1
        (ap (has_value_at p c v) h.among.2
        ∙ and_from (is_row_of p h.row) (is_member (set_at h.row.entry c) v) (ap (same_point p) h.point ∙ point_itself p) (list_any-from_Contains part_laws v (set_at h.row.entry c).members h.member))

    pub written_value : IsTrue ((sets_of table).has p c v) ↔ HasValue table p c v
    written_value = (value_found, found_value)
