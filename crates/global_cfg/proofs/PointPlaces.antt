-- Points in their order: that one stands there, and what a point that is put in leaves.
use Rattle.std.proofs.Common.{ℕ, ◌-◌, ◌<◌, List, length, get_or, refl, sym, subst, inl, inr, arith}
use Rattle.std.specs.List.{insert}
use Rattle.std.proofs.lemmas.{Bool.{cases_eq}, List.Elements.{Contains-get_or}}
use Rattle.osek_standard.specs.{declared.point.Point.{Point}, Points.{point_number}}
use Rattle.table_rows.{specs.Order.{AscendBy, IsPlaceBy, IsGapBy}, proofs.{ListEdits.{insert_has, insert_stays, insert_cases}, OrderLaws.{ascend_insert}}}
use Rattle.global_cfg.specs.PointOrder.{HasNumber, IsPut}

-- a point with the number is there
pub number_there : (points : List Point) (point : Point) (place : ℕ) → IsPlaceBy point_number points (point_number point) place → HasNumber points (point_number point)
number_there points point place at = record { point = get_or points place point; listed = Contains-get_or points place point at.known; is = at.is point }

-- it was put in its gap
pub put_new : (points : List Point) → AscendBy point_number points → (point : Point) (gap : ℕ) → IsGapBy point_number points (point_number point) gap → IsPut points point (insert points gap point)
put_new points order point gap at = record {
  order = ascend_insert point_number points order gap point at;
  kept = insert_stays points gap point at.known;
  from = insert_cases points gap point at.known;
  there = record { point = point; listed = insert_has points gap point at.known; is = refl };
}

-- one above the last belongs behind all
pub gap_behind : (points : List Point) → AscendBy point_number points → (n : ℕ)
    → ((d : Point) → 0 < length points → point_number (get_or points (length points - 1) d) < n) → IsGapBy point_number points n (length points)
gap_behind points order n above = record {
  known = omega arith;
  below = λ k d lt. elim (cases_eq k (length points - 1)) [
    | inl same ↦ subst (λ (j : ℕ). point_number (get_or points j d) < n) (sym same) (above d (omega (arith, lt)))
    | inr other ↦ omega (arith, order.before k (length points - 1) d (omega (arith, lt, other)) (omega (arith, lt)), above d (omega (arith, lt)))
  ];
  above = λ k d from lt. absurd (omega (arith, from, lt));
}
