-- The steps of the writer's loops.
use Rattle.std.proofs.Common.{◌≡◌, ℕ, zero, suc, ◌+◌, ◌<◌, ◌≤◌, Bool, true, false, cond, List, [], ◌∷◌, ◌++◌, length, map, filter, take, drop, get_or, refl, sym, ap, ap₂, ◌∙◌, arith, append_assoc, drop-cons}
use Rattle.std.specs.{Prelude.{if◌then◌else◌, sum_by, Err}, Int.{to_be_bytes, w16}}
use Rattle.std.proofs.{Math.ListN.{drop_of_length-le}, lemmas.{Bool.{eq-eqb, ne_eqb}, List.{Sums.{sum_by-append, sum_by-cons}}}}
use Rattle.osek_standard.specs.{declared.point.Point.{Point}, Points.{point_number}}
use Rattle.abstract_state.specs.declared.value.{Component.{Component}, LiveVal.{LiveVal}, RoutineVal.{RoutineVal}, Val.TheVariants.{Live}, SourceVal.TheVariants.{In}, PartValue.{TheVariants.{OfTask, OfSource}}}
use Rattle.abstract_state.specs.ValueOrder.{flag_field}
use Rattle.numbered_sets.specs.{Numbers.{Numbers, has_number}, declared.table.NumberedRow.{NumberedRow}}
use Rattle.table_codec.specs.{declared.ascending.NumberedValue.{NumberedValue}, Ascending.{values_in}, Spelling.{flag_number, resource_numbers, sets_bytes, value_bytes}}
use Rattle.osek_values.specs.declared.limits.TheConstants.{MAX_TABLE}
use Rattle.table_codec.specs.{declared.fault.WriteFault.{WriteFault, TheVariants.{TooLong, Memory}}, Writing.{PutsBytes, all_in, merged_bytes}}
use Rattle.table_codec.proofs.{Fields.{narrow_fields}, WriteLaws.{values_more, too_many}}

-- ---- the values of a set

module _ (x : Numbers) where
  -- the first ones' number is no greater than that of all
  pub sum_prefix : (all : List NumberedValue) (k : ℕ) → sum_by flag_number (values_in x (take k all)) ≤ sum_by flag_number (values_in x all)
  sum_prefix all zero = (let none : sum_by flag_number [] ≡ 0 = refl in omega (arith, none))
  sum_prefix [] (suc k) = omega arith
  sum_prefix (w ∷ all) (suc k) = by_test (has_number x w.number) (sum_prefix all k)
    where
      by_test : (b : Bool) → sum_by flag_number (values_in x (take k all)) ≤ sum_by flag_number (values_in x all)
          → sum_by flag_number (map (λ (y : NumberedValue). y.value) (cond b (w ∷ filter (λ (y : NumberedValue). has_number x y.number) (take k all)) (filter (λ (y : NumberedValue). has_number x y.number) (take k all))))
          ≤ sum_by flag_number (map (λ (y : NumberedValue). y.value) (cond b (w ∷ filter (λ (y : NumberedValue). has_number x y.number) all) (filter (λ (y : NumberedValue). has_number x y.number) all)))
      by_test true le = omega (arith, le, sum_by-cons flag_number w.value (values_in x (take k all)), sum_by-cons flag_number w.value (values_in x all))
      by_test false le = le

  pub sum_more : (all : List NumberedValue) (i : ℕ) (v : NumberedValue) → i < length all → get_or all i v ≡ v → has_number x v.number ≡ true → sum_by flag_number (values_in x (take (i + 1) all)) ≡ sum_by flag_number (values_in x (take i all)) + flag_number v.value
  sum_more all i v lt at has =
      let one : sum_by flag_number (v.value ∷ []) ≡ flag_number v.value = (let none : sum_by flag_number [] ≡ 0 = refl in omega (arith, none, sum_by-cons flag_number v.value [])) in
      ap (sum_by flag_number) (values_more x all i v lt at ∙ ap (λ (b : Bool). values_in x (take i all) ++ (if b then v.value ∷ [] else [])) has)
      ∙ sum_by-append flag_number (values_in x (take i all)) (v.value ∷ [])
      ∙ ap (λ (n : ℕ). sum_by flag_number (values_in x (take i all)) + n) one

-- ---- the rows

module _ (ks : List Component) (values : List (List NumberedValue)) (ps : List Point) (rows : List NumberedRow) (place next : ℕ) (p : Point) (lt : place < length ps) (at : get_or ps place p ≡ p) where
  here : drop place ps ≡ p ∷ drop (place + 1) ps
  here = (let one : suc place ≡ place + 1 = omega arith in drop-cons ps place p lt ∙ ap₂ (λ (q : Point) (n : ℕ). q ∷ drop n ps) at one)

  -- the next row is the point's
  pub merged_row : (row : NumberedRow) → next < length rows → get_or rows next row ≡ row → point_number row.point ≡ point_number p
      → merged_bytes ks values (drop place ps) (drop next rows) ≡ (1 ∷ sets_bytes ks (all_in row.entry.sets values)) ++ merged_bytes ks values (drop (place + 1) ps) (drop (next + 1) rows)
  merged_row row less is same =
      let one : suc next ≡ next + 1 = omega arith in
      let first : drop next rows ≡ row ∷ drop (next + 1) rows = drop-cons rows next row less ∙ ap₂ (λ (r : NumberedRow) (n : ℕ). r ∷ drop n rows) is one in
      ap₂ (λ (qs : List Point) (rs : List NumberedRow). merged_bytes ks values qs rs) here first
      ∙ ap (λ (b : Bool). if b then 1 ∷ (sets_bytes ks (all_in row.entry.sets values) ++ merged_bytes ks values (drop (place + 1) ps) (drop (next + 1) rows)) else 0 ∷ merged_bytes ks values (drop (place + 1) ps) (row ∷ drop (next + 1) rows))
      (eq-eqb (point_number row.point) (point_number p) same)

  -- there is no further row
  pub merged_none : length rows ≤ next → merged_bytes ks values (drop place ps) (drop next rows) ≡ (0 ∷ []) ++ merged_bytes ks values (drop (place + 1) ps) (drop next rows)
  merged_none past =
      let none : drop next rows ≡ [] = drop_of_length-le rows past in
      ap₂ (λ (qs : List Point) (rs : List NumberedRow). merged_bytes ks values qs rs) here none ∙ ap (λ (rs : List NumberedRow). 0 ∷ merged_bytes ks values (drop (place + 1) ps) rs) (sym none)

  -- the next row is that of a later point
  pub merged_absent : (row : NumberedRow) → next < length rows → get_or rows next row ≡ row → (point_number row.point ≡ point_number p → ⊥)
      → merged_bytes ks values (drop place ps) (drop next rows) ≡ (0 ∷ []) ++ merged_bytes ks values (drop (place + 1) ps) (drop next rows)
  merged_absent row less is other =
      let one : suc next ≡ next + 1 = omega arith in
      let first : drop next rows ≡ row ∷ drop (next + 1) rows = drop-cons rows next row less ∙ ap₂ (λ (r : NumberedRow) (n : ℕ). r ∷ drop n rows) is one in
      ap₂ (λ (qs : List Point) (rs : List NumberedRow). merged_bytes ks values qs rs) here first
      ∙ ap (λ (b : Bool). if b then 1 ∷ (sets_bytes ks (all_in row.entry.sets values) ++ merged_bytes ks values (drop (place + 1) ps) (drop (next + 1) rows)) else 0 ∷ merged_bytes ks values (drop (place + 1) ps) (row ∷ drop (next + 1) rows))
      (ne_eqb (point_number row.point) (point_number p) other)
      ∙ ap (λ (rs : List NumberedRow). 0 ∷ merged_bytes ks values (drop (place + 1) ps) rs) (sym first)

-- ---- what is put next

-- what was put before it stands before it; and where it would be too much, so would be all
pub puts_on : (X : Type 0) (e : WriteFault) (start out after later piece more whole : List ℕ) → out ++ (piece ++ more) ≡ start ++ whole → PutsBytes {X = X} (Err e) out after piece → PutsBytes {X = X} (Err e) start later whole
puts_on X TooLong start out after later piece more whole e lt = too_many MAX_TABLE out piece more whole start e lt
puts_on X Memory start out after later piece more whole e lt = tt

joined : (a b c xs ys : List ℕ) → b ≡ a ++ xs → c ≡ b ++ ys → c ≡ a ++ (xs ++ ys)
joined a b c xs ys e d = d ∙ ap (λ (l : List ℕ). l ++ ys) e ∙ append_assoc a xs ys

-- the bytes of a Live value, one field after the other
pub live_put : (x : LiveVal) (out tag block further inside size all : List ℕ) → tag ≡ out ++ 1 ∷ [] → block ≡ tag ++ to_be_bytes w16 x.block.0 → further ≡ block ++ x.further ∷ [] → inside ≡ further ++ flag_field x.inside ∷ []
    → size ≡ inside ++ length x.held ∷ [] → all ≡ size ++ resource_numbers x.held → all ≡ out ++ value_bytes (OfTask (Live x))
live_put x out tag block further inside size all a b c d e f =
    let word = to_be_bytes w16 x.block.0 in
    let numbers = resource_numbers x.held in
    let five = joined inside size all (length x.held ∷ []) numbers e f in
    let flag = flag_field x.inside in
    let four = joined further inside all (flag ∷ []) (length x.held ∷ numbers) d five in
    let three = joined block further all (x.further ∷ []) (flag ∷ length x.held ∷ numbers) c four in
    let two = joined tag block all word (x.further ∷ flag ∷ length x.held ∷ numbers) b three in
    joined out tag all (1 ∷ []) (word ++ x.further ∷ flag ∷ length x.held ∷ numbers) a two
    ∙ ap (λ (l : List ℕ). out ++ 1 ∷ (word ++ x.further ∷ flag ∷ length x.held ∷ l)) (sym (narrow_fields 3 numbers))

-- and those of a routine
pub routine_put : (x : RoutineVal) (out tag block size all : List ℕ) → tag ≡ out ++ 1 ∷ [] → block ≡ tag ++ to_be_bytes w16 x.block.0 → size ≡ block ++ length x.held ∷ [] → all ≡ size ++ resource_numbers x.held
    → all ≡ out ++ value_bytes (OfSource (In x))
routine_put x out tag block size all a b c d =
    let word = to_be_bytes w16 x.block.0 in
    let numbers = resource_numbers x.held in
    let three = joined block size all (length x.held ∷ []) numbers c d in
    let two = joined tag block all word (length x.held ∷ numbers) b three in
    joined out tag all (1 ∷ []) (word ++ length x.held ∷ numbers) a two ∙ ap (λ (l : List ℕ). out ++ 1 ∷ (word ++ length x.held ∷ l)) (sym (narrow_fields 1 numbers))
