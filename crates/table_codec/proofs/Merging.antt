-- Rows in the order of their points, beside all points in their order: each row is the one of its point.
use Rattle.std.proofs.Common.{◌≡◌, ℕ, ◌<◌, Bool, true, false, cond, List, [], ◌∷◌, ◌++◌, map, filter, refl, sym, ap, ap₂, subst, ◌∙◌, inl, inr, arith, Some, None}
use Rattle.std.specs.{Cmp.{nat_cmp_is}, List.{AllByRecursion, Sorted.{IsStrictlySortedBy}}, Ordering.{nat_cmp}}
use Rattle.std.specs.declared.{cmp.Ordering.TheVariants.{Less, Equal, Greater}, option.Option.{Option}}
use Rattle.std.proofs.lemmas.Bool.{cases_Bool, cases_order}
use Rattle.osek_standard.specs.{declared.point.Point.{Point}, Points.{point_number}}
use Rattle.osek_standard.proofs.Members.{Among}
use Rattle.abstract_state.specs.{declared.table.{PlainEntry.{PlainEntry}, TableRow.{TableRow}}, Tables.{same_point, is_row_of}}
use Rattle.abstract_state.proofs.EqualityLaws.{point_right, point_itself}
use Rattle.numbered_sets.specs.PlainTables.{row_at}
use Rattle.table_codec.proofs.Ascends.{all_push}

less_is : (x y : ℕ) → nat_cmp x y ≡ Less → x < y
less_is x y e = elim (cases_order x y) [
  | inl same ↦ (let no : Equal ≡ nat_cmp x y = nat_cmp_is x y Equal same in absurd (cc))
  | inr (inl less) ↦ less
  | inr (inr more) ↦ (let no : Greater ≡ nat_cmp x y = nat_cmp_is x y Greater more in absurd (cc))
]

is_less : (x y : ℕ) → x < y → nat_cmp x y ≡ Less
is_less x y lt = sym (nat_cmp_is x y Less lt)

module _ {X : Type 0} (n : X → ℕ) where
  -- each has a lower number than those after it
  abbrev pub Up : List X → Type 0
  Up [] = Unit {0}
  Up (x ∷ xs) = AllByRecursion (λ y. n x < n y) xs × Up xs

  heads_up : (x : X) (xs : List X) → AllByRecursion (λ m. nat_cmp (n x) m ≡ Less) (map n xs) → AllByRecursion (λ y. n x < n y) xs
  heads_up x [] all = tt
  heads_up x (y ∷ xs) all = (less_is (n x) (n y) all.0, heads_up x xs all.1)

  pub up_from_sorted : (xs : List X) → IsStrictlySortedBy nat_cmp (map n xs) → Up xs
  unfolding IsStrictlySortedBy
  up_from_sorted [] up = tt
  up_from_sorted (x ∷ xs) up = (heads_up x xs up.0, up_from_sorted xs up.1)

  up_heads : (x : X) (xs : List X) → AllByRecursion (λ y. n x < n y) xs → AllByRecursion (λ m. nat_cmp (n x) m ≡ Less) (map n xs)
  up_heads x [] all = tt
  up_heads x (y ∷ xs) all = (is_less (n x) (n y) all.0, up_heads x xs all.1)

  pub sorted_from_up : (xs : List X) → Up xs → IsStrictlySortedBy nat_cmp (map n xs)
  unfolding IsStrictlySortedBy
  sorted_from_up [] up = tt
  sorted_from_up (x ∷ xs) up = (up_heads x xs up.0, sorted_from_up xs up.1)

  pub up_push : (xs : List X) (y : X) → Up xs → AllByRecursion (λ x. n x < n y) xs → Up (xs ++ y ∷ [])
  up_push [] y up below = (tt, tt)
  up_push (x ∷ xs) y up below = (all_push (λ z. n x < n z) xs y up.0 below.0, up_push xs y up.1 below.1)

abbrev pub row_number : TableRow → ℕ
row_number row = point_number row.point

-- the entry of a point, if it has one
abbrev pub first_entry : List TableRow → Option PlainEntry
first_entry [] = None
first_entry (row ∷ rows) = Some row.entry

abbrev pub found_in : List TableRow → Point → Option PlainEntry
found_in rows p = first_entry (filter (is_row_of p) rows)

-- the rows of points that have these entries
abbrev pub rows_of : List Point → List (Option PlainEntry) → List TableRow
rows_of [] found = []
rows_of (p ∷ ps) [] = []
rows_of (p ∷ ps) (None ∷ found) = rows_of ps found
rows_of (p ∷ ps) (Some entry ∷ found) = row_at p entry ∷ rows_of ps found

-- each row's point is among them
abbrev pub AreAt : List Point → List TableRow → Type 0
AreAt ps rows = AllByRecursion (λ (row : TableRow). Among row.point ps) rows

pub other_number : (p q : Point) → point_number p < point_number q → same_point p q ≡ false
other_number p q lt = elim (cases_Bool (same_point p q)) [
  | inl same ↦ absurd (omega (arith, lt, ap point_number (point_right p q same)))
  | inr other ↦ other
]

pub other_number_too : (p q : Point) → point_number q < point_number p → same_point p q ≡ false
other_number_too p q lt = elim (cases_Bool (same_point p q)) [
  | inl same ↦ absurd (omega (arith, lt, ap point_number (point_right p q same)))
  | inr other ↦ other
]

-- a row that isn't a point's
pub filter_other : (p : Point) (row : TableRow) (rows : List TableRow) → same_point p row.point ≡ false → filter (is_row_of p) (row ∷ rows) ≡ filter (is_row_of p) rows
filter_other p row rows e = ap (λ (b : Bool). cond b (row ∷ filter (is_row_of p) rows) (filter (is_row_of p) rows)) e

pub filter_own : (p : Point) (row : TableRow) (rows : List TableRow) → same_point p row.point ≡ true → filter (is_row_of p) (row ∷ rows) ≡ row ∷ filter (is_row_of p) rows
filter_own p row rows e = ap (λ (b : Bool). cond b (row ∷ filter (is_row_of p) rows) (filter (is_row_of p) rows)) e

-- behind a point no row is the point's
pub none_behind : (p : Point) (rows : List TableRow) → AllByRecursion (λ (row : TableRow). point_number p < row_number row) rows → filter (is_row_of p) rows ≡ []
none_behind p [] all = refl
none_behind p (row ∷ rows) all = filter_other p row rows (other_number p row.point all.0) ∙ none_behind p rows all.1

-- before a point none is
pub none_before : (p : Point) (rows : List TableRow) → AllByRecursion (λ (row : TableRow). row_number row < point_number p) rows → filter (is_row_of p) rows ≡ []
none_before p [] all = refl
none_before p (row ∷ rows) all = filter_other p row rows (other_number_too p row.point all.0) ∙ none_before p rows all.1

among_after : (p : Point) (ps : List Point) (q : Point) → AllByRecursion (λ (r : Point). point_number p < point_number r) ps → Among q ps → point_number p < point_number q
among_after p [] q all m = absurd m
among_after p (r ∷ ps) q all (inl e) = omega (arith, all.0, ap point_number e)
among_after p (r ∷ ps) q all (inr m) = among_after p ps q all.1 m

-- rows behind a point are among the points behind it
pub at_later : (p : Point) (ps : List Point) (rows : List TableRow) → AllByRecursion (λ (row : TableRow). point_number p < row_number row) rows → AreAt (p ∷ ps) rows → AreAt ps rows
at_later p ps [] all at = tt
at_later p ps (row ∷ rows) all at = elim at.0 [
  | inl same ↦ absurd (omega (arith, all.0, ap point_number same))
  | inr later ↦ (later, at_later p ps rows all.1 at.1)
]

all_above : (m : ℕ) (n : ℕ) (rows : List TableRow) → m < n → AllByRecursion (λ (row : TableRow). n < row_number row) rows → AllByRecursion (λ (row : TableRow). m < row_number row) rows
all_above m n [] lt all = tt
all_above m n (row ∷ rows) lt all = (omega (arith, lt, all.0), all_above m n rows lt all.1)

-- The first row is the first point's, or all rows are behind that point.
pub data IsFirst (p : Point) (ps : List Point) (rows : List TableRow) : Type 0 where
  own : (row : TableRow) (rest : List TableRow) → rows ≡ row ∷ rest → p ≡ row.point → AllByRecursion (λ (r : TableRow). point_number p < row_number r) rest → AreAt ps rest → Up row_number rest → IsFirst p ps rows
  behind : AllByRecursion (λ (r : TableRow). point_number p < row_number r) rows → AreAt ps rows → IsFirst p ps rows

pub first_of : (p : Point) (ps : List Point) (rows : List TableRow) → Up point_number (p ∷ ps) → Up row_number rows → AreAt (p ∷ ps) rows → IsFirst p ps rows
first_of p ps [] up rise at = behind tt tt
first_of p ps (row ∷ rows) up rise at = elim at.0 [
  | inl same ↦
      (let later : AllByRecursion (λ (r : TableRow). point_number p < row_number r) rows = subst (λ (q : Point). AllByRecursion (λ (r : TableRow). point_number q < row_number r) rows) same rise.0 in
      own row rows refl (sym same) later (at_later p ps rows later at.1) rise.1)
  | inr among ↦
      (let less = among_after p ps row.point up.0 among in
      let later = all_above (point_number p) (row_number row) rows less rise.0 in
      behind (less, later) (among, at_later p ps rows later at.1))
]

-- a row that is behind none of the points leaves what is found there
found_same : (row : TableRow) (rest : List TableRow) (ps : List Point) → AllByRecursion (λ (q : Point). row_number row < point_number q) ps → map (found_in (row ∷ rest)) ps ≡ map (found_in rest) ps
found_same row rest [] all = refl
found_same row rest (q ∷ ps) all =
    ap₂ (λ (x : Option PlainEntry) (xs : List (Option PlainEntry)). x ∷ xs) (ap first_entry (filter_other q row rest (other_number_too q row.point all.0))) (found_same row rest ps all.1)

-- The rows are those of the points' entries.
pub rows_found : (ps : List Point) (rows : List TableRow) → Up point_number ps → Up row_number rows → AreAt ps rows → rows_of ps (map (found_in rows) ps) ≡ rows
rows_found [] [] up rise at = refl
rows_found [] (row ∷ rows) up rise at = absurd at.0
rows_found (p ∷ ps) rows up rise at = by_first (first_of p ps rows up rise at) (λ rs rising near. rows_found ps rs up.1 rising near)
  where
    by_first : IsFirst p ps rows → ((rs : List TableRow) → Up row_number rs → AreAt ps rs → rows_of ps (map (found_in rs) ps) ≡ rs) → rows_of (p ∷ ps) (map (found_in rows) (p ∷ ps)) ≡ rows
    by_first (own row rest is same later near rising) again =
        let here : found_in (row ∷ rest) p ≡ Some row.entry = ap first_entry (filter_own p row rest (ap (same_point p) (sym same) ∙ point_itself p)) in
        let others = found_same row rest ps (subst (λ (q : Point). AllByRecursion (λ (r : Point). point_number q < point_number r) ps) same up.0) in
        ap (λ (rs : List TableRow). rows_of (p ∷ ps) (map (found_in rs) (p ∷ ps))) is
        ∙ ap₂ (λ (x : Option PlainEntry) (xs : List (Option PlainEntry)). rows_of (p ∷ ps) (x ∷ xs)) here others
        ∙ ap (λ (rs : List TableRow). row_at p row.entry ∷ rs) (again rest rising near)
        ∙ ap (λ (q : Point). row_at q row.entry ∷ rest) same
        ∙ sym is
    by_first (behind later near) again =
        ap (λ (x : Option PlainEntry). rows_of (p ∷ ps) (x ∷ map (found_in rows) ps)) (ap first_entry (none_behind p rows later))
        ∙ again rows rise near
