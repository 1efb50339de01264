-- The numbered rows of a written table: they have sets that can be written, and merged with the points they are spelled.
use Rattle.std.proofs.Common.{◌≡◌, ℕ, ◌<◌, ◌≤◌, List, [], ◌∷◌, ◌++◌, length, get_or, refl, sym, ap, ap₂, subst, ◌∙◌, inl, inr, arith, All}
use Rattle.std.specs.{Prelude.{Contains}, List.{flat_map}}
use Rattle.std.proofs.lemmas.{Bool.{cases_lt}, List.{length-map, get_or_default, Concat.{flat_map-cons}, Elements.{recursion_from_All}}}
use Rattle.osek_standard.specs.declared.{app.App.{App}, point.Point.{Point}}
use Rattle.osek_standard.proofs.Members.{contained_among, among_contained, among_map}
use Rattle.abstract_state.specs.{declared.{value.{Component.{Component}, Domain.{Domain}}, table.{TableRow.{TableRow}, PlainTable.{PlainTable}}}, Components.{components}}
use Rattle.abstract_state.specs.{Domains.{domain_of, domains_of}, Written.{IsRow, IsWritten}}
use Rattle.numbered_sets.specs.{Numbers.{Numbers}, Pools.{Values, pool_domains}, Views.{plain_entry}, declared.table.NumberedRow.{NumberedRow}}
use Rattle.numbered_sets.specs.PlainTables.{plain_row, plain_rows, AreRowsFor}
use Rattle.numbered_sets.proofs.WrittenRows.{row_there, number_domains_of}
use Rattle.table_codec.specs.declared.ascending.NumberedValue.{NumberedValue}
use Rattle.osek_standard.specs.Points.{points_in_order}
use Rattle.table_codec.specs.{Spelling.{magic, members_of, point_bytes, spelling}, Writing.{AreWritable, AreOrdered, all_in, merged_bytes}}
use Rattle.table_codec.proofs.{Merging.{row_number, Up, AreAt}, PointOrder.{points_up}, WriteLaws.{sets_writable, sets_are, merged_spelled}}
use Rattle.table_codec.proofs.WrittenTables.{row_values, rows_up, all_at}

first_listed : (rows : List NumberedRow) → 0 < length rows → (row : NumberedRow) × Contains rows row
first_listed [] some = absurd (omega (arith, some))
first_listed (row ∷ rows) some = (row, (0, omega arith, refl))

no_row : (rows : List NumberedRow) → length rows ≤ 0 → rows ≡ []
no_row [] le = refl
no_row (row ∷ rows) le = absurd (omega (arith, le))

none_spelled : (app : App) (values : List (List NumberedValue)) (ps : List Point) → merged_bytes (components app) values ps [] ≡ flat_map (point_bytes app []) ps
none_spelled app values [] = refl
none_spelled app values (p ∷ ps) = ap (λ (l : List ℕ). 0 ∷ l) (none_spelled app values ps) ∙ sym (flat_map-cons (point_bytes app []) p ps)

module _ (app : App) (table : PlainTable) (written : IsWritten app table) (pool : List Values) (rows : List NumberedRow) (are : AreRowsFor table.rows pool rows) where
  module _ (row : NumberedRow) (listed : Contains rows row) where
    listed_plain : Contains table.rows (plain_row pool row)
    listed_plain =
        subst (λ (rs : List TableRow). Contains rs (plain_row pool row)) are.same
        (among_contained (plain_rows pool rows) (plain_row pool row) (among_map (plain_row pool) row rows (contained_among rows row listed)))

    is_row : IsRow app (plain_row pool row)
    is_row = row_there app table written (plain_row pool row) listed_plain

    size : length row.entry.sets ≡ length (components app)
    size = sym (length-map row.entry.sets (λ (x : Numbers). x.domain)) ∙ ap (λ (ds : List Domain). length ds) (number_domains_of app pool row is_row) ∙ length-map (components app) (domain_of app)

    pool_size : length pool ≡ length (components app)
    pool_size =
        let same : pool_domains pool ≡ domains_of app = sym (are.known.each row listed).domains ∙ number_domains_of app pool row is_row in
        sym (length-map pool (λ (x : Values). x.domain)) ∙ ap (λ (ds : List Domain). length ds) same ∙ length-map (components app) (domain_of app)

  pub pool_counts : 0 < length rows → length (components app) ≤ length pool
  pool_counts some = (let first = first_listed rows some in omega (arith, pool_size first.0 first.1))

  listed_at : (k : ℕ) (d : NumberedRow) → k < length rows → Contains rows (get_or rows k d)
  listed_at k d lt = (k, lt, get_or_default rows k (get_or rows k d) d lt)

  pub each_size : All (λ (row : NumberedRow). length (components app) ≤ length row.entry.sets) rows
  each_size = λ k d lt. omega (arith, size (get_or rows k d) (listed_at k d lt))

  module _ (values : List (List NumberedValue)) (ordered : 0 < length rows → AreOrdered pool (length (components app)) values) where
    pub each_writable : All (λ (row : NumberedRow). AreWritable (components app) (all_in row.entry.sets values)) rows
    each_writable = λ k d lt.
        let row = get_or rows k d in
        let listed = listed_at k d lt in
        subst (AreWritable (components app)) (sym (sets_are app pool values (ordered (omega (arith, lt))) row (size row listed)))
        (sets_writable app row.point (members_of (plain_entry pool row.entry)) (row_values app table written (plain_row pool row) (listed_plain row listed)))

    merged_rows : merged_bytes (components app) values (points_in_order app) rows ≡ flat_map (point_bytes app table.rows) (points_in_order app)
    merged_rows = elim (cases_lt 0 (length rows)) [
      | inl some ↦
          merged_spelled app pool values (ordered some) (points_in_order app) rows
          (recursion_from_All (λ (row : NumberedRow). length row.entry.sets ≡ length (components app)) rows (λ k d lt. size (get_or rows k d) (listed_at k d lt)))
          (points_up app) (subst (Up row_number) (sym are.same) (rows_up app table written)) (subst (AreAt (points_in_order app)) (sym are.same) (all_at app table written table.rows (λ row m. m)))
          ∙ ap (λ (rs : List TableRow). flat_map (point_bytes app rs) (points_in_order app)) are.same
      | inr none ↦
          (let empty = no_row rows none in
          ap (λ (rs : List NumberedRow). merged_bytes (components app) values (points_in_order app) rs) empty ∙ none_spelled app values (points_in_order app)
          ∙ ap (λ (rs : List TableRow). flat_map (point_bytes app rs) (points_in_order app)) (sym (ap (plain_rows pool) empty) ∙ are.same))
    ]

    written_whole : magic ++ merged_bytes (components app) values (points_in_order app) rows ≡ spelling app table
    unfolding spelling
    written_whole = ap (λ (l : List ℕ). magic ++ l) merged_rows

    -- All of it is the table's spelling.
    pub all_written : (ks : List Component) (points : List Point) (before : List ℕ) → ks ≡ components app → points ≡ points_in_order app → before ≡ magic → before ++ merged_bytes ks values points rows ≡ spelling app table
    all_written ks points before k p b =
        ap (λ (l : List ℕ). l ++ merged_bytes ks values points rows) b
        ∙ ap₂ (λ (cs : List Component) (ps : List Point). magic ++ merged_bytes cs values ps rows) k p
        ∙ written_whole
