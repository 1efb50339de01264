-- The bytes of a table: they mean one table, and have no fault; and bytes have one first fault at most.
use Rattle.std.proofs.Common.{◌≡◌, ℕ, ◌<◌, ◌≤◌, List, [], ◌∷◌, ◌++◌, length, map, take, refl, sym, ap, subst, ◌∙◌, arith, append_assoc, append-nil, length-append}
use Rattle.std.specs.{List.{flat_map}, declared.option.Option.{Option}}
use Rattle.std.proofs.{lemmas.List.{length-map}, Math.Seq.{take-append_seam}}
use Rattle.osek_standard.specs.declared.{app.App.{App}, point.Point.{Point}}
use Rattle.abstract_state.specs.{declared.table.{PlainEntry.{PlainEntry}, TableRow.{TableRow}, PlainTable.{PlainTable}}}
use Rattle.table_codec.specs.declared.fault.{Fault.{Fault}, TableFault.{TableFault}, TableRule.TheVariants.{K5}}
use Rattle.osek_standard.specs.Points.{points_in_order}
use Rattle.table_codec.specs.Spelling.{magic, point_bytes, spelling, IsSpellable}
use Rattle.table_codec.specs.Faults.{fault_at, IsRowFault, IsTableFault, bad_magic, magic_cut, other_magic, bad_row, bytes_behind, IsFirstFault, located}
use Rattle.table_codec.proofs.{Fields.{cancel}, Merging.{found_in, rows_of}, Sequences.{Runs, one_run, no_fault, one_fault}}
use Rattle.table_codec.proofs.WrittenTables.{Reads, Fails, one_read, read_clash, one_fail, table_runs, fails_at, rows_are}

magic_size : (rest : List ℕ) → 8 ≤ length (magic ++ rest)
magic_size rest = omega (arith, length-append magic rest)

magic_prefix : (rest : List ℕ) → take 8 (magic ++ rest) ≡ magic
magic_prefix rest = take-append_seam magic rest

module _ (app : App) where
  all_rows : PlainTable → List ℕ
  all_rows table = flat_map (point_bytes app table.rows) (points_in_order app)

  all_found : PlainTable → List (Option PlainEntry)
  all_found table = map (found_in table.rows) (points_in_order app)

  all_size : (table : PlainTable) → length (all_found table) ≡ length (points_in_order app)
  unfolding all_found
  all_size table = length-map (points_in_order app) (found_in table.rows)

  all_runs : (table : PlainTable) → IsSpellable app table → (rest : List ℕ) → Runs (Reads app) [] (all_rows table ++ rest) (all_found table) rest
  unfolding all_rows all_found
  all_runs table written rest = table_runs app table written (points_in_order app) [] rest (sym (append-nil (points_in_order app)))

  spelled : (table : PlainTable) (rest : List ℕ) → spelling app table ++ rest ≡ magic ++ (all_rows table ++ rest)
  unfolding spelling all_rows
  spelled table rest = append_assoc magic (flat_map (point_bytes app table.rows) (points_in_order app)) rest

  same_found : (a b : PlainTable) → IsSpellable app a → IsSpellable app b → all_found a ≡ all_found b → a ≡ b
  unfolding all_found
  same_found a b h g e =
      ap with_rows (sym (rows_are app a h.written) ∙ ap (rows_of (points_in_order app)) e ∙ rows_are app b g.written)
    where
      with_rows : List TableRow → PlainTable
      with_rows rows = record { rows = rows }

  same_tables : (a b : PlainTable) (bytes x y : List ℕ) → IsSpellable app a → IsSpellable app b → bytes ≡ all_rows a ++ x → bytes ≡ all_rows b ++ y → (a ≡ b) × (x ≡ y)
  same_tables a b bytes x y h g e d =
      let same = one_run (Reads app) (one_read app) [] bytes x y (all_found a) (all_found b)
      (subst (λ (l : List ℕ). Runs (Reads app) [] l (all_found a) x) (sym e) (all_runs a h x)) (subst (λ (l : List ℕ). Runs (Reads app) [] l (all_found b) y) (sym d) (all_runs b g y)) (all_size a ∙ sym (all_size b)) in
      (same_found a b h g same.0, same.1)

  pub spelled_once : (a b : PlainTable) (x y : List ℕ) → IsSpellable app a → IsSpellable app b → spelling app a ++ x ≡ spelling app b ++ y → (a ≡ b) × (x ≡ y)
  spelled_once a b x y h g e = same_tables a b (all_rows a ++ x) x y h g refl (cancel magic (all_rows a ++ x) (all_rows b ++ y) (sym (spelled a x) ∙ e ∙ spelled b y))

  -- ---- the rows up to a fault

  abbrev found_before : (bytes : List ℕ) (f : Fault) → IsRowFault app bytes f → List (Option PlainEntry)
  found_before bytes f bad = map (found_in bad.table.rows) bad.done

  fault_runs : (bytes : List ℕ) (f : Fault) (bad : IsRowFault app bytes f) → Runs (Reads app) [] bytes (found_before bytes f bad) bad.rest
  fault_runs bytes f bad = subst (λ (l : List ℕ). Runs (Reads app) [] l (found_before bytes f bad) bad.rest) (sym bad.are) (table_runs app bad.table bad.spellable bad.done (bad.point ∷ bad.later) bad.rest bad.points)

  fault_fails : (bytes : List ℕ) (f : Fault) (bad : IsRowFault app bytes f) → Fails app (found_before bytes f bad) bad.rest f
  fault_fails bytes f bad = fails_at app bad.done bad.point bad.later (found_before bytes f bad) bad.rest f bad.points (length-map bad.done (found_in bad.table.rows)) bad.next

  fewer : (bytes : List ℕ) (f : Fault) (bad : IsRowFault app bytes f) (table : PlainTable) → length (found_before bytes f bad) < length (all_found table)
  fewer bytes f bad table = omega (arith, all_size table, length-map bad.done (found_in bad.table.rows), ap (λ (ps : List Point). length ps) bad.points, length-append bad.done (bad.point ∷ bad.later))

  row_clash : (bytes rest : List ℕ) (f : Fault) (table : PlainTable) → IsSpellable app table → bytes ≡ all_rows table ++ rest → IsRowFault app bytes f → ⊥
  row_clash bytes rest f table written e bad =
      no_fault (Reads app) (one_read app) (Fails app) (read_clash app) [] bytes bad.rest rest (found_before bytes f bad) (all_found table) f
      (fault_runs bytes f bad) (fault_fails bytes f bad) (subst (λ (l : List ℕ). Runs (Reads app) [] l (all_found table) rest) (sym e) (all_runs table written rest)) (fewer bytes f bad table)

  one_row_fault : (bytes : List ℕ) (f g : Fault) → IsRowFault app bytes f → IsRowFault app bytes g → f ≡ g
  one_row_fault bytes f g bad worse =
      one_fault (Reads app) (one_read app) (Fails app) (read_clash app) (one_fail app) [] bytes bad.rest worse.rest (found_before bytes f bad) (found_before bytes g worse) f g
      (fault_runs bytes f bad) (fault_fails bytes f bad) (fault_runs bytes g worse) (fault_fails bytes g worse)

  -- behind the magic the same bytes stand
  behind_magic : (bytes rows : List ℕ) (table : PlainTable) (rest : List ℕ) → bytes ≡ magic ++ rows → bytes ≡ spelling app table ++ rest → rows ≡ all_rows table ++ rest
  behind_magic bytes rows table rest e d = cancel magic rows (all_rows table ++ rest) (sym e ∙ d ∙ spelled table rest)

  spelled_size : (bytes : List ℕ) (table : PlainTable) (rest : List ℕ) → bytes ≡ spelling app table ++ rest → 8 ≤ length bytes
  spelled_size bytes table rest e = omega (arith, ap (λ (l : List ℕ). length l) (e ∙ spelled table rest), magic_size (all_rows table ++ rest))

  spelled_prefix : (bytes : List ℕ) (table : PlainTable) (rest : List ℕ) → bytes ≡ spelling app table ++ rest → take 8 bytes ≡ magic
  spelled_prefix bytes table rest e = ap (take 8) (e ∙ spelled table rest) ∙ magic_prefix (all_rows table ++ rest)

  pub no_first : (bytes : List ℕ) (table : PlainTable) (f : Fault) → IsSpellable app table → bytes ≡ spelling app table ++ [] → IsTableFault app bytes f → ⊥
  no_first bytes table f written e (bad_magic (magic_cut less d)) = omega (arith, less, spelled_size bytes table [] e)
  no_first bytes table f written e (bad_magic (other_magic most differs d)) = differs (spelled_prefix bytes table [] e)
  no_first bytes table f written e (bad_row rows is bad) = row_clash rows [] f table written (behind_magic bytes rows table [] is e) bad
  no_first bytes table f written e (bytes_behind found rest good some is d) =
      let same = spelled_once found table rest [] good written (sym is ∙ e) in
      omega (arith, some, ap (λ (l : List ℕ). length l) same.1)

  pub one_first : (bytes : List ℕ) (f g : Fault) → IsTableFault app bytes f → IsTableFault app bytes g → f ≡ g
  one_first bytes f g (bad_magic (magic_cut less e)) (bad_magic (magic_cut fewer d)) = e ∙ sym d
  one_first bytes f g (bad_magic (magic_cut less e)) (bad_magic (other_magic most differs d)) = absurd (omega (arith, less, most))
  one_first bytes f g (bad_magic (magic_cut less e)) (bad_row rows is bad) = absurd (omega (arith, less, ap (λ (l : List ℕ). length l) is, magic_size rows))
  one_first bytes f g (bad_magic (magic_cut less e)) (bytes_behind table rest good some is d) = absurd (omega (arith, less, spelled_size bytes table rest is))
  one_first bytes f g (bad_magic (other_magic most differs e)) (bad_magic (magic_cut less d)) = absurd (omega (arith, less, most))
  one_first bytes f g (bad_magic (other_magic most differs e)) (bad_magic (other_magic more parts d)) = e ∙ sym d
  one_first bytes f g (bad_magic (other_magic most differs e)) (bad_row rows is bad) = absurd (differs (ap (take 8) is ∙ magic_prefix rows))
  one_first bytes f g (bad_magic (other_magic most differs e)) (bytes_behind table rest good some is d) = absurd (differs (spelled_prefix bytes table rest is))
  one_first bytes f g (bad_row rows is bad) (bad_magic (magic_cut less d)) = absurd (omega (arith, less, ap (λ (l : List ℕ). length l) is, magic_size rows))
  one_first bytes f g (bad_row rows is bad) (bad_magic (other_magic most differs d)) = absurd (differs (ap (take 8) is ∙ magic_prefix rows))
  one_first bytes f g (bad_row rows is bad) (bad_row others are worse) = one_row_fault rows f g bad (subst (λ (l : List ℕ). IsRowFault app l g) (cancel magic others rows (sym are ∙ is)) worse)
  one_first bytes f g (bad_row rows is bad) (bytes_behind table rest good some are d) = absurd (row_clash rows rest f table good (behind_magic bytes rows table rest is are) bad)
  one_first bytes f g (bytes_behind table rest good some are e) (bad_magic (magic_cut less d)) = absurd (omega (arith, less, spelled_size bytes table rest are))
  one_first bytes f g (bytes_behind table rest good some are e) (bad_magic (other_magic most differs d)) = absurd (differs (spelled_prefix bytes table rest are))
  one_first bytes f g (bytes_behind table rest good some are e) (bad_row rows is bad) = absurd (row_clash rows rest g table good (behind_magic bytes rows table rest is are) bad)
  one_first bytes f g (bytes_behind table rest good some are e) (bytes_behind found more fine any is d) =
      let same = spelled_once table found rest more good fine (sym are ∙ is) in
      e ∙ ap (fault_at K5) same.1 ∙ sym d

  -- ---- for callers

  pub no_first_fault : (table : PlainTable) (f : TableFault) → IsSpellable app table → IsFirstFault app (spelling app table) f → ⊥
  no_first_fault table f written h = no_first (spelling app table) table h.fault written (sym (append-nil (spelling app table))) h.first

  pub one_first_fault : (bytes : List ℕ) (f g : TableFault) → IsFirstFault app bytes f → IsFirstFault app bytes g → f ≡ g
  one_first_fault bytes f g h d = h.is ∙ ap (located (length bytes)) (one_first bytes h.fault d.fault h.first d.first) ∙ sym d.is
