use Rattle.std.proofs.{Common.{◌≡◌, ◌∙◌, ◌+◌, ◌≤◌, ◌<◌, ◌++◌, ℕ, List, length, sym, ap, ap₂, subst, arith, length-append, All}, lemmas.Result.{err_from_is_err_and}}
use Rattle.std.specs.Prelude.{Err}
use Rattle.abstract_state.specs.{declared.value.Component.{Component}, Components.{components}}
use Rattle.numbered_sets.specs.declared.table.NumberedRow.{NumberedRow}
use Rattle.osek_values.specs.declared.limits.TheConstants.{MAX_TABLE}
use Rattle.table_codec.specs.{declared.fault.WriteFault.{WriteFault, TheVariants.{TooLong}}, Spelling.{magic}, Writing.{PutsBytes, AreOrdered, AreWritable, all_in, merged_bytes}}
use Rattle.table_codec.proofs.WrittenBytes.{pool_counts, each_size, each_writable, all_written}
use Rattle.table_codec.proofs.writing.write_table.Goals as goal

pub all_ascending-requires : goal.all_ascending-requires
all_ascending-requires c = λ some.
    let known = pool_counts c.args.app.now c.args.table.now c.requires c.in_ok-numbered.numbered.pool c.in_ok-numbered.numbered.rows.now c.in_ok-numbered.ensures (omega (arith, some, c.len-2.ensures)) in
    omega (arith, known, c.len.ensures, ap (λ (ks : List Component). length ks) c.in_ok-components.ensures)

pub put_rows-requires-clause-as_many : goal.put_rows-requires-clause-as_many
put_rows-requires-clause-as_many c =
    let rows = c.in_ok-numbered.numbered.rows.now in
    subst (λ (ks : List Component). All (λ (row : NumberedRow). length ks ≤ length row.entry.sets) rows) (sym c.in_ok-components.ensures)
    (each_size c.args.app.now c.args.table.now c.requires c.in_ok-numbered.numbered.pool rows c.in_ok-numbered.ensures)

pub put_rows-requires-clause-sets : goal.put_rows-requires-clause-sets
put_rows-requires-clause-sets c =
    let app = c.args.app.now in
    let pool = c.in_ok-numbered.numbered.pool in
    let rows = c.in_ok-numbered.numbered.rows.now in
    let values = c.in_ok-values.values in
    let count : c.len.result ≡ length (components app) = c.len.ensures ∙ ap (λ (ks : List Component). length ks) c.in_ok-components.ensures in
    subst (λ (ks : List Component). All (λ (row : NumberedRow). AreWritable ks (all_in row.entry.sets values)) rows) (sym c.in_ok-components.ensures)
    (each_writable app c.args.table.now c.requires pool rows c.in_ok-numbered.ensures values (λ some. subst (λ (n : ℕ). AreOrdered pool n values) count (c.in_ok-values.ensures (omega (arith, some, c.len-2.ensures)))))

pub returns-in_err-put_rows-clause-too_long : goal.returns-in_err-put_rows-clause-too_long
returns-in_err-put_rows-clause-too_long c = λ e.
    let q = err_from_is_err_and c.from_residual-in_err-put_rows.result c.from_residual-in_err-put_rows.ensures.1 in
    let fault : c.in_err-put_rows.field-0.0 ≡ TooLong = (let from = q.1 in let is = q.2 in cc) in
    let app = c.args.app.now in
    let pool = c.in_ok-numbered.numbered.pool in
    let rows = c.in_ok-numbered.numbered.rows.now in
    let values = c.in_ok-values.values in
    let before = c.extend_from_slice.new.self.items in
    let count : c.len.result ≡ length (components app) = c.len.ensures ∙ ap (λ (ks : List Component). length ks) c.in_ok-components.ensures in
    let start : before ≡ magic = c.in_ok-extend_from_slice.ensures.items ∙ ap₂ (λ (xs ys : List ℕ). xs ++ ys) c.new-out.ensures.items c.magic.ensures in
    let whole = all_written app c.args.table.now c.requires pool rows c.in_ok-numbered.ensures values (λ some. subst (λ (n : ℕ). AreOrdered pool n values) count (c.in_ok-values.ensures (omega (arith, some, c.len-2.ensures))))
    c.in_ok-components.components c.in_ok-points.points before c.in_ok-components.ensures c.in_ok-points.ensures start in
    let more = merged_bytes c.in_ok-components.components values c.in_ok-points.points rows in
    let many : MAX_TABLE < length before + length more = subst (λ (f : WriteFault). PutsBytes {X = Unit {0}} (Err f) before c.put_rows.new.out.items more) fault c.in_err-put_rows.ensures in
    omega (arith, many, ap (λ (l : List ℕ). length l) whole, length-append before more)

pub returns-in_err-limited-clause-too_long : goal.returns-in_err-limited-clause-too_long
returns-in_err-limited-clause-too_long c = λ e.
    let app = c.args.app.now in
    let pool = c.in_ok-numbered.numbered.pool in
    let rows = c.in_ok-numbered.numbered.rows.now in
    let values = c.in_ok-values.values in
    let before = c.extend_from_slice.new.self.items in
    let count : c.len.result ≡ length (components app) = c.len.ensures ∙ ap (λ (ks : List Component). length ks) c.in_ok-components.ensures in
    let start : before ≡ magic = c.in_ok-extend_from_slice.ensures.items ∙ ap₂ (λ (xs ys : List ℕ). xs ++ ys) c.new-out.ensures.items c.magic.ensures in
    let whole = all_written app c.args.table.now c.requires pool rows c.in_ok-numbered.ensures values (λ some. subst (λ (n : ℕ). AreOrdered pool n values) count (c.in_ok-values.ensures (omega (arith, some, c.len-2.ensures))))
    c.in_ok-components.components c.in_ok-points.points before c.in_ok-components.ensures c.in_ok-points.ensures start in
    let all = c.in_ok-put_rows.ensures ∙ whole in
    omega (arith, c.in_err-limited.ensures.too_long.1, ap (λ (l : List ℕ). length l) all)

pub returns-clause-bytes : goal.returns-clause-bytes
returns-clause-bytes c =
    let app = c.args.app.now in
    let pool = c.in_ok-numbered.numbered.pool in
    let rows = c.in_ok-numbered.numbered.rows.now in
    let values = c.in_ok-values.values in
    let before = c.extend_from_slice.new.self.items in
    let count : c.len.result ≡ length (components app) = c.len.ensures ∙ ap (λ (ks : List Component). length ks) c.in_ok-components.ensures in
    let start : before ≡ magic = c.in_ok-extend_from_slice.ensures.items ∙ ap₂ (λ (xs ys : List ℕ). xs ++ ys) c.new-out.ensures.items c.magic.ensures in
    let whole = all_written app c.args.table.now c.requires pool rows c.in_ok-numbered.ensures values (λ some. subst (λ (n : ℕ). AreOrdered pool n values) count (c.in_ok-values.ensures (omega (arith, some, c.len-2.ensures))))
    c.in_ok-components.components c.in_ok-points.points before c.in_ok-components.ensures c.in_ok-points.ensures start in
    c.in_ok-put_rows.ensures ∙ whole
