use Rattle.std.proofs.{Common.{◌≡◌, ◌∙◌, ◌+◌, ◌<◌, ◌++◌, ◌∷◌, ℕ, List, [], drop, get_or, length, sym, ap, subst, arith}, lemmas.{Result.{err_from_is_err_and}, List.{get_or_default}}}
use Rattle.osek_standard.specs.declared.point.Point.TheVariants as point
use Rattle.osek_standard.specs.Points.{point_number}
use Rattle.numbered_sets.specs.declared.table.NumberedRow.{NumberedRow}
use Rattle.table_codec.specs.{Spelling.{sets_bytes}, Writing.{AreWritable, all_in, merged_bytes}}
use Rattle.table_codec.proofs.{WriteLaws.{put_on}, WriteSteps.{puts_on, merged_row, merged_none, merged_absent}}
use Rattle.table_codec.proofs.writing.put_rows.Goals as goal
use Rattle.table_codec.proofs.writing.put_rows.Goals.{then-next-len+then-number+in_ok-put_row, else-next-len+in_ok-push, else-next-len-via-then-next-len+else-number, else-next-len-via-else-next-len}

pub put_row-requires-clause-sets : goal.put_row-requires-clause-sets
put_row-requires-clause-sets c =
    let row = c.at-then-number.result.now in
    subst (λ (r : NumberedRow). AreWritable c.args.components.now (all_in r.entry.sets c.args.values.now)) (c.at-then-number.ensures.item row)
    (c.requires.sets c.loop-place.next row (omega (arith, c.if-next-len.true, c.len.ensures)))

pub returns-in_err-put_row : goal.returns-in_err-put_row
returns-in_err-put_row c =
    let q = err_from_is_err_and c.from_residual.result c.from_residual.ensures.1 in
    let ks = c.args.components.now in
    let values = c.args.values.now in
    let points = c.args.points.now in
    let rows = c.args.rows.now in
    let place = c.loop-place.place in
    let next = c.loop-place.next in
    let p = c.at-then-next-len.result.now in
    let row = c.at-then-number.result.now in
    let one : c.at.result.now ≡ row = sym (c.at.ensures.item row) ∙ c.at-then-number.ensures.item row in
    let same : point_number row.point ≡ point_number p = ap (λ (r : NumberedRow). point_number r.point) (sym one) ∙ sym c.number.ensures ∙ c.if-number.true ∙ c.number-then-next-len.ensures in
    let merged = merged_row ks values points rows place next p (omega (arith, c.loop-place-test.true, c.len-place-end.ensures)) (c.at-then-next-len.ensures.item p) row (omega (arith, c.if-next-len.true, c.len.ensures))
    (c.at-then-number.ensures.item row) same in
    rw (q.1, q.2) (puts_on (Unit {0}) c.in_err-put_row.field-0.0 c.args.out.now.items c.loop-place.out.items c.put_row.new.out.items c.put_row.new.out.items (1 ∷ sets_bytes ks (all_in row.entry.sets values))
    (merged_bytes ks values (drop (place + 1) points) (drop (next + 1) rows)) (merged_bytes ks values points rows)
    (ap (λ (l : List ℕ). c.loop-place.out.items ++ l) (sym merged) ∙ c.loop-place.invariant.are) c.in_err-put_row.ensures)

pub loop-place-preserved : goal.loop-place-preserved
loop-place-preserved c =
    let ks = c.args.components.now in
    let values = c.args.values.now in
    let points = c.args.points.now in
    let rows = c.args.rows.now in
    let place = c.loop-place.place in
    let next = c.loop-place.next in
    let out = c.loop-place.out.items in
    let whole = c.args.out.now.items ++ merged_bytes ks values points rows in
    let here : place < length points = omega (arith, c.loop-place-test.true, c.len-place-end.ensures) in
    elim c.if-next-len.branch [
      | then-next-len+then-number+in_ok-put_row w ↦
          (let p = w.at-then-next-len.result.now in
          let row = w.at-then-number.result.now in
          let one : w.at.result.now ≡ row = sym (w.at.ensures.item row) ∙ w.at-then-number.ensures.item row in
          let same : point_number row.point ≡ point_number p = ap (λ (r : NumberedRow). point_number r.point) (sym one) ∙ sym w.number.ensures ∙ w.if-number.true ∙ w.number-then-next-len.ensures in
          let less : next < length rows = omega (arith, w.if-next-len.true, c.len.ensures) in
          let merged = merged_row ks values points rows place next p here (w.at-then-next-len.ensures.item p) row less (w.at-then-number.ensures.item row) same in
          rw (w.out-is, w.next-is) (record {
            known = omega (arith, less);
            are = put_on out (1 ∷ sets_bytes ks (all_in row.entry.sets values)) (merged_bytes ks values (drop (place + 1) points) (drop (next + 1) rows)) whole w.put_row.new.out.items
                (ap (λ (l : List ℕ). out ++ l) (sym merged) ∙ c.loop-place.invariant.are) w.in_ok-put_row.ensures;
          }))
      | else-next-len+in_ok-push w ↦
          (let p = get_or points place point.Halted in
          let at : get_or points place p ≡ p = get_or_default points place p point.Halted here in
          let merged : merged_bytes ks values (drop place points) (drop next rows) ≡ (0 ∷ []) ++ merged_bytes ks values (drop (place + 1) points) (drop next rows) = elim w.else-next-len.branch [
            | else-next-len-via-then-next-len+else-number v ↦
                (let row = v.at.result.now in
                let there : v.at-then-next-len.result.now ≡ p = sym (v.at-then-next-len.ensures.item point.Halted) in
                merged_absent ks values points rows place next p here at row (omega (arith, v.if-next-len.true, c.len.ensures)) (v.at.ensures.item row)
                (λ e. v.if-number.false (v.number.ensures ∙ e ∙ ap point_number (sym there) ∙ sym v.number-then-next-len.ensures)))
            | else-next-len-via-else-next-len v ↦ merged_none ks values points rows place next p here at (omega (arith, v.if-next-len.false, c.len.ensures))
          ] in
          rw (w.out-is, w.next-is) (record {
            known = c.loop-place.invariant.known;
            are = put_on out (0 ∷ []) (merged_bytes ks values (drop (place + 1) points) (drop next rows)) whole w.push.new.self.items (ap (λ (l : List ℕ). out ++ l) (sym merged) ∙ c.loop-place.invariant.are) w.in_ok-push.ensures.items;
          }))
    ]
