use Rattle.std.proofs.{Common.{◌≡◌, ◌∙◌, ◌+◌, ◌++◌, ◌<◌, ℕ, suc, List, drop, length, sym, ap, subst, arith}, lemmas.Result.{err_from_is_err_and}}
use Rattle.numbered_sets.specs.SetLists.{set_of}
use Rattle.table_codec.specs.{Ascending.{values_in}, Spelling.{set_bytes, sets_bytes}, Writing.{all_in}}
use Rattle.table_codec.proofs.{WriteLaws.{writable_at, set_next, put_on}, WriteSteps.{puts_on}}
use Rattle.table_codec.proofs.writing.put_entry.Goals as goal

pub put_set-requires-clause-values : goal.put_set-requires-clause-values
put_set-requires-clause-values c =
    let place = c.loop-place.place in
    writable_at c.args.sets.now c.args.values.now c.args.components.now place c.at-component.result.now c.at.result.now (omega (arith, c.loop-place-test.true, c.len-place-end.ensures))
    (omega (arith, c.loop-place-test.true, c.len-place-end.ensures, c.requires.as_many)) (omega (arith, c.loop-place-test.true, c.len-place-end.ensures, c.requires.size)) (c.at-component.ensures.item c.at-component.result.now)
    (c.at.ensures.item c.at.result.now) c.requires.sets

pub returns-in_err-put_set : goal.returns-in_err-put_set
returns-in_err-put_set c =
    let p = err_from_is_err_and c.from_residual.result c.from_residual.ensures.1 in
    let place = c.loop-place.place in
    let ks = c.args.components.now in
    let all = all_in c.args.sets.now c.args.values.now in
    let k = c.at-component.result.now in
    let out = c.loop-place.out.items in
    let after = c.put_set.new.out.items in
    let piece = set_bytes k (values_in (set_of c.args.sets.now place) c.at.result.now) in
    let here : place < length ks = omega (arith, c.loop-place-test.true, c.len-place-end.ensures) in
    let next = set_next c.args.sets.now c.args.values.now ks place k c.at.result.now here (omega (arith, here, c.requires.as_many)) (omega (arith, here, c.requires.size)) (c.at-component.ensures.item k) (c.at.ensures.item c.at.result.now) in
    rw (p.1, p.2) (puts_on (Unit {0}) c.in_err-put_set.field-0.0 c.args.out.now.items out after after piece (sets_bytes (drop (suc place) ks) (drop (suc place) all)) (sets_bytes ks all)
    (ap (λ (l : List ℕ). out ++ l) (sym next) ∙ c.loop-place.invariant) c.in_err-put_set.ensures)

pub loop-place-preserved : goal.loop-place-preserved
loop-place-preserved c =
    let place = c.loop-place.place in
    let ks = c.args.components.now in
    let all = all_in c.args.sets.now c.args.values.now in
    let k = c.at-component.result.now in
    let piece = set_bytes k (values_in (set_of c.args.sets.now place) c.at.result.now) in
    let whole = c.args.out.now.items ++ sets_bytes ks all in
    let after = c.put_set.new.out.items in
    let here : place < length ks = omega (arith, c.loop-place-test.true, c.len-place-end.ensures) in
    let next = set_next c.args.sets.now c.args.values.now ks place k c.at.result.now here (omega (arith, here, c.requires.as_many)) (omega (arith, here, c.requires.size)) (c.at-component.ensures.item k) (c.at.ensures.item c.at.result.now) in
    let one : suc place ≡ place + 1 = omega arith in
    subst (λ (n : ℕ). after ++ sets_bytes (drop n ks) (drop n all) ≡ whole) one
    (put_on c.loop-place.out.items piece (sets_bytes (drop (suc place) ks) (drop (suc place) all)) whole after (ap (λ (l : List ℕ). c.loop-place.out.items ++ l) (sym next) ∙ c.loop-place.invariant) c.in_ok-put_set.ensures)
