use Rattle.std.proofs.Common.{rules, ◌<◌, ◌+◌, ◌^◌, List, ℕ, [], length, sym, ap, arith}
use Rattle.std.specs.Prelude.{count_ones}
use Rattle.std.proofs.lemmas.List.Sums.{sum_by_more, sum_by_more_le}
use Rattle.bit_words.specs.{Words.{bits_of_words}}
use Rattle.bit_words.proofs.FurtherLaws.{more_bits_joined, all_bits_joined}
use Rattle.bit_words.proofs.further.join_each.Goals as goal

pub join_at-requires-clause-few : goal.join_at-requires-clause-few
join_at-requires-clause-few c =
    let other = c.args.other.now in
    let place = c.loop-component.component in
    let known : place < length other = omega (arith, c.loop-component-test.true, c.len-component-end.ensures) in
    let whole = sum_by_more_le (λ (ws : List ℕ). count_ones (bits_of_words ws)) other place [] known in
    let same = ap (λ (ws : List ℕ). count_ones (bits_of_words ws)) (c.at.ensures.item []) in
    omega (arith, whole, same, c.requires.few)

pub overflow_add-added : goal.overflow_add-added
overflow_add-added c =
    let other = c.args.other.now in
    let place = c.loop-component.component in
    let known : place < length other = omega (arith, c.loop-component-test.true, c.len-component-end.ensures) in
    let whole = sum_by_more_le (λ (ws : List ℕ). count_ones (bits_of_words ws)) other place [] known in
    let same = ap (λ (ws : List ℕ). count_ones (bits_of_words ws)) (c.at.ensures.item []) in
    let fits : c.loop-component.added + c.in_ok-added.field-0 < 2 ^ 64 = omega (arith, whole, same, c.in_ok-added.ensures.few, c.loop-component.invariant.2, c.requires.few) in
    search (rules, fits)

pub loop-component-preserved : goal.loop-component-preserved
loop-component-preserved c =
    let other = c.args.other.now in
    let place = c.loop-component.component in
    let known : place < length other = omega (arith, c.loop-component-test.true, c.len-component-end.ensures) in
    let more = sum_by_more (λ (ws : List ℕ). count_ones (bits_of_words ws)) other place [] known in
    let same = ap (λ (ws : List ℕ). count_ones (bits_of_words ws)) (c.at.ensures.item []) in (
      more_bits_joined c.args.more.now other c.loop-component.more c.join_at.new.more place c.at.result.now (sym (c.at.ensures.item []))
          c.loop-component.invariant.0 c.join_at.ensures.others c.in_ok-added.ensures.bits,
      omega (arith, c.in_ok-added.ensures.count, c.loop-component.invariant.1),
      omega (arith, c.in_ok-added.ensures.few, same, more, c.loop-component.invariant.2),
    )

pub returns-clause-bits : goal.returns-clause-bits
returns-clause-bits c = all_bits_joined c.args.more.now c.args.other.now c.loop-component.more c.loop-component.component (omega (arith, c.loop-component-test.false, c.len-component-end.ensures)) c.loop-component.invariant.0
