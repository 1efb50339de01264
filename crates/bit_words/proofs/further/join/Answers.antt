use Rattle.std.proofs.Common.{◌<◌, List, ℕ, [], length, ap, arith}
use Rattle.std.specs.Prelude.{count_ones}
use Rattle.std.proofs.lemmas.List.Sums.{sum_by_more_le}
use Rattle.bit_words.specs.Words.{bits_of_words}
use Rattle.bit_words.proofs.further.join.Goals as goal

pub join_new_at-requires-clause-few : goal.join_new_at-requires-clause-few
join_new_at-requires-clause-few c =
    let other = c.args.other.now in
    let known : c.first_lacking-first.result < length other = omega (arith, c.if-first-len.false, c.len.ensures) in
    let whole = sum_by_more_le (λ (ws : List ℕ). count_ones (bits_of_words ws)) other c.first_lacking-first.result [] known in
    let same = ap (λ (ws : List ℕ). count_ones (bits_of_words ws)) (c.at.ensures.item []) in
    omega (arith, whole, same, c.requires)

pub returns-then-first_lacking-len-clause-less : goal.returns-then-first_lacking-len-clause-less
returns-then-first_lacking-len-clause-less c =
    let other = c.args.other.now in
    let known : c.first_lacking-first.result < length other = omega (arith, c.if-first-len.false, c.len.ensures) in
    let whole = sum_by_more_le (λ (ws : List ℕ). count_ones (bits_of_words ws)) other c.first_lacking-first.result [] known in
    let same = ap (λ (ws : List ℕ). count_ones (bits_of_words ws)) (c.at.ensures.item []) in
    omega (arith, whole, same, c.in_ok-added.ensures.few)
