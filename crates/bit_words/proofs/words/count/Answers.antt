use Rattle.std.proofs.Common.{rules, ◌≡◌, ℕ, ◌+◌, ◌*◌, ◌<◌, ◌^◌, length, get_or, refl, ap, ◌∙◌, arith}
use Rattle.std.specs.Prelude.{count_ones}
use Rattle.bit_words.proofs.{Counting.{passing_higher}, WordLaws.{word_has, word_counted, ones_of_words, small_at}}
use Rattle.bit_words.proofs.words.count.Goals as goal
use Rattle.osek_values.specs.Bits.{passing_below}

pub overflow_add-found : goal.overflow_add-found
overflow_add-found c =
    let ws = c.args.words.now in
    let k = c.loop-place.place in
    let w = get_or ws k 0 in
    let counted = word_counted ws k w (small_at ws k c.are_words.ensures) refl in
    let all = passing_higher (word_has ws) (64 * (k + 1)) (64 * length ws) (omega (arith, c.loop-place-test.true)) in
    let whole = ones_of_words ws c.are_words.ensures in
    let fits : c.loop-place.found + count_ones w < 2 ^ 64 = omega (arith, c.loop-place.invariant, counted, all, whole, c.requires) in
    search (rules, fits)

pub loop-place-preserved : goal.loop-place-preserved
loop-place-preserved c =
    let ws = c.args.words.now in
    let k = c.loop-place.place in
    let counted = word_counted ws k (get_or ws k 0) (small_at ws k c.are_words.ensures) refl in
    omega (arith, c.loop-place.invariant, counted)

pub returns : goal.returns
returns c =
    let last : c.loop-place.place ≡ length c.args.words.now = omega (arith, c.loop-place-test.false, c.loop-place.auto.place-end) in
    c.loop-place.invariant ∙ ap (λ (k : ℕ). passing_below (word_has c.args.words.now) (64 * k)) last ∙ ones_of_words c.args.words.now c.are_words.ensures
