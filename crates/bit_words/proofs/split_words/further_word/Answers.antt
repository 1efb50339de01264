use Rattle.std.proofs.Common.{◌*◌, ◌-◌, arith}
use Rattle.bit_words.proofs.CursorLaws.{further_word, none_further}
use Rattle.bit_words.proofs.split_words.further_word.Goals as goal

pub returns-then-below-le128-clause-none : goal.returns-then-below-le128-clause-none
returns-then-below-le128-clause-none c = λ _ low high k fits too above below. absurd (omega (arith, above, below, c.if-below-le128.true))

pub returns-clause-some : goal.returns-clause-some
returns-clause-some c = λ some low high fits too. further_word low high c.args.more.now fits too (64 * c.args.from) c.next_word-further.result (c.next_word-further.ensures.some some)

pub returns-clause-none : goal.returns-clause-none
returns-clause-none c = λ none low high k fits too above below.
    none_further low high c.args.more.now fits too k (omega (arith, above)) (c.next_word-further.ensures.none none (k - 128) (omega (arith, above)) (omega (arith, above, below)))
