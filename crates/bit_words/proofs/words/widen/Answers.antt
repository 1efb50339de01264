use Rattle.std.proofs.Common.{ℕ, List, get_or, ap, ◌∙◌, arith}
use Rattle.bit_words.specs.Words.{bits_of_words}
use Rattle.bit_words.proofs.WordLaws.{bits_widened, word_widened}
use Rattle.bit_words.proofs.words.widen.Goals as goal

pub loop-length-preserved : goal.loop-length-preserved
loop-length-preserved c =
    let here = c.loop-length.invariant in
    let long = c.in_ok-push.ensures.len in
    let count = here.1 in (
      ap bits_of_words c.in_ok-push.ensures.items ∙ bits_widened c.loop-length.words.items 1 ∙ here.0,
      omega (arith, count, long),
      (λ n few enough. omega (arith, count, long, enough, c.loop-length-test.true)),
      (λ i. ap (λ (ws : List ℕ). get_or ws i 0) c.in_ok-push.ensures.items ∙ word_widened c.loop-length.words.items i ∙ here.3 i),
    )
