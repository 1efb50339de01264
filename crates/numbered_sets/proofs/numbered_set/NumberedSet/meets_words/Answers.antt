use Rattle.std.proofs.Common.{◌∷◌, List, ℕ, ap, ◌∙◌, arith}
use Rattle.std.specs.Prelude.{◌==◌, not, bit_and}
use Rattle.bit_words.specs.Words.{bits_of_words}
use Rattle.bit_words.proofs.OtherWords.{met_in_first, met_in_second, met_further}
use Rattle.numbered_sets.specs.Numbers.{Numbers}
use Rattle.numbered_sets.proofs.numbered_set.NumberedSet.meets_words.Goals as goal

pub returns-then-low-self-ne0 : goal.returns-then-low-self-ne0
returns-then-low-self-ne0 c =
    met_in_first c.args.low c.args.high c.self.inside.low c.self.inside.high c.args.more.now c.self.inside.more.items
    c.ranges.low.fits c.ranges.high.fits c.are_two_words.ensures.low c.are_two_words.ensures.high (λ e. omega (arith, e, c.if-low-self-ne0.true))
    ∙ ap (λ (x : Numbers). not (bit_and (bits_of_words (c.args.low ∷ c.args.high ∷ c.args.more.now)) x.bits == 0)) c.self.view_is

pub returns-then-high-self-ne0 : goal.returns-then-high-self-ne0
returns-then-high-self-ne0 c =
    met_in_second c.args.low c.args.high c.self.inside.low c.self.inside.high c.args.more.now c.self.inside.more.items
    c.ranges.low.fits c.ranges.high.fits c.are_two_words.ensures.low c.are_two_words.ensures.high (λ e. omega (arith, e, c.if-high-self-ne0.true))
    ∙ ap (λ (x : Numbers). not (bit_and (bits_of_words (c.args.low ∷ c.args.high ∷ c.args.more.now)) x.bits == 0)) c.self.view_is

pub returns : goal.returns
returns c =
    let its = c.self.inside.more.items in
    c.meet.ensures ∙ ap (λ (ws : List ℕ). not (bit_and (bits_of_words c.args.more.now) (bits_of_words ws) == 0)) c.as_slice.ensures.value
    ∙ met_further c.args.low c.args.high c.self.inside.low c.self.inside.high c.args.more.now its
    c.ranges.low.fits c.ranges.high.fits c.are_two_words.ensures.low c.are_two_words.ensures.high (omega (arith, c.if-low-self-ne0.false)) (omega (arith, c.if-high-self-ne0.false))
    ∙ ap (λ (x : Numbers). not (bit_and (bits_of_words (c.args.low ∷ c.args.high ∷ c.args.more.now)) x.bits == 0)) c.self.view_is
