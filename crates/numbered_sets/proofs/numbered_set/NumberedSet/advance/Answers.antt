use Rattle.std.proofs.Common.{◌≡◌, ◌+◌, ◌*◌, ◌/◌, ◌∷◌, false, List, ℕ, ap, subst, ◌∙◌, arith}
use Rattle.bit_words.specs.Words.{bits_of_words}
use Rattle.osek_values.specs.Bits.{has_bit}
use Rattle.numbered_sets.specs.Numbers.{Numbers}
use Rattle.bit_words.specs.Cursors.{IsAtWord}
use Rattle.bit_words.proofs.CursorLaws.{first_below, behind_first, past_word, none_below_bound}
use Rattle.numbered_sets.proofs.numbered_set.NumberedSet.advance.Goals as goal

pub returns-then-cursor-ne0-clause-number : goal.returns-then-cursor-ne0-clause-number
returns-then-cursor-ne0-clause-number c = λ from le before.
    first_below c.args.self.now.bits from c.args.below c.step.result c.min.result c.step.new.self c.min.ensures (c.step.ensures.step c.args.self.now.bits from before) le

pub returns-then-cursor-ne0-clause-behind : goal.returns-then-cursor-ne0-clause-behind
returns-then-cursor-ne0-clause-behind c = λ lt from before.
    behind_first c.args.self.now.bits from c.args.below c.step.result c.min.result c.step.new.self c.min.ensures (c.step.ensures.step c.args.self.now.bits from before) lt

pub returns-then-cursor-eq0-clause-number : goal.returns-then-cursor-eq0-clause-number
returns-then-cursor-eq0-clause-number c = λ from le before.
    none_below_bound c.args.self.now.bits from c.args.cursor.now before c.if-cursor-ne0.false c.args.below le
    (λ k above below.
    let bits : bits_of_words (c.self.inside.low ∷ c.self.inside.high ∷ c.as_slice.result.now) ≡ c.args.self.now.bits =
    ap (λ (ws : List ℕ). bits_of_words (c.self.inside.low ∷ c.self.inside.high ∷ ws)) c.as_slice.ensures.value ∙ ap (λ (x : Numbers). x.bits) c.self.view_is in
    subst (λ (m : ℕ). has_bit m k ≡ false) bits (c.next_word.ensures.none c.if-cursor-eq0.true c.self.inside.low k c.are_two_words.ensures.low above below))

at_word : (c : goal.After-min-2) → IsAtWord c.args.self.now.bits (64 * (c.args.cursor.now.base / 64 + 1)) c.next_word.result
at_word c =
    let bits : bits_of_words (c.self.inside.low ∷ c.self.inside.high ∷ c.as_slice.result.now) ≡ c.args.self.now.bits =
    ap (λ (ws : List ℕ). bits_of_words (c.self.inside.low ∷ c.self.inside.high ∷ ws)) c.as_slice.ensures.value ∙ ap (λ (x : Numbers). x.bits) c.self.view_is in
    subst (λ (m : ℕ). IsAtWord m (64 * (c.args.cursor.now.base / 64 + 1)) c.next_word.result) bits (c.next_word.ensures.some (omega (arith, c.if-cursor-eq0.false)) c.self.inside.low c.are_two_words.ensures.low)

pub returns-clause-number : goal.returns-clause-number
returns-clause-number c = λ from le before.
    let word = at_word c in
    first_below c.args.self.now.bits from c.args.below c.step-2.result c.min-2.result c.step-2.new.self c.min-2.ensures
    (past_word c.args.self.now.bits from c.args.cursor.now before c.if-cursor-ne0.false c.step-2.result c.next_word.result c.step-2.new.self word (c.step-2.ensures.step c.args.self.now.bits c.next_word.result.base word.before)) le

pub returns-clause-behind : goal.returns-clause-behind
returns-clause-behind c = λ lt from before.
    let word = at_word c in
    behind_first c.args.self.now.bits from c.args.below c.step-2.result c.min-2.result c.step-2.new.self c.min-2.ensures
    (past_word c.args.self.now.bits from c.args.cursor.now before c.if-cursor-ne0.false c.step-2.result c.next_word.result c.step-2.new.self word (c.step-2.ensures.step c.args.self.now.bits c.next_word.result.base word.before)) lt
