use Rattle.std.proofs.Common.{◌+◌, ◌*◌, ◌/◌, arith}
use Rattle.numbered_sets.specs.SetLists.{set_of}
use Rattle.bit_words.specs.Cursors.{IsAtWord}
use Rattle.bit_words.proofs.CursorLaws.{first_below, behind_first, past_word, none_below_bound}
use Rattle.numbered_sets.proofs.flat_sets.NumberedSets.advance.Goals as goal

pub returns-then-cursor-ne0-clause-number : goal.returns-then-cursor-ne0-clause-number
returns-then-cursor-ne0-clause-number c = λ from le before.
    first_below (set_of c.args.self.now c.args.component).bits from c.args.below c.step.result c.min.result c.step.new.self c.min.ensures (c.step.ensures.step (set_of c.args.self.now c.args.component).bits from before) le

pub returns-then-cursor-ne0-clause-behind : goal.returns-then-cursor-ne0-clause-behind
returns-then-cursor-ne0-clause-behind c = λ lt from before.
    behind_first (set_of c.args.self.now c.args.component).bits from c.args.below c.step.result c.min.result c.step.new.self c.min.ensures (c.step.ensures.step (set_of c.args.self.now c.args.component).bits from before) lt

pub returns-then-cursor-eq0-clause-number : goal.returns-then-cursor-eq0-clause-number
returns-then-cursor-eq0-clause-number c = λ from le before.
    none_below_bound (set_of c.args.self.now c.args.component).bits from c.args.cursor.now before c.if-cursor-ne0.false c.args.below le
    (c.next_word.ensures.none c.if-cursor-eq0.true)

at_word : (c : goal.After-min-2) → IsAtWord (set_of c.args.self.now c.args.component).bits (64 * (c.args.cursor.now.base / 64 + 1)) c.next_word.result
at_word c = c.next_word.ensures.some (omega (arith, c.if-cursor-eq0.false))

pub returns-clause-number : goal.returns-clause-number
returns-clause-number c = λ from le before.
    let word = at_word c in
    first_below (set_of c.args.self.now c.args.component).bits from c.args.below c.step-2.result c.min-2.result c.step-2.new.self c.min-2.ensures
    (past_word (set_of c.args.self.now c.args.component).bits from c.args.cursor.now before c.if-cursor-ne0.false c.step-2.result c.next_word.result c.step-2.new.self word (c.step-2.ensures.step (set_of c.args.self.now c.args.component).bits c.next_word.result.base word.before)) le

pub returns-clause-behind : goal.returns-clause-behind
returns-clause-behind c = λ lt from before.
    let word = at_word c in
    behind_first (set_of c.args.self.now c.args.component).bits from c.args.below c.step-2.result c.min-2.result c.step-2.new.self c.min-2.ensures
    (past_word (set_of c.args.self.now c.args.component).bits from c.args.cursor.now before c.if-cursor-ne0.false c.step-2.result c.next_word.result c.step-2.new.self word (c.step-2.ensures.step (set_of c.args.self.now c.args.component).bits c.next_word.result.base word.before)) lt
