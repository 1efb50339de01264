use Rattle.std.proofs.Common.{◌≡◌, ◌≢◌, List, ℕ, ap₂, ◌∙◌, arith}
use Rattle.std.specs.Prelude.{◌==◌}
use Rattle.bit_words.specs.Words.{bits_of_words}
use Rattle.numbered_sets.specs.{Numbers.{Numbers}, Within.{bits_beside}}
use Rattle.numbered_sets.proofs.WithinLaws.{some_in_first, some_in_second, some_further}
use Rattle.numbered_sets.proofs.numbered_set.NumberedSet.is_within.Goals as goal

pub returns-then-without-ne0 : goal.returns-then-without-ne0
returns-then-without-ne0 c =
    let a = c.self.inside.low in
    let x = c.other.inside.low in
    let some : bits_beside a x ≢ 0 = (λ e. omega (arith, e, c.without.ensures, c.if-without-ne0.true)) in
    some_in_first a c.self.inside.high x c.other.inside.high c.self.inside.more.items c.other.inside.more.items
    c.are_two_words.ensures.low c.are_two_words.ensures.high c.are_two_words-2.ensures.low c.are_two_words-2.ensures.high some
    ∙ ap₂ (λ (m n : Numbers). bits_beside m.bits n.bits == 0) c.self.view_is c.other.view_is

pub returns-then-without-ne0-2 : goal.returns-then-without-ne0-2
returns-then-without-ne0-2 c =
    let b = c.self.inside.high in
    let y = c.other.inside.high in
    let some : bits_beside b y ≢ 0 = (λ e. omega (arith, e, c.without-2.ensures, c.if-without-ne0-2.true)) in
    some_in_second c.self.inside.low b c.other.inside.low y c.self.inside.more.items c.other.inside.more.items
    c.are_two_words.ensures.low c.are_two_words.ensures.high c.are_two_words-2.ensures.low c.are_two_words-2.ensures.high some
    ∙ ap₂ (λ (m n : Numbers). bits_beside m.bits n.bits == 0) c.self.view_is c.other.view_is

pub returns : goal.returns
returns c =
    let a = c.self.inside.low in
    let b = c.self.inside.high in
    let x = c.other.inside.low in
    let y = c.other.inside.high in
    let none : bits_beside a x ≡ 0 = omega (arith, c.without.ensures, c.if-without-ne0.false) in
    let none_too : bits_beside b y ≡ 0 = omega (arith, c.without-2.ensures, c.if-without-ne0-2.false) in
    c.are_within.ensures ∙ ap₂ (λ (ws us : List ℕ). bits_beside (bits_of_words ws) (bits_of_words us) == 0) c.as_slice.ensures.value c.as_slice-2.ensures.value
    ∙ some_further a b x y c.self.inside.more.items c.other.inside.more.items
    c.are_two_words.ensures.low c.are_two_words.ensures.high c.are_two_words-2.ensures.low c.are_two_words-2.ensures.high none none_too
    ∙ ap₂ (λ (m n : Numbers). bits_beside m.bits n.bits == 0) c.self.view_is c.other.view_is
