use Rattle.std.proofs.Common.{◌≡◌, ◌≢◌, ◌∷◌, ℕ, List, refl, ap, ap₂, ◌∙◌, arith}
use Rattle.std.specs.Prelude.{◌==◌}
use Rattle.bit_words.specs.{Words.{bits_of_words}, Further.{further_at}}
use Rattle.numbered_sets.specs.{Numbers.{Numbers}, SetLists.{set_of}, Within.{bits_beside}}
use Rattle.numbered_sets.proofs.{FlatLaws.{read_is}, WithinLaws.{some_in_first, some_in_second, some_further}}
use Rattle.numbered_sets.proofs.flat_sets.NumberedSets.has_each.Goals as goal

pub returns-then-without-ne0 : goal.returns-then-without-ne0
returns-then-without-ne0 c =
    let a = c.other.inside.low in
    let b = c.other.inside.high in
    let x = c.word_at-low.result in
    let y = c.word_at-high.result in
    let ws = c.other.inside.more.items in
    let us = further_at c.self.inside.more c.args.component in
    let own : bits_of_words (a ∷ b ∷ ws) ≡ c.args.other.now.bits = ap (λ (z : Numbers). z.bits) c.other.view_is in
    let its : bits_of_words (x ∷ y ∷ us) ≡ (set_of c.args.self.now c.args.component).bits =
    read_is c.self.inside.domains.value.items c.self.inside.low.items c.self.inside.high.items c.self.inside.more c.args.self.now c.self.view_is c.self.invariant.0 c.self.invariant.1 c.self.invariant.2 c.args.component
    x y c.as_slice.result.now c.as_slice-2.result.now us c.as_slice.ensures.value c.as_slice-2.ensures.value c.word_at-low.ensures.word c.word_at-high.ensures.word refl in
    let some : bits_beside a x ≢ 0 = (λ e. omega (arith, e, c.without.ensures, c.if-without-ne0.true)) in
    some_in_first a b x y ws us c.are_two_words.ensures.low c.are_two_words.ensures.high c.word_at-low.ensures.fits c.word_at-high.ensures.fits some
    ∙ ap₂ (λ (m n : ℕ). bits_beside m n == 0) own its

pub returns-then-without-ne0-2 : goal.returns-then-without-ne0-2
returns-then-without-ne0-2 c =
    let a = c.other.inside.low in
    let b = c.other.inside.high in
    let x = c.word_at-low.result in
    let y = c.word_at-high.result in
    let ws = c.other.inside.more.items in
    let us = further_at c.self.inside.more c.args.component in
    let own : bits_of_words (a ∷ b ∷ ws) ≡ c.args.other.now.bits = ap (λ (z : Numbers). z.bits) c.other.view_is in
    let its : bits_of_words (x ∷ y ∷ us) ≡ (set_of c.args.self.now c.args.component).bits =
    read_is c.self.inside.domains.value.items c.self.inside.low.items c.self.inside.high.items c.self.inside.more c.args.self.now c.self.view_is c.self.invariant.0 c.self.invariant.1 c.self.invariant.2 c.args.component
    x y c.as_slice.result.now c.as_slice-2.result.now us c.as_slice.ensures.value c.as_slice-2.ensures.value c.word_at-low.ensures.word c.word_at-high.ensures.word refl in
    let some : bits_beside b y ≢ 0 = (λ e. omega (arith, e, c.without-2.ensures, c.if-without-ne0-2.true)) in
    some_in_second a b x y ws us c.are_two_words.ensures.low c.are_two_words.ensures.high c.word_at-low.ensures.fits c.word_at-high.ensures.fits some
    ∙ ap₂ (λ (m n : ℕ). bits_beside m n == 0) own its

pub returns : goal.returns
returns c =
    let a = c.other.inside.low in
    let b = c.other.inside.high in
    let x = c.word_at-low.result in
    let y = c.word_at-high.result in
    let ws = c.as_slice-3.result.now in
    let us = c.of.result.now in
    let own : bits_of_words (a ∷ b ∷ ws) ≡ c.args.other.now.bits =
    ap (λ (zs : List ℕ). bits_of_words (a ∷ b ∷ zs)) c.as_slice-3.ensures.value ∙ ap (λ (z : Numbers). z.bits) c.other.view_is in
    let its : bits_of_words (x ∷ y ∷ us) ≡ (set_of c.args.self.now c.args.component).bits =
    read_is c.self.inside.domains.value.items c.self.inside.low.items c.self.inside.high.items c.self.inside.more c.args.self.now c.self.view_is c.self.invariant.0 c.self.invariant.1 c.self.invariant.2 c.args.component
    x y c.as_slice.result.now c.as_slice-2.result.now us c.as_slice.ensures.value c.as_slice-2.ensures.value c.word_at-low.ensures.word c.word_at-high.ensures.word c.of.ensures in
    let none : bits_beside a x ≡ 0 = omega (arith, c.without.ensures, c.if-without-ne0.false) in
    let none_too : bits_beside b y ≡ 0 = omega (arith, c.without-2.ensures, c.if-without-ne0-2.false) in
    c.are_within.ensures
    ∙ some_further a b x y ws us c.are_two_words.ensures.low c.are_two_words.ensures.high c.word_at-low.ensures.fits c.word_at-high.ensures.fits none none_too
    ∙ ap₂ (λ (m n : ℕ). bits_beside m n == 0) own its
