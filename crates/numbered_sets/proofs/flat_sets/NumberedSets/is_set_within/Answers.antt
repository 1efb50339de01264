use Rattle.std.proofs.Common.{◌≡◌, ◌≢◌, ◌∷◌, ℕ, refl, ap₂, ◌∙◌, arith}
use Rattle.std.specs.Prelude.{◌==◌}
use Rattle.bit_words.specs.{Words.{bits_of_words}, Further.{further_at}}
use Rattle.numbered_sets.specs.{SetLists.{set_of}, Within.{bits_beside}}
use Rattle.numbered_sets.proofs.{FlatLaws.{read_is}, WithinLaws.{some_in_first, some_in_second, some_further}}
use Rattle.numbered_sets.proofs.flat_sets.NumberedSets.is_set_within.Goals as goal

pub returns-then-without-ne0 : goal.returns-then-without-ne0
returns-then-without-ne0 c =
    let a = c.word_at-low.result in
    let b = c.word_at-high.result in
    let x = c.word_at-other_low.result in
    let y = c.word_at-other_high.result in
    let ws = further_at c.self.inside.more c.args.component in
    let us = further_at c.other.inside.more c.args.component in
    let own : bits_of_words (a ∷ b ∷ ws) ≡ (set_of c.args.self.now c.args.component).bits =
    read_is c.self.inside.domains.value.items c.self.inside.low.items c.self.inside.high.items c.self.inside.more c.args.self.now c.self.view_is c.self.invariant.0 c.self.invariant.1 c.self.invariant.2 c.args.component
    a b c.as_slice.result.now c.as_slice-2.result.now ws c.as_slice.ensures.value c.as_slice-2.ensures.value c.word_at-low.ensures.word c.word_at-high.ensures.word refl in
    let its : bits_of_words (x ∷ y ∷ us) ≡ (set_of c.args.other.now c.args.component).bits =
    read_is c.other.inside.domains.value.items c.other.inside.low.items c.other.inside.high.items c.other.inside.more c.args.other.now c.other.view_is c.other.invariant.0 c.other.invariant.1 c.other.invariant.2 c.args.component
    x y c.as_slice-3.result.now c.as_slice-4.result.now us c.as_slice-3.ensures.value c.as_slice-4.ensures.value c.word_at-other_low.ensures.word c.word_at-other_high.ensures.word refl in
    let some : bits_beside a x ≢ 0 = (λ e. omega (arith, e, c.without.ensures, c.if-without-ne0.true)) in
    some_in_first a b x y ws us c.word_at-low.ensures.fits c.word_at-high.ensures.fits c.word_at-other_low.ensures.fits c.word_at-other_high.ensures.fits some
    ∙ ap₂ (λ (m n : ℕ). bits_beside m n == 0) own its

pub returns-then-without-ne0-2 : goal.returns-then-without-ne0-2
returns-then-without-ne0-2 c =
    let a = c.word_at-low.result in
    let b = c.word_at-high.result in
    let x = c.word_at-other_low.result in
    let y = c.word_at-other_high.result in
    let ws = further_at c.self.inside.more c.args.component in
    let us = further_at c.other.inside.more c.args.component in
    let own : bits_of_words (a ∷ b ∷ ws) ≡ (set_of c.args.self.now c.args.component).bits =
    read_is c.self.inside.domains.value.items c.self.inside.low.items c.self.inside.high.items c.self.inside.more c.args.self.now c.self.view_is c.self.invariant.0 c.self.invariant.1 c.self.invariant.2 c.args.component
    a b c.as_slice.result.now c.as_slice-2.result.now ws c.as_slice.ensures.value c.as_slice-2.ensures.value c.word_at-low.ensures.word c.word_at-high.ensures.word refl in
    let its : bits_of_words (x ∷ y ∷ us) ≡ (set_of c.args.other.now c.args.component).bits =
    read_is c.other.inside.domains.value.items c.other.inside.low.items c.other.inside.high.items c.other.inside.more c.args.other.now c.other.view_is c.other.invariant.0 c.other.invariant.1 c.other.invariant.2 c.args.component
    x y c.as_slice-3.result.now c.as_slice-4.result.now us c.as_slice-3.ensures.value c.as_slice-4.ensures.value c.word_at-other_low.ensures.word c.word_at-other_high.ensures.word refl in
    let some : bits_beside b y ≢ 0 = (λ e. omega (arith, e, c.without-2.ensures, c.if-without-ne0-2.true)) in
    some_in_second a b x y ws us c.word_at-low.ensures.fits c.word_at-high.ensures.fits c.word_at-other_low.ensures.fits c.word_at-other_high.ensures.fits some
    ∙ ap₂ (λ (m n : ℕ). bits_beside m n == 0) own its

pub returns : goal.returns
returns c =
    let a = c.word_at-low.result in
    let b = c.word_at-high.result in
    let x = c.word_at-other_low.result in
    let y = c.word_at-other_high.result in
    let ws = c.of.result.now in
    let us = c.of-2.result.now in
    let own : bits_of_words (a ∷ b ∷ ws) ≡ (set_of c.args.self.now c.args.component).bits =
    read_is c.self.inside.domains.value.items c.self.inside.low.items c.self.inside.high.items c.self.inside.more c.args.self.now c.self.view_is c.self.invariant.0 c.self.invariant.1 c.self.invariant.2 c.args.component
    a b c.as_slice.result.now c.as_slice-2.result.now ws c.as_slice.ensures.value c.as_slice-2.ensures.value c.word_at-low.ensures.word c.word_at-high.ensures.word c.of.ensures in
    let its : bits_of_words (x ∷ y ∷ us) ≡ (set_of c.args.other.now c.args.component).bits =
    read_is c.other.inside.domains.value.items c.other.inside.low.items c.other.inside.high.items c.other.inside.more c.args.other.now c.other.view_is c.other.invariant.0 c.other.invariant.1 c.other.invariant.2 c.args.component
    x y c.as_slice-3.result.now c.as_slice-4.result.now us c.as_slice-3.ensures.value c.as_slice-4.ensures.value c.word_at-other_low.ensures.word c.word_at-other_high.ensures.word c.of-2.ensures in
    let none : bits_beside a x ≡ 0 = omega (arith, c.without.ensures, c.if-without-ne0.false) in
    let none_too : bits_beside b y ≡ 0 = omega (arith, c.without-2.ensures, c.if-without-ne0-2.false) in
    c.are_within.ensures
    ∙ some_further a b x y ws us c.word_at-low.ensures.fits c.word_at-high.ensures.fits c.word_at-other_low.ensures.fits c.word_at-other_high.ensures.fits none none_too
    ∙ ap₂ (λ (m n : ℕ). bits_beside m n == 0) own its
