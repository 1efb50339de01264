use Rattle.std.proofs.{Common.{◌≡◌, ◌≢◌, ℕ, get_or, inl, inr, ap, sym, subst, arith, ◌∙◌}, lemmas.Bool.{cases_lt}}
use Rattle.bit_words.specs.Words.{bits_of_words}
use Rattle.numbered_sets.specs.Within.{bits_beside}
use Rattle.numbered_sets.proofs.WithinLaws.{none_beside, some_beside, none_there, some_there}
use Rattle.numbered_sets.proofs.within.are_within.Goals as goal

pub loop-place-preserved : goal.loop-place-preserved
loop-place-preserved c = λ i lt. elim (cases_lt i c.loop-place.place) [
  | inl below ↦ c.loop-place.invariant i below
  | inr here ↦
      (let words = c.args.words.now in
      let other = c.args.other.now in
      let place = c.loop-place.place in
      let same : i ≡ place = omega (arith, here, lt) in
      let is = c.without.ensures ∙ ap (bits_beside (get_or words place 0)) c.word_at.ensures.word in
      let none : bits_beside (get_or words place 0) (get_or other place 0) ≡ 0 = omega (arith, is, c.if-without-ne0.false) in
      subst (λ (j : ℕ). bits_beside (get_or words j 0) (get_or other j 0) ≡ 0) (sym same) none)
]

pub returns-then-without-ne0 : goal.returns-then-without-ne0
returns-then-without-ne0 c =
    let words = c.args.words.now in
    let other = c.args.other.now in
    let place = c.loop-place.place in
    let is = c.without.ensures ∙ ap (bits_beside (get_or words place 0)) c.word_at.ensures.word in
    let some : bits_beside (get_or words place 0) (get_or other place 0) ≢ 0 = (λ e. omega (arith, e, is, c.if-without-ne0.true)) in
    some_there (bits_beside (bits_of_words words) (bits_of_words other)) (some_beside words other c.are_words.ensures c.are_words-2.ensures place c.loop-place-test.true some)

pub returns : goal.returns
returns c =
    let words = c.args.words.now in
    let other = c.args.other.now in
    none_there (bits_beside (bits_of_words words) (bits_of_words other))
    (none_beside words other c.are_words.ensures c.are_words-2.ensures (λ i lt. c.loop-place.invariant i (omega (arith, lt, c.loop-place-test.false))))
