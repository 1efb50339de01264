use Rattle.std.proofs.Common.{rules, ◌≡◌, ◌∷◌, length, ap, ap₂, ◌∙◌, arith}
use Rattle.std.specs.{Prelude.{bit_or}, Vec.{with_items}}
use Rattle.std.proofs.lemmas.List.{with_items_is}
use Rattle.bit_words.specs.Words.{bits_of_words}
use Rattle.bit_words.proofs.FirstWords.{either_two, same_further}
use Rattle.numbered_sets.specs.Numbers.{Numbers, numbers}
use Rattle.numbered_sets.proofs.numbered_set.NumberedSet.join.Goals as goal

pub returns-clause-set : goal.returns-clause-set
returns-clause-set c =
    let a = c.self.inside.low in
    let b = c.self.inside.high in
    let ws = c.self.inside.more.items in
    let x = c.other.inside.low in
    let y = c.other.inside.high in
    let us = c.other.inside.more.items in
    let wide = c.widen.new.words in
    let long : length c.put_all.new.words ≡ wide.len = omega (arith, c.put_all.auto.words, c.as_mut_slice.ensures.len) in
    let rest : bits_of_words (with_items wide c.put_all.new.words).items ≡ bit_or (bits_of_words ws) (bits_of_words us) =
    ap bits_of_words (with_items_is wide c.put_all.new.words long) ∙ c.put_all.ensures
    ∙ ap₂ bit_or (ap bits_of_words c.as_mut_slice.ensures.value ∙ c.in_ok-widen.ensures.same) (ap bits_of_words c.as_slice.ensures.value) in
    ap (numbers c.self.inside.domain)
    (either_two a b x y ws us (with_items wide c.put_all.new.words).items c.are_two_words.ensures.low c.are_two_words.ensures.high
    c.are_two_words-2.ensures.low c.are_two_words-2.ensures.high rest)
    ∙ ap₂ (λ (m n : Numbers). numbers m.domain (bit_or m.bits n.bits)) c.self.view_is c.other.view_is

pub returns-in_err-widen-clause-err : goal.returns-in_err-widen-clause-err
returns-in_err-widen-clause-err c =
    let same : numbers c.self.inside.domain (bits_of_words (c.self.inside.low ∷ c.self.inside.high ∷ c.widen.new.words.items)) ≡ c.args.self.now =
    ap (numbers c.self.inside.domain) (same_further c.self.inside.low c.self.inside.high c.self.inside.more.items c.widen.new.words.items c.in_err-widen.ensures.same) ∙ c.self.view_is in
    search (rules, same)
