use Rattle.std.proofs.Common.{rules, ◌≡◌, ◌-◌, ◌^◌, ◌∷◌, length, ap, ◌∙◌, arith}
use Rattle.std.specs.{Prelude.{bit_or}, Vec.{with_items}}
use Rattle.std.proofs.lemmas.List.{with_items_is}
use Rattle.bit_words.specs.Words.{bits_of_words}
use Rattle.bit_words.proofs.FirstWords.{put_first, put_high, put_further, same_further}
use Rattle.numbered_sets.specs.Numbers.{Numbers, numbers, with_number}
use Rattle.numbered_sets.proofs.numbered_set.NumberedSet.put.Goals as goal

pub returns-then-number-lt64-clause-set : goal.returns-then-number-lt64-clause-set
returns-then-number-lt64-clause-set c =
    ap (λ w. numbers c.self.inside.domain (bits_of_words (w ∷ c.self.inside.high ∷ c.self.inside.more.items))) c.with_bit-self-inside.ensures
    ∙ ap (numbers c.self.inside.domain) (put_first c.self.inside.low c.args.number (c.self.inside.high ∷ c.self.inside.more.items) c.are_two_words.ensures.low (omega (arith, c.if-number-lt64.true)))
    ∙ ap (λ (x : Numbers). with_number x c.args.number) c.self.view_is

pub returns-then-number-lt128-clause-set : goal.returns-then-number-lt128-clause-set
returns-then-number-lt128-clause-set c =
    ap (λ w. numbers c.self.inside.domain (bits_of_words (c.self.inside.low ∷ w ∷ c.self.inside.more.items))) c.with_bit-self-inside-then-number-lt128.ensures
    ∙ ap (numbers c.self.inside.domain)
    (put_high c.self.inside.low c.self.inside.high c.args.number c.self.inside.more.items c.are_two_words.ensures.low c.are_two_words.ensures.high (omega (arith, c.if-number-lt64.false)) (omega (arith, c.if-number-lt128.true)))
    ∙ ap (λ (x : Numbers). with_number x c.args.number) c.self.view_is

pub returns-in_err-widen-clause-err : goal.returns-in_err-widen-clause-err
returns-in_err-widen-clause-err c =
    let same : numbers c.self.inside.domain (bits_of_words (c.self.inside.low ∷ c.self.inside.high ∷ c.widen.new.words.items)) ≡ c.args.self.now =
    ap (numbers c.self.inside.domain) (same_further c.self.inside.low c.self.inside.high c.self.inside.more.items c.widen.new.words.items c.in_err-widen.ensures.same) ∙ c.self.view_is in
    search (rules, same)

pub returns-then-further-len-clause-set : goal.returns-then-further-len-clause-set
returns-then-further-len-clause-set c =
    let more = c.self.inside.more in
    let long : length c.put.new.words ≡ more.len = omega (arith, c.put.auto.words, c.as_mut_slice.ensures.len) in
    let rest : bits_of_words (with_items more c.put.new.words).items ≡ bit_or (bits_of_words more.items) (2 ^ (c.args.number - 128)) =
    ap bits_of_words (with_items_is more c.put.new.words long) ∙ c.put.ensures ∙ ap (λ m. bit_or m (2 ^ (c.args.number - 128))) (ap bits_of_words c.as_mut_slice.ensures.value) in
    ap (numbers c.self.inside.domain)
    (put_further c.self.inside.low c.self.inside.high c.args.number more.items (with_items more c.put.new.words).items c.are_two_words.ensures.low c.are_two_words.ensures.high (omega (arith, c.if-number-lt128.false)) rest)
    ∙ ap (λ (x : Numbers). with_number x c.args.number) c.self.view_is

pub returns-clause-set : goal.returns-clause-set
returns-clause-set c =
    let more = c.self.inside.more.items in
    let wide = c.widen.new.words in
    let long : length c.put-2.new.words ≡ wide.len = omega (arith, c.put-2.auto.words, c.as_mut_slice-2.ensures.len) in
    let rest : bits_of_words (with_items wide c.put-2.new.words).items ≡ bit_or (bits_of_words more) (2 ^ (c.args.number - 128)) =
    ap bits_of_words (with_items_is wide c.put-2.new.words long) ∙ c.put-2.ensures
    ∙ ap (λ m. bit_or m (2 ^ (c.args.number - 128))) (ap bits_of_words c.as_mut_slice-2.ensures.value ∙ c.in_ok-widen.ensures.same) in
    ap (numbers c.self.inside.domain)
    (put_further c.self.inside.low c.self.inside.high c.args.number more (with_items wide c.put-2.new.words).items c.are_two_words.ensures.low c.are_two_words.ensures.high (omega (arith, c.if-number-lt128.false)) rest)
    ∙ ap (λ (x : Numbers). with_number x c.args.number) c.self.view_is
