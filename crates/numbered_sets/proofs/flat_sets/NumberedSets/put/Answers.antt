use Rattle.std.proofs.Common.{rules, ◌≡◌, length, set, inl, inr, sym, ap, ◌∙◌, arith}
use Rattle.std.specs.Vec.{with_items}
use Rattle.std.proofs.lemmas.Bool.{cases_eq}
use Rattle.bit_words.specs.{Words.{bits_of_words}, Further.{further_at, further_bits}}
use Rattle.bit_words.proofs.FirstWords.{same_further}
use Rattle.abstract_state.specs.declared.value.Domain.{Domain}
use Rattle.numbered_sets.specs.{Numbers.{Numbers, numbers}, FlatSets.{flat_sets}}
use Rattle.numbered_sets.proofs.FlatLaws.{flat_same_further, flat_widened, as_many, flat_put, written, still_long, still_few}
use Rattle.numbered_sets.proofs.flat_sets.NumberedSets.put.Goals as goal

pub widen_for-requires : goal.widen_for-requires
widen_for-requires c =
    let ds = c.self.inside.domains.value.items in
    let low = c.self.inside.low.items in
    let high = c.self.inside.high.items in
    let more = c.self.inside.more in
    let many = as_many ds low high more c.args.self.now c.self.view_is in
    omega (arith, many, c.self.inside.low.ok.0, c.self.inside.low.ok.1, c.self.inside.low.small, c.self.invariant.0, c.requires.known)

pub invariant_of-self : goal.invariant_of-self
invariant_of-self c =
    let ds = c.self.inside.domains.value.items in
    let low = c.self.inside.low.items in
    let high = c.self.inside.high.items in
    let more = c.self.inside.more in
    let many = as_many ds low high more c.args.self.now c.self.view_is in
    let few = c.in_err-widen_for.ensures.few (length ds) c.self.invariant.1 (omega (arith, many, c.requires.known)) in
    (c.self.invariant.0, few, c.self.invariant.2)

pub returns-in_err-widen_for-clause-err : goal.returns-in_err-widen_for-clause-err
returns-in_err-widen_for-clause-err c =
    let ds = c.self.inside.domains.value.items in
    let low = c.self.inside.low.items in
    let high = c.self.inside.high.items in
    let more = c.self.inside.more in
    let many = as_many ds low high more c.args.self.now c.self.view_is in
    let wide = c.widen_for.new.words in
    let same : flat_sets ds low wide.items more ≡ c.args.self.now =
    flat_widened ds low high wide.items more c.in_err-widen_for.ensures.words ∙ c.self.view_is in
    search (rules, same)

pub put_words-requires : goal.put_words-requires
put_words-requires c =
    let ds = c.self.inside.domains.value.items in
    let low = c.self.inside.low.items in
    let high = c.self.inside.high.items in
    let more = c.self.inside.more in
    let many = as_many ds low high more c.args.self.now c.self.view_is in
    omega (arith, many, c.self.inside.low.ok.0, c.self.inside.low.ok.1, c.self.inside.low.small, c.self.invariant.0, c.requires.known)

pub invariant_of-self-in_err-put_words : goal.invariant_of-self-in_err-put_words
invariant_of-self-in_err-put_words c =
    let ds = c.self.inside.domains.value.items in
    let low = c.self.inside.low.items in
    let high = c.self.inside.high.items in
    let more = c.self.inside.more in
    let many = as_many ds low high more c.args.self.now c.self.view_is in
    let few = c.in_ok-widen_for.ensures.few (length ds) c.self.invariant.1 (omega (arith, many, c.requires.known)) in
    (c.self.invariant.0, few, c.in_err-put_words.ensures.few (length ds) c.self.invariant.2 (omega (arith, many, c.requires.known)))

pub returns-in_err-put_words-clause-err : goal.returns-in_err-put_words-clause-err
returns-in_err-put_words-clause-err c =
    let ds = c.self.inside.domains.value.items in
    let low = c.self.inside.low.items in
    let high = c.self.inside.high.items in
    let more = c.self.inside.more in
    let many = as_many ds low high more c.args.self.now c.self.view_is in
    let wide = c.widen_for.new.words in
    let after = c.put_words.new.more in
    let same : flat_sets ds low wide.items after ≡ c.args.self.now =
    flat_same_further ds low wide.items more after (λ k. elim (cases_eq k c.args.component) [
      | inl here ↦ ap (further_bits after) here ∙ c.in_err-put_words.ensures.err ∙ ap (further_bits more) (sym here)
      | inr differ ↦ c.in_err-put_words.ensures.others k differ
    ]) ∙ flat_widened ds low high wide.items more c.in_ok-widen_for.ensures.words ∙ c.self.view_is in
    search (rules, same)

pub invariant_of-self-2 : goal.invariant_of-self-2
invariant_of-self-2 c =
    let ds = c.self.inside.domains.value.items in
    let low = c.self.inside.low.items in
    let high = c.self.inside.high.items in
    let more = c.self.inside.more in
    let many = as_many ds low high more c.args.self.now c.self.view_is in
    let wide = c.widen_for.new.words in
    let few = c.in_ok-widen_for.ensures.few (length ds) c.self.invariant.1 (omega (arith, many, c.requires.known)) in
    let at = c.args.component in
    let lows : (with_items c.self.inside.low c.replace.new.words).items ≡ set low at c.other.inside.low =
    written c.self.inside.low c.replace.new.words c.as_mut_slice.result.now at c.other.inside.low
    (omega (arith, c.replace.auto.words, c.as_mut_slice.ensures.len)) c.replace.ensures c.as_mut_slice.ensures.value in
    let highs : (with_items wide c.replace-2.new.words).items ≡ set wide.items at c.other.inside.high =
    written wide c.replace-2.new.words c.as_mut_slice-2.result.now at c.other.inside.high
    (omega (arith, c.replace-2.auto.words, c.as_mut_slice-2.ensures.len)) c.replace-2.ensures c.as_mut_slice-2.ensures.value in
    let third = c.in_ok-put_words.ensures.few (length ds) c.self.invariant.2 (omega (arith, many, c.requires.known)) in
    (still_long ds low _ at _ lows c.self.invariant.0, still_few ds wide.items _ at _ highs few, third)

pub returns-clause-sets : goal.returns-clause-sets
returns-clause-sets c =
    let ds = c.self.inside.domains.value.items in
    let low = c.self.inside.low.items in
    let high = c.self.inside.high.items in
    let more = c.self.inside.more in
    let many = as_many ds low high more c.args.self.now c.self.view_is in
    let wide = c.widen_for.new.words in
    let at = c.args.component in
    let lows : (with_items c.self.inside.low c.replace.new.words).items ≡ set low at c.other.inside.low =
    written c.self.inside.low c.replace.new.words c.as_mut_slice.result.now at c.other.inside.low
    (omega (arith, c.replace.auto.words, c.as_mut_slice.ensures.len)) c.replace.ensures c.as_mut_slice.ensures.value in
    let highs : (with_items wide c.replace-2.new.words).items ≡ set wide.items at c.other.inside.high =
    written wide c.replace-2.new.words c.as_mut_slice-2.result.now at c.other.inside.high
    (omega (arith, c.replace-2.auto.words, c.as_mut_slice-2.ensures.len)) c.replace-2.ensures c.as_mut_slice-2.ensures.value in
    let after = c.put_words.new.more in
    let bits = same_further c.other.inside.low c.other.inside.high c.other.inside.more.items (further_at after at)
    (c.in_ok-put_words.ensures.bits ∙ ap bits_of_words c.as_slice.ensures.value) ∙ ap (λ (x : Numbers). x.bits) c.other.view_is in
    let view = flat_widened ds low high wide.items more c.in_ok-widen_for.ensures.words ∙ c.self.view_is in
    flat_put ds low wide.items more c.args.self.now view at c.other.inside.low c.other.inside.high c.args.other.now.bits
    (with_items c.self.inside.low c.replace.new.words).items (with_items wide c.replace-2.new.words).items after lows highs c.self.invariant.0
    c.in_ok-widen_for.ensures.room c.requires.known c.in_ok-put_words.ensures.others bits
    ∙ ap (λ (d : Domain). set c.args.self.now at (numbers d c.args.other.now.bits)) c.requires.alike
