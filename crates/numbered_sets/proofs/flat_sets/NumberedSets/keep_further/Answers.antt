use Rattle.std.proofs.Common.{rules, ◌≡◌, ◌<◌, ◌^◌, ℕ, List, length, get_or, set, refl, ap, ap₂, subst, ◌∙◌, arith}
use Rattle.std.specs.{Prelude.{bit_and}, Vec.{with_items}}
use Rattle.std.proofs.Math.ListN.{get_or-eq_default}
use Rattle.bit_words.specs.{Words.{bits_of_words}, Further.{further_at, further_bits}}
use Rattle.bit_words.proofs.{FirstWords.{both_two}, OtherWords.{and_zero_l}}
use Rattle.numbered_sets.specs.{Numbers.{Numbers}, SetLists.{set_of}, FlatSets.{flat_sets}}
use Rattle.numbered_sets.proofs.FlatLaws.{read_is, flat_put, written, still_long, still_few}
use Rattle.numbered_sets.proofs.flat_sets.NumberedSets.keep_further.Goals as goal

pub invariant_of-self : goal.invariant_of-self
invariant_of-self c = (c.self.invariant.0, c.self.invariant.1, (let same = ap length c.in_err-keep.ensures.err in omega (arith, same, c.self.invariant.2)))

pub returns-in_err-keep-clause-err : goal.returns-in_err-keep-clause-err
returns-in_err-keep-clause-err c =
    let same : flat_sets c.self.inside.domains.value.items c.self.inside.low.items c.self.inside.high.items c.keep.new.more ≡ c.args.self.now =
    ap (flat_sets c.self.inside.domains.value.items c.self.inside.low.items c.self.inside.high.items) c.in_err-keep.ensures.err ∙ c.self.view_is in
    search (rules, same)

pub invariant_of-self-2 : goal.invariant_of-self-2
invariant_of-self-2 c =
    let lows : (with_items c.self.inside.low c.keep_at.new.words).items ≡ set c.self.inside.low.items c.args.component (bit_and (get_or c.self.inside.low.items c.args.component 0) c.other.inside.low) =
    written c.self.inside.low c.keep_at.new.words c.as_mut_slice.result.now c.args.component (bit_and (get_or c.self.inside.low.items c.args.component 0) c.other.inside.low) (omega (arith, c.keep_at.auto.words, c.as_mut_slice.ensures.len))
    (c.keep_at.ensures.word ∙ ap (λ (ws : List ℕ). set c.as_mut_slice.result.now c.args.component (bit_and (get_or ws c.args.component 0) c.other.inside.low)) c.as_mut_slice.ensures.value) c.as_mut_slice.ensures.value in
    let highs : (with_items c.self.inside.high c.keep_at-2.new.words).items ≡ set c.self.inside.high.items c.args.component (bit_and (get_or c.self.inside.high.items c.args.component 0) c.other.inside.high) =
    written c.self.inside.high c.keep_at-2.new.words c.as_mut_slice-2.result.now c.args.component (bit_and (get_or c.self.inside.high.items c.args.component 0) c.other.inside.high) (omega (arith, c.keep_at-2.auto.words, c.as_mut_slice-2.ensures.len))
    (c.keep_at-2.ensures.word ∙ ap (λ (ws : List ℕ). set c.as_mut_slice-2.result.now c.args.component (bit_and (get_or ws c.args.component 0) c.other.inside.high)) c.as_mut_slice-2.ensures.value) c.as_mut_slice-2.ensures.value in
    let third = c.in_ok-keep.ensures.others.as_many in
    let first = still_long c.self.inside.domains.value.items c.self.inside.low.items _ c.args.component _ lows c.self.invariant.0 in
    let second = still_few c.self.inside.domains.value.items c.self.inside.high.items _ c.args.component _ highs c.self.invariant.1 in
    (first, second, omega (arith, third, c.self.invariant.2))

pub returns-clause-sets : goal.returns-clause-sets
returns-clause-sets c =
    let lows : (with_items c.self.inside.low c.keep_at.new.words).items ≡ set c.self.inside.low.items c.args.component (bit_and (get_or c.self.inside.low.items c.args.component 0) c.other.inside.low) =
    written c.self.inside.low c.keep_at.new.words c.as_mut_slice.result.now c.args.component (bit_and (get_or c.self.inside.low.items c.args.component 0) c.other.inside.low) (omega (arith, c.keep_at.auto.words, c.as_mut_slice.ensures.len))
    (c.keep_at.ensures.word ∙ ap (λ (ws : List ℕ). set c.as_mut_slice.result.now c.args.component (bit_and (get_or ws c.args.component 0) c.other.inside.low)) c.as_mut_slice.ensures.value) c.as_mut_slice.ensures.value in
    let highs : (with_items c.self.inside.high c.keep_at-2.new.words).items ≡ set c.self.inside.high.items c.args.component (bit_and (get_or c.self.inside.high.items c.args.component 0) c.other.inside.high) =
    written c.self.inside.high c.keep_at-2.new.words c.as_mut_slice-2.result.now c.args.component (bit_and (get_or c.self.inside.high.items c.args.component 0) c.other.inside.high) (omega (arith, c.keep_at-2.auto.words, c.as_mut_slice-2.ensures.len))
    (c.keep_at-2.ensures.word ∙ ap (λ (ws : List ℕ). set c.as_mut_slice-2.result.now c.args.component (bit_and (get_or ws c.args.component 0) c.other.inside.high)) c.as_mut_slice-2.ensures.value) c.as_mut_slice-2.ensures.value in
    let rest : further_bits c.keep.new.more c.args.component ≡ bit_and (further_bits c.self.inside.more c.args.component) (bits_of_words c.other.inside.more.items) =
    c.in_ok-keep.ensures.bits ∙ ap (λ (ws : List ℕ). bit_and (further_bits c.self.inside.more c.args.component) (bits_of_words ws)) c.as_slice.ensures.value in
    flat_put c.self.inside.domains.value.items c.self.inside.low.items c.self.inside.high.items c.self.inside.more c.args.self.now c.self.view_is c.args.component (bit_and (get_or c.self.inside.low.items c.args.component 0) c.other.inside.low) (bit_and (get_or c.self.inside.high.items c.args.component 0) c.other.inside.high) (bit_and (set_of c.args.self.now c.args.component).bits c.args.other.now.bits)
    (with_items c.self.inside.low c.keep_at.new.words).items
    (with_items c.self.inside.high c.keep_at-2.new.words).items c.keep.new.more lows highs c.self.invariant.0
    (λ past. ap (λ (m : ℕ). bit_and m c.other.inside.high) (get_or-eq_default c.self.inside.high.items 0 past) ∙ and_zero_l c.other.inside.high)
    c.requires
    (λ k differ. ap bits_of_words (c.in_ok-keep.ensures.others.others k differ))
    (both_two (get_or c.self.inside.low.items c.args.component 0) (get_or c.self.inside.high.items c.args.component 0) c.other.inside.low c.other.inside.high (further_at c.self.inside.more c.args.component) c.other.inside.more.items (further_at c.keep.new.more c.args.component)
    (subst (λ (ws : List ℕ). get_or ws c.args.component 0 < 2 ^ 64) c.as_mut_slice.ensures.value c.keep_at.ensures.fits) (subst (λ (ws : List ℕ). get_or ws c.args.component 0 < 2 ^ 64) c.as_mut_slice-2.ensures.value c.keep_at-2.ensures.fits) c.are_two_words.ensures.low c.are_two_words.ensures.high rest
    ∙ ap₂ (λ (m n : ℕ). bit_and m n)
    (read_is c.self.inside.domains.value.items c.self.inside.low.items c.self.inside.high.items c.self.inside.more c.args.self.now c.self.view_is c.self.invariant.0 c.self.invariant.1 c.self.invariant.2 c.args.component
    (get_or c.self.inside.low.items c.args.component 0) (get_or c.self.inside.high.items c.args.component 0) c.self.inside.low.items c.self.inside.high.items (further_at c.self.inside.more c.args.component) refl refl refl refl refl)
    (ap (λ (x : Numbers). x.bits) c.other.view_is))
