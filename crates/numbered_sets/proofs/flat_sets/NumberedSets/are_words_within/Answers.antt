use Rattle.std.proofs.{Common.{◌≡◌, ◌∙◌, length, get_or, inl, inr, sym, ap₂, subst, arith}, lemmas.Bool.{cases_lt, OnTrue_at}}
use Rattle.bit_words.specs.{Words.{AreWords}, Further.{further_at, further_bits}}
use Rattle.bit_words.proofs.WordLaws.{small_at}
use Rattle.numbered_sets.specs.{SetLists.{set_of}, Within.{bits_beside}}
use Rattle.numbered_sets.proofs.{FlatLaws.{as_many, bits_are}, WithinLaws.{beside_words, none_in_all, none_past, within_set}}
use Rattle.numbered_sets.proofs.flat_sets.NumberedSets.are_words_within.Goals as goal

pub returns : goal.returns
returns c =
    let low = c.self.inside.low.items in
    let high = c.self.inside.high.items in
    let more = c.self.inside.more in
    let other_low = c.other.inside.low.items in
    let other_high = c.other.inside.high.items in
    let other_more = c.other.inside.more in
    let many = as_many c.self.inside.domains.value.items low high more c.args.self.now c.self.view_is in
    let fits : AreWords low = subst AreWords c.as_slice.ensures.value c.are_words.ensures in
    let fit_too : AreWords high = subst AreWords c.as_slice-2.ensures.value c.are_words-2.ensures in
    let its : AreWords other_low = subst AreWords c.as_slice-3.ensures.value c.are_words-3.ensures in
    let its_too : AreWords other_high = subst AreWords c.as_slice-4.ensures.value c.are_words-4.ensures in
    record {
      each = λ k n h. elim (cases_lt k (length c.args.self.now)) [
        | inl lt ↦
            (let first : bits_beside (get_or low k 0) (get_or other_low k 0) ≡ 0 =
            beside_words low other_low c.as_slice-6.result.now c.as_slice-5.result.now c.as_slice-6.ensures.value c.as_slice-5.ensures.value
            (OnTrue_at c.if-not-have_all.false c.have_all.ensures.words) k in
            let second : bits_beside (get_or high k 0) (get_or other_high k 0) ≡ 0 =
            beside_words high other_high c.as_slice-8.result.now c.as_slice-7.result.now c.as_slice-8.ensures.value c.as_slice-7.ensures.value
            (OnTrue_at c.if-not-have_all-2.false c.have_all-2.ensures.words) k in
            let further : bits_beside (further_bits more k) (further_bits other_more k) ≡ 0 = OnTrue_at c.if-not-are_further_within.false c.are_further_within.ensures k in
            let none = none_in_all (get_or low k 0) (get_or high k 0) (get_or other_low k 0) (get_or other_high k 0) (further_at more k) (further_at other_more k)
            (small_at low k fits) (small_at high k fit_too) (small_at other_low k its) (small_at other_high k its_too) first second further in
            let own = bits_are c.self.inside.domains.value.items low high more c.args.self.now c.self.view_is c.self.invariant.0 c.self.invariant.1 c.self.invariant.2 k in
            let others = bits_are c.other.inside.domains.value.items other_low other_high other_more c.args.other.now c.other.view_is c.other.invariant.0 c.other.invariant.1 c.other.invariant.2 k in
            within_set (set_of c.args.self.now k) (set_of c.args.other.now k) (sym (ap₂ bits_beside own others) ∙ none) n h)
        | inr le ↦ absurd (none_past c.args.self.now k n (omega (arith, le)) h)
      ];
    }
