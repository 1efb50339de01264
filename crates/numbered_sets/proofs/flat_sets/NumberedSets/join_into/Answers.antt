use Rattle.std.proofs.Common.{rules, ◌≡◌, ◌<◌, ◌≤◌, ◌+◌, ◌^◌, ℕ, List, length, get_or, refl, ap, ap₂, subst, ◌∙◌, arith}
use Rattle.std.specs.{Prelude.{bit_or, count_ones}, Vec.{with_items}}
use Rattle.std.proofs.lemmas.List.{with_items_is}
use Rattle.bit_words.specs.{Words.{AreWords, bits_of_words}}
use Rattle.numbered_sets.specs.FlatSets.{flat_sets}
use Rattle.numbered_sets.proofs.FlatLaws.{all_count, flat_widened, as_many, flat_joined, AreWordsJoined, words_joined}
use Rattle.numbered_sets.proofs.flat_sets.NumberedSets.join_into.Goals as goal

pub join-requires : goal.join-requires
join-requires c =
    let its = c.other.inside.domains.value.items in
    let low_too = c.other.inside.low.items in
    let high_too = c.other.inside.high.items in
    let more_too = c.other.inside.more in
    let small_too : AreWords low_too = subst AreWords c.as_slice-3.ensures.value c.are_words-3.ensures in
    let small_high_too : AreWords high_too = subst AreWords c.as_slice-4.ensures.value c.are_words-4.ensures in
    let count = all_count its low_too high_too more_too c.args.other.now c.other.view_is
    c.other.invariant.0 c.other.invariant.1 c.other.invariant.2 small_too small_high_too in
    omega (arith, count, c.requires.few)

pub join-low-requires-clause-room : goal.join-low-requires-clause-room
join-low-requires-clause-room c =
    let ds = c.self.inside.domains.value.items in
    let low = c.self.inside.low.items in
    let high = c.self.inside.high.items in
    let more = c.self.inside.more in
    let its = c.other.inside.domains.value.items in
    let low_too = c.other.inside.low.items in
    let high_too = c.other.inside.high.items in
    let more_too = c.other.inside.more in
    let many = as_many ds low high more c.args.self.now c.self.view_is in
    let many_too = as_many its low_too high_too more_too c.args.other.now c.other.view_is in
    let mine = ap length c.as_mut_slice.ensures.value in
    let other = ap length c.as_slice-5.ensures.value in
    omega (arith, many, many_too, mine, other, c.requires.as_many, c.self.invariant.0, c.other.invariant.0)

pub join-low-requires-clause-few : goal.join-low-requires-clause-few
join-low-requires-clause-few c =
    let its = c.other.inside.domains.value.items in
    let low_too = c.other.inside.low.items in
    let high_too = c.other.inside.high.items in
    let more_too = c.other.inside.more in
    let small_too : AreWords low_too = subst AreWords c.as_slice-3.ensures.value c.are_words-3.ensures in
    let small_high_too : AreWords high_too = subst AreWords c.as_slice-4.ensures.value c.are_words-4.ensures in
    let count = all_count its low_too high_too more_too c.args.other.now c.other.view_is
    c.other.invariant.0 c.other.invariant.1 c.other.invariant.2 small_too small_high_too in
    let ones_low = ap (λ (ws : List ℕ). count_ones (bits_of_words ws)) c.as_slice-5.ensures.value in
    omega (arith, count, ones_low, c.requires.few)

pub join-high-requires-clause-room : goal.join-high-requires-clause-room
join-high-requires-clause-room c =
    let mine = ap length c.as_mut_slice-2.ensures.value in
    let other = ap length c.as_slice-6.ensures.value in
    omega (arith, mine, other, c.in_ok-widen_exactly.ensures.room, c.len.ensures, c.other.inside.high.ok.0)

pub join-high-requires-clause-few : goal.join-high-requires-clause-few
join-high-requires-clause-few c =
    let its = c.other.inside.domains.value.items in
    let low_too = c.other.inside.low.items in
    let high_too = c.other.inside.high.items in
    let more_too = c.other.inside.more in
    let small_too : AreWords low_too = subst AreWords c.as_slice-3.ensures.value c.are_words-3.ensures in
    let small_high_too : AreWords high_too = subst AreWords c.as_slice-4.ensures.value c.are_words-4.ensures in
    let count = all_count its low_too high_too more_too c.args.other.now c.other.view_is
    c.other.invariant.0 c.other.invariant.1 c.other.invariant.2 small_too small_high_too in
    let ones_high = ap (λ (ws : List ℕ). count_ones (bits_of_words ws)) c.as_slice-6.ensures.value in
    omega (arith, count, ones_high, c.requires.few)

pub overflow_add-result : goal.overflow_add-result
overflow_add-result c =
    let its = c.other.inside.domains.value.items in
    let low_too = c.other.inside.low.items in
    let high_too = c.other.inside.high.items in
    let more_too = c.other.inside.more in
    let small_too : AreWords low_too = subst AreWords c.as_slice-3.ensures.value c.are_words-3.ensures in
    let small_high_too : AreWords high_too = subst AreWords c.as_slice-4.ensures.value c.are_words-4.ensures in
    let count = all_count its low_too high_too more_too c.args.other.now c.other.view_is
    c.other.invariant.0 c.other.invariant.1 c.other.invariant.2 small_too small_high_too in
    let ones_low = ap (λ (ws : List ℕ). count_ones (bits_of_words ws)) c.as_slice-5.ensures.value in
    let ones_high = ap (λ (ws : List ℕ). count_ones (bits_of_words ws)) c.as_slice-6.ensures.value in
    let fits : c.join-low.result + c.join-high.result + c.in_ok-further.further < 2 ^ 64 =
    omega (arith, count, ones_low, ones_high, c.join-low.ensures.few, c.join-high.ensures.few, c.in_ok-further.ensures.less, c.requires.few) in
    search (rules, fits)

pub overflow_add-result-2 : goal.overflow_add-result-2
overflow_add-result-2 c =
    let its = c.other.inside.domains.value.items in
    let low_too = c.other.inside.low.items in
    let high_too = c.other.inside.high.items in
    let more_too = c.other.inside.more in
    let small_too : AreWords low_too = subst AreWords c.as_slice-3.ensures.value c.are_words-3.ensures in
    let small_high_too : AreWords high_too = subst AreWords c.as_slice-4.ensures.value c.are_words-4.ensures in
    let count = all_count its low_too high_too more_too c.args.other.now c.other.view_is
    c.other.invariant.0 c.other.invariant.1 c.other.invariant.2 small_too small_high_too in
    let ones_low = ap (λ (ws : List ℕ). count_ones (bits_of_words ws)) c.as_slice-5.ensures.value in
    let ones_high = ap (λ (ws : List ℕ). count_ones (bits_of_words ws)) c.as_slice-6.ensures.value in
    let fits : c.join-low.result + c.join-high.result + c.in_ok-further.further < 2 ^ 64 =
    omega (arith, count, ones_low, ones_high, c.join-low.ensures.few, c.join-high.ensures.few, c.in_ok-further.ensures.less, c.requires.few) in
    search (rules, fits)

pub invariant_of-self : goal.invariant_of-self
invariant_of-self c =
    let ds = c.self.inside.domains.value.items in
    let low = c.self.inside.low.items in
    let high = c.self.inside.high.items in
    let more = c.self.inside.more in
    let its = c.other.inside.domains.value.items in
    let low_too = c.other.inside.low.items in
    let high_too = c.other.inside.high.items in
    let more_too = c.other.inside.more in
    let many = as_many ds low high more c.args.self.now c.self.view_is in
    let many_too = as_many its low_too high_too more_too c.args.other.now c.other.view_is in
    let few = c.in_err-widen_exactly.ensures.few (length ds) c.self.invariant.1
    (omega (arith, many, many_too, c.requires.as_many, c.len.ensures, c.other.inside.high.ok.0, c.other.invariant.1)) in
    (c.self.invariant.0, few, c.self.invariant.2)

pub returns-in_err-widen_exactly-clause-err : goal.returns-in_err-widen_exactly-clause-err
returns-in_err-widen_exactly-clause-err c =
    let ds = c.self.inside.domains.value.items in
    let low = c.self.inside.low.items in
    let high = c.self.inside.high.items in
    let more = c.self.inside.more in
    let wide = c.widen_exactly.new.words in
    let same : flat_sets ds low wide.items more ≡ c.args.self.now =
    flat_widened ds low high wide.items more c.in_err-widen_exactly.ensures.words ∙ c.self.view_is in
    search (rules, same)

pub invariant_of-self-in_err-further : goal.invariant_of-self-in_err-further
invariant_of-self-in_err-further c =
    let ds = c.self.inside.domains.value.items in
    let low = c.self.inside.low.items in
    let high = c.self.inside.high.items in
    let more = c.self.inside.more in
    let its = c.other.inside.domains.value.items in
    let low_too = c.other.inside.low.items in
    let high_too = c.other.inside.high.items in
    let more_too = c.other.inside.more in
    let many = as_many ds low high more c.args.self.now c.self.view_is in
    let many_too = as_many its low_too high_too more_too c.args.other.now c.other.view_is in
    let few = c.in_ok-widen_exactly.ensures.few (length ds) c.self.invariant.1
    (omega (arith, many, many_too, c.requires.as_many, c.len.ensures, c.other.inside.high.ok.0, c.other.invariant.1)) in
    let third = c.in_err-further.ensures.few (length ds) c.self.invariant.2
    (omega (arith, many, many_too, c.requires.as_many, c.other.invariant.2)) in
    (c.self.invariant.0, few, third)

pub returns-in_err-further-clause-err : goal.returns-in_err-further-clause-err
returns-in_err-further-clause-err c =
    let ds = c.self.inside.domains.value.items in
    let low = c.self.inside.low.items in
    let high = c.self.inside.high.items in
    let more = c.self.inside.more in
    let wide = c.widen_exactly.new.words in
    let same : flat_sets ds low wide.items c.join.new.more ≡ c.args.self.now =
    ap (flat_sets ds low wide.items) c.in_err-further.ensures.err ∙ flat_widened ds low high wide.items more c.in_ok-widen_exactly.ensures.words ∙ c.self.view_is in
    search (rules, same)

pub invariant_of-self-2 : goal.invariant_of-self-2
invariant_of-self-2 c =
    let ds = c.self.inside.domains.value.items in
    let low = c.self.inside.low.items in
    let high = c.self.inside.high.items in
    let more = c.self.inside.more in
    let its = c.other.inside.domains.value.items in
    let low_too = c.other.inside.low.items in
    let high_too = c.other.inside.high.items in
    let more_too = c.other.inside.more in
    let many = as_many ds low high more c.args.self.now c.self.view_is in
    let many_too = as_many its low_too high_too more_too c.args.other.now c.other.view_is in
    let wide = c.widen_exactly.new.words in
    let few = c.in_ok-widen_exactly.ensures.few (length ds) c.self.invariant.1
    (omega (arith, many, many_too, c.requires.as_many, c.len.ensures, c.other.inside.high.ok.0, c.other.invariant.1)) in
    let third = c.in_ok-further.ensures.few (length ds) c.self.invariant.2
    (omega (arith, many, many_too, c.requires.as_many, c.other.invariant.2)) in
    let low_is = with_items_is c.self.inside.low c.join-low.new.words (omega (arith, c.join-low.auto.words, c.as_mut_slice.ensures.len)) in
    let high_is = with_items_is wide c.join-high.new.words (omega (arith, c.join-high.auto.words, c.as_mut_slice-2.ensures.len)) in
    let low_new = (with_items c.self.inside.low c.join-low.new.words).items in
    let high_new = (with_items wide c.join-high.new.words).items in
    let first = ap length low_is in
    let second = ap length high_is in
    let mine = ap length c.as_mut_slice.ensures.value in
    let mine_too = ap length c.as_mut_slice-2.ensures.value in
    let long : length low_new ≡ length ds = omega (arith, first, mine, c.join-low.auto.words, c.self.invariant.0) in
    let long_high : length high_new ≤ length ds = omega (arith, second, mine_too, c.join-high.auto.words, few) in
    (long, long_high, third)

pub returns-clause-sets : goal.returns-clause-sets
returns-clause-sets c =
    let ds = c.self.inside.domains.value.items in
    let low = c.self.inside.low.items in
    let high = c.self.inside.high.items in
    let more = c.self.inside.more in
    let its = c.other.inside.domains.value.items in
    let low_too = c.other.inside.low.items in
    let high_too = c.other.inside.high.items in
    let more_too = c.other.inside.more in
    let wide = c.widen_exactly.new.words in
    let low_is = with_items_is c.self.inside.low c.join-low.new.words (omega (arith, c.join-low.auto.words, c.as_mut_slice.ensures.len)) in
    let high_is = with_items_is wide c.join-high.new.words (omega (arith, c.join-high.auto.words, c.as_mut_slice-2.ensures.len)) in
    let low_new = (with_items c.self.inside.low c.join-low.new.words).items in
    let high_new = (with_items wide c.join-high.new.words).items in
    let small : AreWords low = subst AreWords c.as_slice.ensures.value c.are_words.ensures in
    let small_high : AreWords wide.items = subst AreWords c.as_slice-2.ensures.value c.are_words-2.ensures in
    let small_too : AreWords low_too = subst AreWords c.as_slice-3.ensures.value c.are_words-3.ensures in
    let small_high_too : AreWords high_too = subst AreWords c.as_slice-4.ensures.value c.are_words-4.ensures in
    let lows : AreWordsJoined low low_too low_new =
    (λ i. ap (λ (ws : List ℕ). get_or ws i 0) low_is ∙ c.join-low.ensures.words i
    ∙ ap₂ (λ (ws us : List ℕ). bit_or (get_or ws i 0) (get_or us i 0)) c.as_mut_slice.ensures.value c.as_slice-5.ensures.value) in
    let highs : AreWordsJoined wide.items high_too high_new =
    (λ i. ap (λ (ws : List ℕ). get_or ws i 0) high_is ∙ c.join-high.ensures.words i
    ∙ ap₂ (λ (ws us : List ℕ). bit_or (get_or ws i 0) (get_or us i 0)) c.as_mut_slice-2.ensures.value c.as_slice-6.ensures.value) in
    let view = flat_widened ds low high wide.items more c.in_ok-widen_exactly.ensures.words ∙ c.self.view_is in
    flat_joined ds its low wide.items low_too high_too low_new high_new more more_too c.join.new.more c.args.self.now c.args.other.now view c.other.view_is
    c.requires.as_many small small_high small_too small_high_too lows highs c.in_ok-further.ensures.bits

pub returns-clause-count : goal.returns-clause-count
returns-clause-count c =
    let ds = c.self.inside.domains.value.items in
    let low = c.self.inside.low.items in
    let high = c.self.inside.high.items in
    let more = c.self.inside.more in
    let its = c.other.inside.domains.value.items in
    let low_too = c.other.inside.low.items in
    let high_too = c.other.inside.high.items in
    let more_too = c.other.inside.more in
    let many = as_many ds low high more c.args.self.now c.self.view_is in
    let many_too = as_many its low_too high_too more_too c.args.other.now c.other.view_is in
    let wide = c.widen_exactly.new.words in
    let few = c.in_ok-widen_exactly.ensures.few (length ds) c.self.invariant.1
    (omega (arith, many, many_too, c.requires.as_many, c.len.ensures, c.other.inside.high.ok.0, c.other.invariant.1)) in
    let third = c.in_ok-further.ensures.few (length ds) c.self.invariant.2
    (omega (arith, many, many_too, c.requires.as_many, c.other.invariant.2)) in
    let low_is = with_items_is c.self.inside.low c.join-low.new.words (omega (arith, c.join-low.auto.words, c.as_mut_slice.ensures.len)) in
    let high_is = with_items_is wide c.join-high.new.words (omega (arith, c.join-high.auto.words, c.as_mut_slice-2.ensures.len)) in
    let low_new = (with_items c.self.inside.low c.join-low.new.words).items in
    let high_new = (with_items wide c.join-high.new.words).items in
    let first = ap length low_is in
    let second = ap length high_is in
    let mine = ap length c.as_mut_slice.ensures.value in
    let mine_too = ap length c.as_mut_slice-2.ensures.value in
    let long : length low_new ≡ length ds = omega (arith, first, mine, c.join-low.auto.words, c.self.invariant.0) in
    let long_high : length high_new ≤ length ds = omega (arith, second, mine_too, c.join-high.auto.words, few) in
    let small : AreWords low = subst AreWords c.as_slice.ensures.value c.are_words.ensures in
    let small_high : AreWords wide.items = subst AreWords c.as_slice-2.ensures.value c.are_words-2.ensures in
    let small_too : AreWords low_too = subst AreWords c.as_slice-3.ensures.value c.are_words-3.ensures in
    let small_high_too : AreWords high_too = subst AreWords c.as_slice-4.ensures.value c.are_words-4.ensures in
    let lows : AreWordsJoined low low_too low_new =
    (λ i. ap (λ (ws : List ℕ). get_or ws i 0) low_is ∙ c.join-low.ensures.words i
    ∙ ap₂ (λ (ws us : List ℕ). bit_or (get_or ws i 0) (get_or us i 0)) c.as_mut_slice.ensures.value c.as_slice-5.ensures.value) in
    let highs : AreWordsJoined wide.items high_too high_new =
    (λ i. ap (λ (ws : List ℕ). get_or ws i 0) high_is ∙ c.join-high.ensures.words i
    ∙ ap₂ (λ (ws us : List ℕ). bit_or (get_or ws i 0) (get_or us i 0)) c.as_mut_slice-2.ensures.value c.as_slice-6.ensures.value) in
    let view = flat_widened ds low high wide.items more c.in_ok-widen_exactly.ensures.words ∙ c.self.view_is in
    let was = all_count ds low wide.items more c.args.self.now view c.self.invariant.0 few c.self.invariant.2 small small_high in
    let now = all_count ds low_new high_new c.join.new.more (flat_sets ds low_new high_new c.join.new.more) refl long long_high third
    (words_joined low low_too low_new small small_too lows) (words_joined wide.items high_too high_new small_high small_high_too highs) in
    let added_low : count_ones (bits_of_words low_new) ≡ count_ones (bits_of_words low) + c.join-low.result =
    ap (λ (ws : List ℕ). count_ones (bits_of_words ws)) low_is ∙ c.join-low.ensures.count
    ∙ ap (λ (ws : List ℕ). count_ones (bits_of_words ws) + c.join-low.result) c.as_mut_slice.ensures.value in
    let added_high : count_ones (bits_of_words high_new) ≡ count_ones (bits_of_words wide.items) + c.join-high.result =
    ap (λ (ws : List ℕ). count_ones (bits_of_words ws)) high_is ∙ c.join-high.ensures.count
    ∙ ap (λ (ws : List ℕ). count_ones (bits_of_words ws) + c.join-high.result) c.as_mut_slice-2.ensures.value in
    omega (arith, was, now, added_low, added_high, c.in_ok-further.ensures.count)
