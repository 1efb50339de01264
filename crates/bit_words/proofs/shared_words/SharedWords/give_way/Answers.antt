use Rattle.std.proofs.Common.{List, ℕ, ap, ◌∙◌, arith}
use Rattle.std.specs.Prelude.{count_ones}
use Rattle.std.proofs.lemmas.Nat.{or_comm}
use Rattle.bit_words.specs.Words.{bits_of_words}
use Rattle.bit_words.proofs.{WordLaws.{ones_within}}
use Rattle.bit_words.proofs.shared_words.SharedWords.give_way.Goals as goal

pub count-requires-2 : goal.count-requires-2
count-requires-2 c =
    let mine = ap (λ (ws : List ℕ). count_ones (bits_of_words ws)) c.as_slice-2.ensures in
    omega (arith, mine, ones_within (bits_of_words c.args.self.now) (bits_of_words c.args.other.now) c.requires.all, c.requires.few)

pub overflow_sub-added : goal.overflow_sub-added
overflow_sub-added c =
    let mine = ap (λ (ws : List ℕ). count_ones (bits_of_words ws)) c.as_slice-2.ensures in
    let its = ap (λ (ws : List ℕ). count_ones (bits_of_words ws)) c.as_slice.ensures in
    omega (arith, mine, its, c.count.ensures, c.count-2.ensures, ones_within (bits_of_words c.args.self.now) (bits_of_words c.args.other.now) c.requires.all)

pub returns-clause-bits : goal.returns-clause-bits
returns-clause-bits c =
    ap bits_of_words c.in_ok-shared.ensures ∙ c.requires.all ∙ or_comm (bits_of_words c.args.other.now) (bits_of_words c.args.self.now)

pub returns-clause-count : goal.returns-clause-count
returns-clause-count c =
    let mine = ap (λ (ws : List ℕ). count_ones (bits_of_words ws)) c.as_slice-2.ensures in
    let its = ap (λ (ws : List ℕ). count_ones (bits_of_words ws)) c.as_slice.ensures in
    let new = ap (λ (ws : List ℕ). count_ones (bits_of_words ws)) c.in_ok-shared.ensures in
    omega (arith, mine, its, new, c.count.ensures, c.count-2.ensures, ones_within (bits_of_words c.args.self.now) (bits_of_words c.args.other.now) c.requires.all)
