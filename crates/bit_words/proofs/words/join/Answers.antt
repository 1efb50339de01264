use Rattle.std.proofs.Common.{length, arith}
use Rattle.bit_words.proofs.WordLaws.{nothing_new, joined_count, each_joined}
use Rattle.bit_words.proofs.words.join.Goals as goal

pub returns-then-have_all-clause-words : goal.returns-then-have_all-clause-words
returns-then-have_all-clause-words c =
    let words = c.args.words.now in
    let other = c.args.other.now in
    each_joined words other words (length other) 0 (omega arith) (nothing_new words other c.if-have_all.ensures.words)

pub returns-then-have_all-clause-count : goal.returns-then-have_all-clause-count
returns-then-have_all-clause-count c =
    let words = c.args.words.now in
    let other = c.args.other.now in
    joined_count words other words (length other) 0 c.are_words.ensures c.are_words-2.ensures (nothing_new words other c.if-have_all.ensures.words) c.requires.room
