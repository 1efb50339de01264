use Rattle.std.proofs.Common.{ap, ◌∙◌, arith}
use Rattle.bit_words.specs.Words.{bits_of_words}
use Rattle.bit_words.proofs.FurtherLaws.{further_as_many}
use Rattle.bit_words.proofs.further.join_in_copy.Goals as goal

pub returns-clause-count : goal.returns-clause-count
returns-clause-count c =
    let same = further_as_many c.make_room.new.more c.args.more.now (λ k. ap bits_of_words (c.in_ok-make_room.ensures.same k ∙ c.in_ok-joined.ensures.words k)) in
    omega (arith, c.in_ok-added.ensures.count, same)
