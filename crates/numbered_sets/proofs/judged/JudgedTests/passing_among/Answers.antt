use Rattle.std.proofs.Common.{get_or, subst}
use Rattle.numbered_sets.specs.{Judging.{IsJudgedTest}}
use Rattle.std.proofs.lemmas.List.Elements.{Contains-get_or}
use Rattle.numbered_sets.proofs.JudgedLaws.{judged_put}
use Rattle.numbered_sets.proofs.judged.JudgedTests.passing_among.Goals as goal

pub among-requires-clause-judged : goal.among-requires-clause-judged
among-requires-clause-judged c =
    let it = c.at_mut-judged.result.now in
    let tests = c.args.self.now.tests in
    subst (IsJudgedTest c.args.seen.now.values) (c.at_mut-judged.ensures.item it)
    (c.requires.judged (get_or tests c.args.place it) (Contains-get_or tests c.args.place it c.requires.place))

pub returns-clause-judged : goal.returns-clause-judged
returns-clause-judged c = judged_put c.args.seen.now.values c.args.self.now.tests c.args.place c.among.new.self c.requires.judged c.among.ensures.judged
