use Rattle.std.proofs.Common.{sym, subst}
use Rattle.numbered_sets.specs.{Judging.{AreJudgedTests}}
use Rattle.numbered_sets.proofs.JudgedLaws.{judged_push}
use Rattle.numbered_sets.proofs.judged.JudgedTests.searched.Goals as goal

pub returns-in_err-push-clause-judged : goal.returns-in_err-push-clause-judged
returns-in_err-push-clause-judged c = subst (AreJudgedTests c.args.seen.now.values) (sym c.in_err-push.ensures.err) c.requires

pub returns-clause-judged : goal.returns-clause-judged
returns-clause-judged c =
    subst (AreJudgedTests c.args.seen.now.values) (sym c.in_ok-push.ensures.ok)
    (judged_push c.args.seen.now.values c.args.self.now.tests c.new.result c.requires (c.new.ensures.judged c.args.seen.now.values))
