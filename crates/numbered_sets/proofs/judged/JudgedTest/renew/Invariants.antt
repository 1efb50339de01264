use Rattle.std.proofs.Common.{◌≡◌}
use Rattle.numbered_sets.specs.Judging.{IsJudgedTest}
use Rattle.numbered_sets.proofs.judged.JudgedTest.renew.Given as goal

abbrev pub invariant-loop-number : goal.invariant-loop-number
invariant-loop-number l = IsJudgedTest l.seen.values l.self × (l.self.test ≡ l.initial.self.test) × (l.self.judged ≡ l._number)
