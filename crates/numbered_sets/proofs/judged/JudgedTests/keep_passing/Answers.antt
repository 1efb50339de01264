use Rattle.std.proofs.Common.{get_or, sym, subst}
use Rattle.numbered_sets.specs.{Passing.{ArePassing, IsSifted}, Numbers.{Numbers, kept_numbers}, NumberedEntries.{numbers_at}}
use Rattle.flow_model.specs.declared.test.Test.{Test}
use Rattle.numbered_sets.proofs.{JudgedLaws.{judged_test, asked_sifted}, SiftLaws.{put_at, passing_kept}}
use Rattle.numbered_sets.proofs.judged.JudgedTests.keep_passing.Goals as goal

pub returns-then-is_worth_keeping-clause-passing : goal.returns-then-is_worth_keeping-clause-passing
returns-then-is_worth_keeping-clause-passing c =
    let values = c.args.seen.now.values in
    let test = c.args.test.now in
    let was = numbers_at c.args.entry.now c.args.component in
    let tests = c.renew.new.self.tests in
    let place = c.in_ok-place.place in
    let passing = c.passing.result.now in
    let none = judged_test test 0 was 0 in
    let asked : IsSifted values test was (kept_numbers was (get_or tests place none).passing) = asked_sifted values test tests place c.renew.ensures.judged c.in_ok-renew.ensures.asked was none in
    let kept : IsSifted values test was (kept_numbers was passing) = subst (λ (x : Numbers). IsSifted values test was (kept_numbers was x)) (c.passing.ensures none) asked in
    subst (IsSifted values test was) (sym (put_at c.args.entry.now.sets c.keep.new.self.sets c.args.component (kept_numbers was passing) c.requires.given c.in_ok-keep.ensures.sets)) kept

pub returns-clause-passing : goal.returns-clause-passing
returns-clause-passing c =
    let values = c.args.seen.now.values in
    let test = c.args.test.now in
    let was = numbers_at c.args.entry.now c.args.component in
    let passing = c.in_ok-passing.passing in
    let none = judged_test test 0 was 0 in
    let its : ArePassing values test was passing = subst (λ (t : Test). ArePassing values t was passing) (c.in_ok-place.ensures.place.is none) (c.in_ok-passing.ensures.passing none) in
    subst (IsSifted values test was) (sym (put_at c.args.entry.now.sets c.keep-2.new.self.sets c.args.component (kept_numbers was passing) c.requires.given c.in_ok-keep-2.ensures.sets))
    (passing_kept values test was passing its)
