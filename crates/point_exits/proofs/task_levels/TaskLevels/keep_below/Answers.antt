use Rattle.std.proofs.Common.{◌≡◌, ℕ, refl, set, length, subst}
use Rattle.std.proofs.lemmas.Result.{on_ok_weaker}
use Rattle.numbered_sets.specs.{Numbers.{other_numbers}, NumberedEntries.{numbers_at}}
use Rattle.point_exits.specs.Levels.{IsLeastFrom}
use Rattle.point_exits.proofs.NarrowingLaws.{all_below, narrowed_below}
use Rattle.point_exits.proofs.task_levels.TaskLevels.keep_below.Goals as goal

pub returns : goal.returns
returns c =
    let x = c.args.self.now in
    let entry = c.args.entry.now in
    let u = c.args.task.0 in
    let above = c.at.result.now in
    let least = subst (IsLeastFrom x.levels c.args.limit (length x.levels)) c.in-Some.is c.place_from.ensures in
    on_ok_weaker c.leave_out.result
    (λ left app pool h all.
    let write = subst (λ (n : ℕ). c.leave_out.new.self.sets ≡ set entry.sets n (other_numbers (numbers_at entry n) above.from)) c.index.ensures left in
    narrowed_below app u pool x entry c.leave_out.new.self h all c.args.limit c.in-Some.place above least (c.at.ensures.item above) c.requires write)
    c.leave_out.ensures.sets

pub returns-in_default : goal.returns-in_default
returns-in_default c = λ app pool h all.
    let x = c.args.self.now in
    let entry = c.args.entry.now in
    all_below app c.args.task.0 pool x entry entry h all c.args.limit refl (subst (IsLeastFrom x.levels c.args.limit (length x.levels)) c.in_default.is c.place_from.ensures)
