use Rattle.std.proofs.Common.{◌≡◌, ℕ, set, subst}
use Rattle.numbered_sets.specs.{Numbers.{other_numbers}, NumberedEntries.{numbers_at}}
use Rattle.point_exits.proofs.NarrowingLaws.{narrowed_to_live}
use Rattle.point_exits.proofs.task_levels.TaskLevels.keep_live.Goals as goal

pub returns : goal.returns
returns c = λ app pool h all.
    let write = subst (λ (n : ℕ). c.leave_out.new.self.sets ≡ set c.args.entry.now.sets n (other_numbers (numbers_at c.args.entry.now n) c.args.self.now.dead)) c.index.ensures c.in_ok-leave_out.ensures.sets in
    narrowed_to_live app c.args.task.0 pool c.args.self.now c.args.entry.now c.leave_out.new.self h all c.requires write
