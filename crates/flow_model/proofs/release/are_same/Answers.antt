use Rattle.std.proofs.{Common.{arith}, lemmas.List.{same_lists}}
use Rattle.flow_model.proofs.release.are_same.Goals as goal

pub returns : goal.returns
returns c = same_lists c.args.one.now c.args.other.now (omega arith) (λ k d less. c.loop-place.invariant k d (omega (arith, less)))
