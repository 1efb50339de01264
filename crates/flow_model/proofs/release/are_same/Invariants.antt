use Rattle.std.proofs.Common.{◌≡◌, ◌<◌, ℕ, get_or}
use Rattle.std.specs.declared.option.Option.{Option}
use Rattle.osek_values.specs.declared.numbers.BlockNo.{BlockNo}
use Rattle.flow_model.proofs.release.are_same.Given as goal

abbrev pub invariant-loop-place : goal.invariant-loop-place
invariant-loop-place l = (k : ℕ) (d : Option BlockNo) → k < l.place → get_or l.one k d ≡ get_or l.other k d
