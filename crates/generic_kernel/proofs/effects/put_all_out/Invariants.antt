-- the prefix is out
use Rattle.std.proofs.Common.{◌≡◌, ◌++◌, drop, take, length, map}
use Rattle.osek_standard.specs.declared.state.Source.TheVariants as source
use Rattle.generic_kernel.proofs.effects.put_all_out.Given as goal

abbrev pub invariant-loop-index : goal.invariant-loop-index
invariant-loop-index l = record {
  prefix : l.sources ≡ take l.index (map (λ _. source.Out) l.fn.sources) ++ drop l.index l.fn.sources;
  size : length l.sources ≡ length l.fn.sources;
}
