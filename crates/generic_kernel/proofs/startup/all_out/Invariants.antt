-- so many are out
use Rattle.std.proofs.Common.{◌≡◌, replicate}
use Rattle.osek_standard.specs.declared.state.Source.TheVariants as source
use Rattle.generic_kernel.proofs.startup.all_out.Given as goal

abbrev pub invariant-loop-source : goal.invariant-loop-source
invariant-loop-source l = l.sources.items ≡ replicate l._source source.Out
