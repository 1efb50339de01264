-- whether the next number is in the list
use Rattle.std.proofs.{Common.{rules}, lemmas.Iterator.{YieldsList-from_slice, Search.{any_from_yields_List}}}
use Rattle.osek_io.proofs.counts.is_listed.Goals as goal

pub returns : goal.returns
returns c = any_from_yields_List _ _ _ _ c.any.ensures.ran (YieldsList-from_slice c.args.fails.now cc) (λ x b q k. search rules)
