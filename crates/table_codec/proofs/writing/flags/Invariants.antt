use Rattle.std.proofs.Common.{◌≡◌, take}
use Rattle.std.specs.Prelude.{sum_by}
use Rattle.numbered_sets.specs.SetLists.{set_of}
use Rattle.table_codec.specs.{Ascending.{values_in}, Spelling.{flag_number}}
use Rattle.table_codec.proofs.writing.flags.Given as goal

abbrev pub invariant-loop-found : goal.invariant-loop-found
invariant-loop-found l = l.flags ≡ sum_by flag_number (values_in (set_of l.sets l.component) (take l.found-index l.values))
