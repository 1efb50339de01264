use Rattle.std.proofs.Common.{◌≡◌, ◌++◌, take}
use Rattle.table_codec.specs.Spelling.{resource_numbers}
use Rattle.table_codec.proofs.writing.put_stack.Given as goal

abbrev pub invariant-loop-resource : goal.invariant-loop-resource
invariant-loop-resource l = l.out.items ≡ l.fn.out.items ++ resource_numbers (take l.resource-index l.held)
