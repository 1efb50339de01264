use Rattle.std.proofs.Common.{◌≡◌, length}
use Rattle.table_codec.specs.ListedShapes.{point_of, component_of}
use Rattle.table_codec.proofs.ReadSoFar.{AreValuesSoFar}
use Rattle.table_codec.proofs.sets.listed.Given as goal

abbrev pub invariant-loop : goal.invariant-loop
invariant-loop l = record { values : AreValuesSoFar l.app (point_of l.shape) (component_of l.shape) l.count l.fn.reader l.values l.reader; size : length l.values ≡ l.counter }
