use Rattle.std.specs.Io.KnownBytes.{Keeps}
use Rattle.osek_io.proofs.stream.write_some.Given as goal

-- A write that was interrupted wrote nothing.
abbrev pub invariant-loop : goal.invariant-loop
invariant-loop g l = Keeps (g.W.Write.contents l.fn.writer) (g.W.Write.contents l.writer)
