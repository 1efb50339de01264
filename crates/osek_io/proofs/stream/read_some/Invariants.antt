use Rattle.std.specs.Io.KnownBytes.{Keeps}
use Rattle.osek_io.proofs.stream.read_some.Given as goal

-- A read that was interrupted took nothing.
abbrev pub invariant-loop : goal.invariant-loop
invariant-loop g l = Keeps (g.R.Read.remaining l.fn.reader) (g.R.Read.remaining l.reader)
