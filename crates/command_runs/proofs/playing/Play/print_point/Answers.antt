-- the point of the state and its LF were put, or a prefix of them written
use Rattle.std.proofs.Common.{refl, inl, inr}
use Rattle.command_runs.proofs.Prefixes.{prefix_of_proper}
use Rattle.command_runs.proofs.playing.Play.print_point.Goals as goal

pub returns-in-Ok-clause-line : goal.returns-in-Ok-clause-line
returns-in-Ok-clause-line g c = inl (refl, (c.in-Ok.ensures.no_fault, c.in-Ok.ensures.ok))

pub returns-in-Err-Write-clause-line : goal.returns-in-Err-Write-clause-line
returns-in-Err-Write-clause-line g c = inr (refl, ((c.in-Err-Write.ensures.cause, prefix_of_proper _ _ _ c.in-Err-Write.ensures.prefix), c.in-Err-Write.ensures.lost))
