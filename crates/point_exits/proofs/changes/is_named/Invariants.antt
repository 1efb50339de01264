use Rattle.std.proofs.Common.{◌≡◌, false}
use Rattle.point_exits.specs.Changing.{is_named}
use Rattle.point_exits.proofs.changes.is_named.Given as goal

abbrev pub invariant-loop-earlier : goal.invariant-loop-earlier
invariant-loop-earlier l = is_named l.changes l.earlier l.component ≡ false
