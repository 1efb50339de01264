-- the lines so far were put
use Rattle.std.proofs.Common.{◌≡◌, length, take}
use Rattle.std.specs.List.{flat_map}
use Rattle.flow_report.specs.FindingLines.{finding_line}
use Rattle.osek_io.specs.Sunk.{sunk}
use Rattle.command_runs.specs.Playing.{given, Puts}
use Rattle.commands.proofs.reporting.print_findings.Given as goal

abbrev pub invariant-loop-finding : goal.invariant-loop-finding
invariant-loop-finding g l = record {
  put : Puts (given (sunk g.O.Sink l.initial.out) l.initial.buffer) (given (sunk g.O.Sink l.out) l.buffer) (flat_map (finding_line l.app) (take l.finding-index l.findings));
  room : length l.line ≡ length l.fn.line;
}
