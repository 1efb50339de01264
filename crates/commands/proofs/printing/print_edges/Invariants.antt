-- the lines so far were put
use Rattle.std.proofs.Common.{◌≡◌, length, take}
use Rattle.std.specs.List.{flat_map}
use Rattle.flow_text.specs.FlowLines.{edge_line}
use Rattle.osek_io.specs.Sunk.{sunk}
use Rattle.command_runs.specs.Playing.{given, Puts}
use Rattle.commands.proofs.printing.print_edges.Given as goal

abbrev pub invariant-loop-edge : goal.invariant-loop-edge
invariant-loop-edge g l = record {
  put : Puts (given (sunk g.O.Sink l.initial.out) l.initial.buffer) (given (sunk g.O.Sink l.out) l.buffer) (flat_map (edge_line l.app) (take l.edge-index l.edges));
  room : length l.line ≡ length l.fn.line;
}
