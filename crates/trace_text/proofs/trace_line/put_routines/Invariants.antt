-- the text so far, and that of the rest, are the whole
use Rattle.std.proofs.Common.{◌≡◌, ◌+◌, ◌*◌, ◌≤◌, ◌++◌, take, drop}
use Rattle.std.specs.List.{flat_map, enumerate_from}
use Rattle.osek_standard.specs.TraceText.{routine_text}
use Rattle.trace_text.specs.LineParts.{routines_text}
use Rattle.trace_text.proofs.trace_line.put_routines.Given as goal

abbrev pub invariant-loop-source : goal.invariant-loop-source
invariant-loop-source l = record {
  text : take l.at l.buf ++ flat_map (routine_text l.app l.state.processor) (enumerate_from l.source (drop l.source l.state.sources)) ≡ take l.from l.fn.buf ++ routines_text l.app l.state;
  most : l.at ≤ l.from + l.source * 594;
}
