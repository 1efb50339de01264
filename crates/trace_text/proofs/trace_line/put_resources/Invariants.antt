-- the text so far, and that of the rest, are the whole
use Rattle.std.proofs.Common.{◌≡◌, ◌+◌, ◌*◌, ◌≤◌, ◌++◌, take, drop}
use Rattle.std.specs.List.{flat_map}
use Rattle.osek_standard.specs.TraceText.{resource_text}
use Rattle.trace_text.proofs.trace_line.put_resources.Given as goal

abbrev pub invariant-loop-resource : goal.invariant-loop-resource
invariant-loop-resource l = record {
  text : take l.at l.buf ++ flat_map (resource_text l.app) (drop l.resource-index l.resources) ≡ take l.from l.fn.buf ++ flat_map (resource_text l.app) l.resources;
  most : l.at ≤ l.from + l.resource-index * 66;
}
