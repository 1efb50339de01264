use Rattle.std.proofs.Common.{arith}
use Rattle.trace_text.proofs.trace_line.put_resources.Goals as goal

pub put_label-at-requires : goal.put_label-at-requires
put_label-at-requires c = omega (arith, c.requires.room, c.loop-resource.invariant.most, c.loop-resource-test.true, c.loop-resource.auto.buf)
