-- what goes past the buffer was written behind what was held, or a prefix of it
use Rattle.osek_io.proofs.HeldTexts.{none_held, prefix_written}
use Rattle.osek_io.proofs.put_buffer.PutBuffer.put.Goals as goal

pub returns-then-bytes-gt-PUT_ROOM-clause-prefix : goal.returns-then-bytes-gt-PUT_ROOM-clause-prefix
returns-then-bytes-gt-PUT_ROOM-clause-prefix g c = prefix_written _ _ _ c.args.self.now c.args.bytes.now c.put_all.result c.in-Ok.ensures.ok c.put_all.ensures.prefix

pub returns-then-bytes-gt-PUT_ROOM-clause-ok : goal.returns-then-bytes-gt-PUT_ROOM-clause-ok
returns-then-bytes-gt-PUT_ROOM-clause-ok g c = none_held _ _ _ c.args.self.now c.args.bytes.now c.flush.new.self c.put_all.result c.in-Ok.ensures.ok c.in-Ok.ensures.nothing_held c.put_all.ensures.ok
