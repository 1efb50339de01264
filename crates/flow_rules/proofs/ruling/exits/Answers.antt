use Rattle.std.proofs.Common.{sym}
use Rattle.flow_rules.proofs.ruling.exits.Goals as goal

pub push_exits-requires : goal.push_exits-requires
push_exits-requires c = c.requires c.group-item.result (c.loop-group.group-index, c.loop-group-test.true, sym c.group-item.is)
