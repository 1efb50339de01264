use Rattle.commands.proofs.BuiltReplays.{built_replays}
use Rattle.commands.proofs.laws.what_is_built_replays.Goals as goal

pub returns-clause-replays : goal.returns-clause-replays
returns-clause-replays c = built_replays
