use Rattle.commands.proofs.UpgradedReplays.{upgraded_replays, upgraded_prints_the_same}
use Rattle.commands.proofs.laws.what_is_upgraded_replays.Goals as goal

pub returns-clause-replays : goal.returns-clause-replays
returns-clause-replays c = upgraded_replays

pub returns-clause-prints_the_same : goal.returns-clause-prints_the_same
returns-clause-prints_the_same c = upgraded_prints_the_same
