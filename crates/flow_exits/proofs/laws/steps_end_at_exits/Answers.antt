use Rattle.flow_exits.proofs.Covering.{exits_cover, exits_foresee, exits_shown}
use Rattle.flow_exits.proofs.laws.steps_end_at_exits.Goals as goal

pub returns : goal.returns
returns c = record { steps = exits_cover; instructions = exits_foresee; exact = exits_shown }
