use Rattle.abstract_state.proofs.DomainValues.{allowed_within}
use Rattle.abstract_state.proofs.bounds.allowed_values_lie_in_their_domains.Goals as goal

pub returns : goal.returns
returns c = allowed_within
