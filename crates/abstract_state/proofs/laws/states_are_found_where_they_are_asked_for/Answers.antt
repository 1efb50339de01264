use Rattle.abstract_state.proofs.Concretes.{some_quiet, some_quiet_at, some_armed, some_latched}
use Rattle.abstract_state.proofs.laws.states_are_found_where_they_are_asked_for.Goals as goal

pub returns : goal.returns
returns c = record { quiet = some_quiet; at = some_quiet_at; armed = some_armed; latched = some_latched }
