use Rattle.abstract_state.proofs.EdgeLaws.{edge_begins, edge_ends}
use Rattle.abstract_state.proofs.laws.edges_lead_from_entry_to_entry.Goals as goal

pub returns : goal.returns
returns c = record { begins = edge_begins; ends = edge_ends }
