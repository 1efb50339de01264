-- Edges and their order.
use Rattle.std.specs.{Prelude.{◌≡◌, ◌⊎◌, ◌<◌, List}, List.{AllPairs}}
use Rattle.osek_standard.specs.Points.{point_number}
use Rattle.abstract_state.specs.declared.edge.FlowEdge.{FlowEdge}

-- it begins at an earlier point, or at the same one and ends at an earlier one
abbrev pub IsBefore : FlowEdge → FlowEdge → Type 0
IsBefore x y = (point_number x.from < point_number y.from) ⊎ ((point_number x.from ≡ point_number y.from) × (point_number x.to < point_number y.to))

-- by where they begin and then by where they end, none twice
abbrev pub AreAscending : List FlowEdge → Type 0
AreAscending edges = AllPairs IsBefore edges
