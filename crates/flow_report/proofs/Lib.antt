mod OrderLaws
mod Listing
mod RowStates
mod PassingNumbers
mod ShownRows
mod FlagFindings
mod BlockFindings
mod BlockPlaces
mod HookBits
mod HookLaws
mod NotedHooks
mod NotedRows
mod TableRows
mod RunLaws
pub mod FindingsApart
