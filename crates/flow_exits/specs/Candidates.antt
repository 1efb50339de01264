-- What the scheduler reads of a Live task.
use Rattle.std.specs.{Prelude.{ℕ, Some, None}, declared.option.Option.{Option}}
use Rattle.osek_standard.specs.declared.app.App.{App}
use Rattle.abstract_state.specs.declared.value.Val.{Val, TheVariants.{Suspended, Live, Waiting}}
use Rattle.flow_model.specs.Values.{value_priority}
use Rattle.flow_exits.specs.declared.priority.Candidate.{Candidate}

abbrev pub candidate_of : App → ℕ → Val → Option Candidate
candidate_of app u Suspended = None
candidate_of app u (Live x) = Some (record { priority = value_priority app u (Live x); block = x.block })
candidate_of app u (Waiting b) = None
