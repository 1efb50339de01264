-- The names of the rules on event texts, as they are printed (this project's profile).
use Rattle.std.specs.Prelude.{ℕ, List, codes}
use Rattle.trace_text.specs.declared.fault.EventFault.{EventFault, TheVariants.{E1, E2, E3, E4}}

abbrev pub event_fault_name : EventFault → List ℕ
event_fault_name E1 = codes "E1"
event_fault_name E2 = codes "E2"
event_fault_name E3 = codes "E3"
event_fault_name E4 = codes "E4"
