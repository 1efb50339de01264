-- The names of the rules on records of points, as they are printed (this project's profile).
use Rattle.std.specs.Prelude.{ℕ, List, codes}
use Rattle.trace_text.specs.declared.fault.PointFault.{PointFault, TheVariants.{G1, G2, G3, G4}}

abbrev pub point_fault_name : PointFault → List ℕ
point_fault_name G1 = codes "G1"
point_fault_name G2 = codes "G2"
point_fault_name G3 = codes "G3"
point_fault_name G4 = codes "G4"
