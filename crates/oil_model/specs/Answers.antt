-- The system of a tree, or its least fault.
use Rattle.std.specs.Prelude.{◌≡◌, Result, Ok, Err}
use Rattle.oil_system.specs.declared.system.System.{System}
use Rattle.oil_tree.specs.declared.tree.Tree.{Tree}
use Rattle.osek_values.specs.declared.{refused.LineFault.{LineFault}, refusal.OilRule.{OilRule}}
use Rattle.oil_model.specs.{Faults.{HasNoFault, IsLeastFault}, Systems.{system_of}}

-- a tree without a fault has the system that its objects declare
pub record HasSystem (t : Tree) (system : System) : Type 0 where
  pub no_fault : HasNoFault t
  pub is : system ≡ system_of t.objects

-- the system of the tree, or its least fault
abbrev pub IsAnswer : Result System (LineFault OilRule) → Tree → Type 0
IsAnswer (Ok system) t = HasSystem t system
IsAnswer (Err fault) t = IsLeastFault t fault.rule fault.line
