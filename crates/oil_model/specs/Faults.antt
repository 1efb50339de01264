-- The faults of a tree, and the least of them.
use Rattle.std.specs.Prelude.{ℕ, Option}
use Rattle.osek_values.specs.declared.refusal.OilRule.{OilRule, TheVariants.{O1, O2, O3, O4, O5, O6, O7, O9, O10, O11, O12, O13, O14, O15, O16, O17, O18}}
use Rattle.oil_tree.specs.declared.tree.Tree.{Tree}
use Rattle.osek_values.specs.declared.refused.LineFault.{LineFault}
use Rattle.osek_values.specs.LeastFaults as faults
use Rattle.oil_model.specs.Rules.{lines}

-- the number of a rule
abbrev pub order : OilRule → ℕ
order O1 = 1
order O2 = 2
order O3 = 3
order O4 = 4
order O5 = 5
order O6 = 6
order O7 = 7
order O9 = 9
order O10 = 10
order O11 = 11
order O12 = 12
order O13 = 13
order O14 = 14
order O15 = 15
order O16 = 16
order O17 = 17
order O18 = 18

abbrev pub HasNoFault : Tree → Type 0
HasNoFault t = faults.HasNoFault order (λ (rule : OilRule). lines rule t)

-- the least pair of a rule and a line
abbrev pub IsLeastFault : Tree → OilRule → ℕ → Type 0
IsLeastFault t = faults.IsLeastFault order (λ (rule : OilRule). lines rule t)

-- the least fault of a tree, or none where it has no fault
abbrev pub IsLeastOrNone : Option (LineFault OilRule) → Tree → Type 0
IsLeastOrNone fault t = faults.IsLeastOrNone order (λ (rule : OilRule). lines rule t) fault
