-- The rules on OIL objects are judged in their order.
use Rattle.std.proofs.Common.{inl, List, [], ◌∷◌, ℕ, refl, arith}
use Rattle.oil_tree.specs.declared.tree.Tree.{Tree}
use Rattle.osek_values.specs.declared.refusal.OilRule.{OilRule, TheVariants.{O1, O2, O3, O4, O5, O6, O7, O9, O10, O11, O12, O13, O14, O15, O16, O17, O18}}
use Rattle.osek_values.proofs.LeastFaults.{AreAll, IsJudged}
use Rattle.oil_model.specs.{Rules.{lines}, Faults.{order}}

abbrev pub rules : List OilRule
rules = O1 ∷ O2 ∷ O3 ∷ O4 ∷ O5 ∷ O6 ∷ O7 ∷ O9 ∷ O10 ∷ O11 ∷ O12 ∷ O13 ∷ O14 ∷ O15 ∷ O16 ∷ O17 ∷ O18 ∷ []

abbrev pub lines_in : Tree → OilRule → List ℕ
lines_in t rule = lines rule t

module _ (t : Tree) where
  each : (r : OilRule) → IsJudged order (lines_in t) rules O1 r
  each O1 = (0, omega arith, refl)
  each O2 = (1, omega arith, refl)
  each O3 = (2, omega arith, refl)
  each O4 = (3, omega arith, refl)
  each O5 = (4, omega arith, refl)
  each O6 = (5, omega arith, refl)
  each O7 = (6, omega arith, refl)
  each O9 = (7, omega arith, refl)
  each O10 = (8, omega arith, refl)
  each O11 = (9, omega arith, refl)
  each O12 = (10, omega arith, refl)
  each O13 = (11, omega arith, refl)
  each O14 = (12, omega arith, refl)
  each O15 = (13, omega arith, refl)
  each O16 = (14, omega arith, refl)
  each O17 = (15, omega arith, refl)
  each O18 = (16, omega arith, refl)

  pub all : AreAll order (lines_in t) rules O1
  all = record { each = λ r. inl (each r); in_order = refl }
