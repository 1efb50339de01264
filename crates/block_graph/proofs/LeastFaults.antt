-- The rules on task code are judged in their order. `work` outside its range was judged before.
use Rattle.std.proofs.Common.{◌≡◌, ℕ, ◌⊎◌, inl, inr, List, [], ◌∷◌, refl, arith}
use Rattle.osek_values.specs.declared.refusal.CodeRule.{CodeRule, TheVariants.{C1, C2, C3, C4, C6, C7, C8, C9, C10}}
use Rattle.osek_values.proofs.LeastFaults.{AreAll, IsJudged}
use Rattle.oil_system.specs.declared.system.System.{System}
use Rattle.task_code.specs.declared.tree.Code.{Code}
use Rattle.block_graph.specs.{Rules.{lines}, Faults.{order}}

abbrev pub rules : List CodeRule
rules = C1 ∷ C2 ∷ C3 ∷ C4 ∷ C6 ∷ C7 ∷ C8 ∷ C10 ∷ []

abbrev pub lines_in : System → Code → CodeRule → List ℕ
lines_in s code rule = lines rule s code

module _ (s : System) (code : Code) where
  each : (r : CodeRule) → IsJudged order (lines_in s code) rules C1 r ⊎ (lines r s code ≡ [])
  each C1 = inl (0, omega arith, refl)
  each C2 = inl (1, omega arith, refl)
  each C3 = inl (2, omega arith, refl)
  each C4 = inl (3, omega arith, refl)
  each C6 = inl (4, omega arith, refl)
  each C7 = inl (5, omega arith, refl)
  each C8 = inl (6, omega arith, refl)
  each C9 = inr refl
  each C10 = inl (7, omega arith, refl)

  pub all : AreAll order (lines_in s code) rules C1
  all = record { each = each; in_order = refl }
