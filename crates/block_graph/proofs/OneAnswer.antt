-- A system and its code have one answer and no other.
use Rattle.std.proofs.Common.{◌≡◌, sym, ap, ◌∙◌, subst}
use Rattle.std.specs.Prelude.{Result, Ok, Err}
use Rattle.osek_standard.specs.{declared.app.App.{App}, Apps.{tables}, Tables.{Tables, tabled}, Validity.{IsValid, IsValid-prop}}
use Rattle.oil_system.specs.declared.system.System.{System}
use Rattle.task_code.specs.declared.tree.Code.{Code}
use Rattle.osek_values.specs.declared.{refused.LineFault.{LineFault}, refusal.CodeRule.{CodeRule, TheVariants.{C1}}}
use Rattle.block_graph.specs.{Answers.{IsAnswer}, Apps.{HasApp}}
use Rattle.osek_values.proofs.LeastFaults.{same_fault, no_fault}
use Rattle.block_graph.specs.Faults.{order}
use Rattle.block_graph.proofs.LeastFaults.{rules, lines_in, all}

abbrev app_with : (t : Tables) → IsValid t → App
app_with t v = record {
  hooks = t.hooks;
  tasks = t.tasks;
  isrs = t.isrs;
  counters = t.counters;
  alarms = t.alarms;
  resources = t.resources;
  modes = t.modes;
  blocks = t.blocks;
  valid = v;
}

same_tables : (t u : Tables) → t ≡ u → (v : IsValid t) (w : IsValid u) → app_with t v ≡ app_with u w
same_tables t u e v = subst (λ (r : Tables). (w : IsValid r) → app_with t v ≡ app_with r w) e (λ w. ap (app_with t) (IsValid-prop t v w))

-- one application at most
pub same_app : (s : System) (code : Code) (a b : App) → HasApp s code a → HasApp s code b → a ≡ b
same_app s code a b x y =
    let hooks : a.hooks ≡ b.hooks = x.hooks ∙ sym y.hooks in
    let tasks : a.tasks ≡ b.tasks = x.tasks ∙ sym y.tasks in
    let isrs : a.isrs ≡ b.isrs = x.isrs ∙ sym y.isrs in
    let counters : a.counters ≡ b.counters = x.counters ∙ sym y.counters in
    let alarms : a.alarms ≡ b.alarms = x.alarms ∙ sym y.alarms in
    let resources : a.resources ≡ b.resources = x.resources ∙ sym y.resources in
    let modes : a.modes ≡ b.modes = x.modes ∙ sym y.modes in
    let blocks : a.blocks ≡ b.blocks = x.blocks ∙ sym y.blocks in
    let same : tables a ≡ tables b = (λ i. tabled (hooks i) (tasks i) (isrs i) (counters i) (alarms i) (resources i) (modes i) (blocks i)) in
    same_tables (tables a) (tables b) same a.valid b.valid

pub one : (s : System) (code : Code) (a b : Result App (LineFault CodeRule)) → IsAnswer a s code → IsAnswer b s code → a ≡ b
one s code (Ok a) (Ok b) x y = ap (λ (v : App). Ok v) (same_app s code a b x y)
one s code (Ok a) (Err f) x y = absurd (no_fault order (lines_in s code) f y x.no_fault)
one s code (Err f) (Ok a) x y = absurd (no_fault order (lines_in s code) f x y.no_fault)
one s code (Err f) (Err g) x y = ap (λ (e : LineFault CodeRule). Err e) (same_fault order (lines_in s code) rules C1 (all s code) f g x y)
