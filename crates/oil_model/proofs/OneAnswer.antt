-- A tree has one answer and no other.
use Rattle.std.proofs.Common.{◌≡◌, refl, ◌∙◌, sym, ap}
use Rattle.std.specs.Prelude.{Option, Some, None, Result, Ok, Err}
use Rattle.oil_system.specs.declared.system.System.{System}
use Rattle.oil_tree.specs.declared.tree.Tree.{Tree}
use Rattle.osek_values.specs.declared.{refused.LineFault.{LineFault}, refusal.OilRule.{OilRule, TheVariants.{O1}}}
use Rattle.oil_model.specs.{Answers.{IsAnswer}, Faults.{IsLeastOrNone, order}, Systems.{system_of}}
use Rattle.osek_values.proofs.LeastFaults.{same_fault, no_fault, least_or_none}
use Rattle.oil_model.proofs.Least.{rules, lines_in, all}

pub one : (t : Tree) (a b : Result System (LineFault OilRule)) → IsAnswer a t → IsAnswer b t → a ≡ b
one t (Ok s) (Ok r) x y = ap (λ (v : System). Ok v) (x.is ∙ sym y.is)
one t (Ok s) (Err f) x y = absurd (no_fault order (lines_in t) f y x.no_fault)
one t (Err f) (Ok s) x y = absurd (no_fault order (lines_in t) f x y.no_fault)
one t (Err f) (Err g) x y = ap (λ (e : LineFault OilRule). Err e) (same_fault order (lines_in t) rules O1 (all t) f g x y)

answered : (t : Tree) (fault : Option (LineFault OilRule)) → IsLeastOrNone fault t → (answer : Result System (LineFault OilRule)) × IsAnswer answer t
answered t None h = (Ok (system_of t.objects), record { no_fault = h; is = refl })
answered t (Some f) h = (Err f, h)

pub some : (t : Tree) → (answer : Result System (LineFault OilRule)) × IsAnswer answer t
some t = let judged = least_or_none order (lines_in t) rules O1 (all t) in answered t judged.0 judged.1
