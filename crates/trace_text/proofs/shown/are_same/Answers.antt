-- where `==` says so, the resources are the same
use Rattle.std.proofs.Common.{◌≡◌, eqb, ap}
use Rattle.std.specs.Bool.{Decides}
use Rattle.std.proofs.lemmas.{Bool.Decides.{Decides-eqb}, Slice.Eq.{slice_eq-Decides}}
use Rattle.osek_values.specs.{Numbers.{res_no}, declared.numbers.ResNo.{ResNo}}
use Rattle.trace_text.proofs.shown.are_same.Goals as goal

by_number : (a b : ResNo) → Decides (eqb a.0 b.0) (a ≡ b)
by_number a b = (λ e. ap res_no ((Decides-eqb a.0 b.0).0 e), λ e. (Decides-eqb a.0 b.0).1 (ap (λ (x : ResNo). x.0) e))

pub returns : goal.returns
returns c = (slice_eq-Decides by_number c.args.stack.now c.args.other.now c.eq.result c.eq.ensures).0
