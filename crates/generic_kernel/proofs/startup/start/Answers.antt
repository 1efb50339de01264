-- the start is well-formed
use Rattle.std.proofs.Common.{◌≡◌, ap, subst}
use Rattle.std.specs.{Prelude.{IfOk, Ok, Err}, declared.result.Result.{Result}}
use Rattle.osek_values.specs.declared.notes.Notes.{Notes}
use Rattle.osek_standard.specs.{declared.state.State.{State}, Dispatch.{Stepped, stepped}, Kernel.{start}, Well.{Well}}
use Rattle.osek_standard.proofs.StepKeeps.{start_is_well}
use Rattle.generic_kernel.proofs.startup.start.Goals as goal

if_ok : {X E : Type 0} (P Q : X → Type 0) (r : Result X E) → ((x : X) → P x → Q x) → IfOk r P → IfOk r Q
if_ok P Q (Ok x) f h = f x h
if_ok P Q (Err e) f h = h

pub returns-clause-well : goal.returns-clause-well
returns-clause-well c =
    let app = c.args.app.now in
    if_ok (λ (r : State × Notes). start app c.args.mode ≡ stepped r.0 r.1) (λ (r : State × Notes). Well app r.0) _
    (λ r e. subst (Well app) (ap (λ (n : Stepped). n.state) e) (start_is_well app c.args.mode c.requires)) c.start_from.ensures
