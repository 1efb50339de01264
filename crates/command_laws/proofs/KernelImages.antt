-- Images that run as the kernel go through states that have what is guaranteed, and show them.
use Rattle.std.proofs.Common.{◌≡◌, ◌<◌, ◌∙◌, List, All, length, refl, sym, subst, Ok}
use Rattle.osek_values.specs.declared.{event.Event.{Event}, numbers.ModeNo.{ModeNo}}
use Rattle.osek_standard.specs.{declared.app.App.{App}, Dispatch.{Stepped}, Kernel.{run}, TraceText.{kernel_trace, lines_from}}
use Rattle.image_model.specs.{declared.image.Image.{Image}, ImageTrace.{Run}, Laws.{IsKernelsRun}}
use Rattle.abstract_state.specs.Tables.{Inductive, Sets, sets_of}
use Rattle.dictated_forms.specs.Forms.{Fits}
use Rattle.dictated_forms.proofs.ImageLaws.{dictated_fit, dictated_statuses}
use Rattle.kernel_guarantees.specs.Guarantees.{IsGuaranteed}
use Rattle.kernel_guarantees.proofs.Guaranteed.{run_is_guaranteed}
use Rattle.commands.specs.Fitting.{HasLeastForms, IsFitted, IsKernelImage}
use Rattle.commands.proofs.{CertifiedChecks.{agreed_table, checked_is_kernel}, RecordedRuns.{same_run}}
use Rattle.command_laws.specs.GuaranteedImages.{GoesThroughGuaranteed, IsGuaranteedImage, ShowsGuaranteed, WhatIsCheckedIsGuaranteed}

kernels_lines : (app : App) (mode : ModeNo) (events : List Event) → kernel_trace app mode events ≡ lines_from app 0 (run app mode events)
unfolding kernel_trace
kernels_lines app mode events = refl

pub lines : (i : Image) → ((mode : ModeNo) (events : List Event) → mode.0 < length i.app.modes → IsKernelsRun i mode events) → ShowsGuaranteed i.app i
lines i runs mode events known = record {
  trace = (runs mode events known).trace ∙ kernels_lines i.app mode events;
  states = run_is_guaranteed i.app mode events known;
}

pub kernel_lines : (app : App) (i : Image) → IsKernelImage app i → ShowsGuaranteed app i
kernel_lines app i kernel =
    subst (λ (a : App). ShowsGuaranteed a i) kernel.is
    (lines i (λ mode events known. kernel.runs mode events (subst (λ (a : App). mode.0 < length a.modes) kernel.is known)))

own_states : (i : Image) (table : Sets) → Inductive i.app table → Fits table i → GoesThroughGuaranteed i.app i
own_states i table inductive fits mode events known =
    subst (λ (r : Run). All (λ (x : Stepped). IsGuaranteed i.app x.state) r.steps) (sym (same_run i table inductive fits mode events known))
    (run_is_guaranteed i.app mode events known)

least_states : (i : Image) → HasLeastForms i.app i → GoesThroughGuaranteed i.app i
least_states i has = own_states i has.table has.least.inductive (dictated_fit i has.table has.forms (dictated_statuses i has.table has.statuses))

pub fitted_is_guaranteed : (app : App) (i : Image) → IsFitted app i → IsGuaranteedImage app i
fitted_is_guaranteed app i fitted = record {
  lines = kernel_lines app i fitted.kernel;
  states = subst (λ (a : App). GoesThroughGuaranteed a i) fitted.kernel.is (least_states i (subst (λ (a : App). HasLeastForms a i) (sym fitted.kernel.is) fitted.forms));
}

pub checked_is_guaranteed : WhatIsCheckedIsGuaranteed
checked_is_guaranteed files image table bytes i due holds spells = record {
  lines = kernel_lines i.app i (checked_is_kernel files image table bytes i due holds spells);
  states = (let (t, fits) = agreed_table files image table bytes i holds spells (Ok tt) refl due in own_states i (sets_of t) fits.0 fits.1);
}
