-- The run of the general image of an application is the kernel's.
use Rattle.std.proofs.Common.{◌≡◌, ℕ, List, Bool, subst}
use Rattle.std.specs.declared.result.Result.{Result}
use Rattle.osek_values.specs.declared.{event.Event.{Event}, numbers.ModeNo.{ModeNo}}
use Rattle.osek_standard.specs.{declared.app.App.{App}, TraceText.{kernel_trace}}
use Rattle.image_model.specs.{declared.image.Image.{Image}, ImageTrace.{AreGeneral, image_trace, has_trap}}
use Rattle.image_model.proofs.GeneralRuns.{general_runs}
use Rattle.command_runs.specs.{Outside.{Outside}, Running.{RunAnswers}, declared.stop.Stop.{Stop}}
use Rattle.commands.specs.Tracing.{never}

pub kernel_runs : (before after : Outside) (mode events : List ℕ) (app : App) (i : Image) → i.app ≡ app → AreGeneral i.sites → (r : Result (Unit {0}) Stop) →
    RunAnswers before after i.app (image_trace i) (has_trap i) mode events r → RunAnswers before after app (kernel_trace app) never mode events r
kernel_runs before after mode events app i is general r h =
    let traces : image_trace i ≡ kernel_trace i.app = (λ j m es. (general_runs i m es general).trace j) in
    let traps : has_trap i ≡ never = (λ j m es. (general_runs i m es general).no_trap j) in
    subst (λ (a : App). RunAnswers before after a (kernel_trace a) never mode events r) is
    (subst (λ (t : ModeNo → List Event → List ℕ). RunAnswers before after i.app t never mode events r) traces
    (subst (λ (t : ModeNo → List Event → Bool). RunAnswers before after i.app (image_trace i) t mode events r) traps h))
