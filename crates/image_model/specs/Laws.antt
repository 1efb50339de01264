-- What holds of a general image, and of one that is upgraded.
use Rattle.std.specs.Prelude.{◌≡◌, false, List}
use Rattle.osek_values.specs.declared.{event.Event.{Event}, numbers.ModeNo.{ModeNo}}
use Rattle.osek_standard.specs.TraceText.{kernel_trace}
use Rattle.image_model.specs.{declared.image.Image.{Image}, ImageTrace.{AreGeneral, has_trap, image_run, image_trace}, Upgrades.{IsUpgraded}}

-- the trace is the kernel's, and there is no trap
pub record IsKernelsRun (i : Image) (mode : ModeNo) (es : List Event) : Type 0 where
  pub trace : image_trace i mode es ≡ kernel_trace i.app mode es
  pub no_trap : has_trap i mode es ≡ false

abbrev pub GeneralIsTheKernel : Type 0
GeneralIsTheKernel = (i : Image) (mode : ModeNo) (es : List Event) → AreGeneral i.sites → IsKernelsRun i mode es

-- an image that is upgraded runs as before
pub record RunsAsBefore (i j : Image) (mode : ModeNo) (es : List Event) : Type 0 where
  pub run : image_run j mode es ≡ image_run i mode es
  pub trace : image_trace j mode es ≡ image_trace i mode es

abbrev pub TheUpgradedRunsAsBefore : Type 0
TheUpgradedRunsAsBefore = (i j : Image) (mode : ModeNo) (es : List Event) → IsUpgraded i j → RunsAsBefore i j mode es
