-- Images whose traces show states that have what ISO 17356-3 guarantees.
use Rattle.std.specs.{Prelude.{◌≡◌, ◌<◌, ℕ, List, length, All, Some, Ok}, FinMap.{get}}
use Rattle.osek_values.specs.declared.{event.Event.{Event}, numbers.ModeNo.{ModeNo}}
use Rattle.osek_standard.specs.{declared.app.App.{App}, Dispatch.{Stepped}, Kernel.{run}, TraceText.{lines_from}}
use Rattle.osek_io.specs.Files.{Files}
use Rattle.image_model.specs.{declared.image.Image.{Image}, ImageTrace.{image_run, image_trace}}
use Rattle.kernel_guarantees.specs.{Conditions.{IsGuarded}, Guarantees.{IsGuaranteed}}
use Rattle.command_runs.specs.Replaying.{SpellImage}
use Rattle.commands.specs.{Due.{IsDue}, Laws.{AreBuiltFrom}, Words.{Check}}

-- The lines of the trace are those of the kernel's states, one for each, and each of these states has it all.
pub record IsGuaranteedRun (app : App) (i : Image) (mode : ModeNo) (events : List Event) : Type 0 where
  pub trace : image_trace i mode events ≡ lines_from app 0 (run app mode events)
  pub states : All (λ (x : Stepped). IsGuaranteed app x.state) (run app mode events)

-- so in each mode of the application, under every list of events
abbrev pub ShowsGuaranteed : App → Image → Type 0
ShowsGuaranteed app i = (mode : ModeNo) (events : List Event) → mode.0 < length app.modes → IsGuaranteedRun app i mode events

-- and each state that the image goes through has it all
abbrev pub GoesThroughGuaranteed : App → Image → Type 0
GoesThroughGuaranteed app i = (mode : ModeNo) (events : List Event) → mode.0 < length app.modes
    → All (λ (x : Stepped). IsGuaranteed app x.state) (image_run i mode events).steps

pub record IsGuaranteedImage (app : App) (i : Image) : Type 0 where
  pub lines : ShowsGuaranteed app i
  pub states : GoesThroughGuaranteed app i

-- what `build` stores of two texts
abbrev pub WhatIsBuiltIsGuaranteed : Type 0
WhatIsBuiltIsGuaranteed = (oil code bytes : List ℕ) (built : AreBuiltFrom oil code bytes) → IsGuaranteedImage built.app built.image

-- and their application has each condition, so that no guarantee is left out
abbrev pub WhatIsBuiltIsGuarded : Type 0
WhatIsBuiltIsGuarded = (oil code bytes : List ℕ) (built : AreBuiltFrom oil code bytes) → IsGuarded built.app

-- an image of which `check` says yes
abbrev pub WhatIsCheckedIsGuaranteed : Type 0
WhatIsCheckedIsGuaranteed = (files : Files) (image table bytes : List ℕ) (i : Image)
    → IsDue files (Some (Check image table)) (Ok tt) → get files image ≡ Some bytes → SpellImage bytes i → IsGuaranteedImage i.app i
