-- The answers of `replay` and of `record`, each with its cause and what it leaves.
use Rattle.std.specs.Prelude.{◌≡◌, ◌⊎◌, ℕ, ◌<◌, ◌≤◌, List, length, Option, Result, Err}
use Rattle.osek_values.specs.declared.limits.TheConstants.{MAX_FILE}
use Rattle.image_model.specs.declared.image.Image.{Image}
use Rattle.image_codec.specs.{declared.fault.ImageFault.{ImageFault}, Spelling.{spelling}, Fits.{FitsFormat}, ImageReading.{read_image}}
use Rattle.image_fields.specs.declared.fault.ImageRule.TheVariants.{I7}
use Rattle.image_model.specs.ImageTrace.{has_trap}
use Rattle.osek_io.specs.Files.{Files}
use Rattle.command_runs.specs.{Inputs.{OfFile, InputStops}, Outside.{Told, Outside}, Running.{RunAnswers}, Shown.{shown_trace}}
use Rattle.command_runs.specs.declared.showing.Showing.{Showing}
use Rattle.command_runs.specs.declared.stop.Input.TheVariants as input
use Rattle.command_runs.specs.declared.stop.Stop.{Stop}
use Rattle.command_runs.specs.declared.stop.Stop.TheVariants as stop

-- the bytes spell the image, within the limit of a file
pub record SpellImage (bytes : List ℕ) (i : Image) : Type 0 where
  pub within : length bytes ≤ MAX_FILE
  pub fits : FitsFormat i
  pub spelled : spelling i ≡ bytes

-- the first fault of an image's bytes; a file over its limit is faulty before all else
abbrev pub IsImageFault : List ℕ → ImageFault → Type 0
IsImageFault bytes fault =
    ((MAX_FILE < length bytes) × (fault ≡ record { rule = I7; offset = MAX_FILE }))
    ⊎ ((length bytes ≤ MAX_FILE) × (read_image bytes ≡ Err fault))

-- of the image that the file's bytes spell P is true
abbrev pub OfImage : Option Files → (image : List ℕ) → (Image → Type 0) → Type 0
OfImage files image P = OfFile files image (λ b. (i : Image) × SpellImage b i × P i)

-- why an image isn't loaded
abbrev pub ImageStops : (before after : Told) → (image : List ℕ) → Stop → Type 0
ImageStops before after image = InputStops before after input.Image image stop.Image IsImageFault

-- The command stops at the image and prints nothing, or the image runs and what is shown of it is printed: its trace for `replay`, its
-- points for `record`.
pub data ReplayAnswers (w : Showing) (before after : Outside) (image mode events : List ℕ) : Result (Unit {0}) Stop → Type 0 where
  stops : (s : Stop) → ImageStops before.shelf after.shelf image s → after.out ≡ before.out → ReplayAnswers w before after image mode events (Err s)
  runs : (r : Result (Unit {0}) Stop) → OfImage before.shelf.files image (λ i. RunAnswers before after i.app (shown_trace w i) (has_trap i) mode events r) → ReplayAnswers w before after image mode events r
