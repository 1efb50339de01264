-- The answers of `build`, each with its cause and what it leaves.
use Rattle.std.specs.Prelude.{◌≡◌, ℕ, List, Result, Ok, Err}
use Rattle.osek_standard.specs.declared.app.App.{App}
use Rattle.image_model.specs.declared.image.Image.{Image}
use Rattle.image_codec.specs.Spelling.{spelling}
use Rattle.osek_io.specs.{Counts.{Rose}, Files.{with_file}, Stored.{StoresProperPrefix}}
use Rattle.commands.specs.{Compiling.{OfApp, CompileStops}, Fitting.{IsFitted}}
use Rattle.command_runs.specs.{Outside.{Outside, SameFiles}, declared.stop.Stop.{Stop}}
use Rattle.command_runs.specs.declared.stop.Output.TheVariants as output
use Rattle.command_runs.specs.declared.stop.Stop.TheVariants as stop

-- the bytes of the image that is fitted to the application
pub record SpellsFitted (app : App) (bytes : List ℕ) : Type 0 where
  pub image : Image
  pub fitted : IsFitted app image
  pub are : bytes ≡ spelling image

module _ (before after : Outside) (image : List ℕ) where
  -- the image's bytes were stored, all of them
  abbrev pub Stores : App → Type 0
  Stores app = (i : Image) × IsFitted app i × (after.shelf.files ≡ with_file before.shelf.files image (spelling i))

  -- The files are as they were, or the image's holds a prefix of the bytes.
  abbrev pub StoresPrefix : App → Type 0
  StoresPrefix app = (i : Image) × IsFitted app i × StoresProperPrefix before.shelf.files after.shelf.files image (spelling i)

-- `build` stops at the texts and writes no file; a write fails; or it is done.
pub data BuildAnswers (before after : Outside) (oil code image : List ℕ) : Result (Unit {0}) Stop → Type 0 where
  stops : (s : Stop) → CompileStops before.shelf after.shelf oil code s → SameFiles before.shelf after.shelf → BuildAnswers before after oil code image (Err s)
  fails : Rose before.shelf.writes after.shelf.writes → OfApp before.shelf.files oil code (StoresPrefix before after image) → BuildAnswers before after oil code image (Err (stop.Unstored output.Image))
  stores : after.shelf.writes ≡ before.shelf.writes → OfApp before.shelf.files oil code (Stores before after image) → BuildAnswers before after oil code image (Ok tt)
