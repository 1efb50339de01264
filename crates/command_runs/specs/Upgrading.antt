-- The answers of `upgrade`, each with its cause and what it leaves.
use Rattle.std.specs.Prelude.{◌≡◌, ℕ, List, Result, Ok, Err}
use Rattle.image_model.specs.{declared.image.{Image.{Image}, Version.TheVariants.{Two}}, Upgrades.{IsUpgraded}}
use Rattle.image_codec.specs.Spelling.{spelling}
use Rattle.osek_io.specs.{Counts.{Rose}, Files.{with_file}, Stored.{StoresProperPrefix}}
use Rattle.command_runs.specs.{Outside.{Outside, SameFiles}, Replaying.{OfImage, ImageStops}, declared.stop.Stop.{Stop}}
use Rattle.command_runs.specs.declared.stop.Output.TheVariants as output
use Rattle.command_runs.specs.declared.stop.Stop.TheVariants as stop

-- the bytes of what becomes of an image that is upgraded
pub record SpellsUpgraded (i : Image) (bytes : List ℕ) : Type 0 where
  pub image : Image
  pub upgraded : IsUpgraded i image
  pub are : bytes ≡ spelling image

module _ (before after : Outside) (upgraded : List ℕ) where
  -- the bytes of the upgraded image were stored, all of them
  abbrev pub StoresUpgraded : Image → Type 0
  StoresUpgraded i = (bytes : List ℕ) × SpellsUpgraded i bytes × (after.shelf.files ≡ with_file before.shelf.files upgraded bytes)

  -- The files are as they were, or the upgraded image's holds a prefix of its bytes.
  abbrev pub StoresUpgradedPrefix : Image → Type 0
  StoresUpgradedPrefix i = (bytes : List ℕ) × SpellsUpgraded i bytes × StoresProperPrefix before.shelf.files after.shelf.files upgraded bytes

-- `upgrade` stops at the image, or the image is of version 2 already, and it writes no file; a write fails; or it is done.
pub data UpgradeAnswers (before after : Outside) (image upgraded : List ℕ) : Result (Unit {0}) Stop → Type 0 where
  stops : (s : Stop) → ImageStops before.shelf after.shelf image s → SameFiles before.shelf after.shelf → UpgradeAnswers before after image upgraded (Err s)
  already : OfImage before.shelf.files image (λ i. i.version ≡ Two) → SameFiles before.shelf after.shelf → UpgradeAnswers before after image upgraded (Err stop.AlreadyNew)
  fails : Rose before.shelf.writes after.shelf.writes → OfImage before.shelf.files image (StoresUpgradedPrefix before after upgraded) → UpgradeAnswers before after image upgraded (Err (stop.Unstored output.Upgraded))
  stores : after.shelf.writes ≡ before.shelf.writes → OfImage before.shelf.files image (StoresUpgraded before after upgraded) → UpgradeAnswers before after image upgraded (Ok tt)
