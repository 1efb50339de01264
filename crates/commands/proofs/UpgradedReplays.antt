-- An image that is upgraded is replayed as it was before.
use Rattle.std.proofs.Common.{◌≡◌, ℕ, List, Bool, refl, sym, subst}
use Rattle.std.specs.declared.result.Result.{Result}
use Rattle.osek_values.specs.declared.{event.Event.{Event}, numbers.ModeNo.{ModeNo}}
use Rattle.osek_standard.specs.declared.app.App.{App}
use Rattle.image_model.specs.{declared.image.Image.{Image}, ImageTrace.{has_trap, image_trace}, Upgrades.{IsUpgraded}}
use Rattle.image_model.proofs.UpgradedRuns.{runs_as_before}
use Rattle.image_codec.specs.{Fits.{FitsParts, FitsFormat}, Spelling.{spelling}}
use Rattle.osek_io.specs.Files.{Files}
use Rattle.command_runs.specs.{Replaying.{SpellImage}, Running.{whole_run}, declared.stop.Stop.{Stop}}
use Rattle.commands.specs.{Due.{RunDue, no_image, bad_image, is_read, ImageRuns}, Laws.{WhatIsUpgradedReplays, WhatIsUpgradedPrintsTheSame}}
use Rattle.commands.proofs.{OneDue.{same_found, not_found, same_image, no_image_fault}, SmallImages.{small}}

module _ (i j : Image) (upgraded : IsUpgraded i j) where
  same_traps : has_trap j ≡ has_trap i
  same_traps = λ k m es. ((runs_as_before i j upgraded m es).run k).trapped

  same_traces : image_trace j ≡ image_trace i
  same_traces = λ k m es. (runs_as_before i j upgraded m es).trace k

  its_spelling : (bytes : List ℕ) → SpellImage bytes i → SpellImage (spelling j) j
  its_spelling bytes spelled =
      let fits : FitsFormat j = subst (λ (a : App). FitsParts a.tasks a.counters a.alarms a.blocks) (sym upgraded.app) spelled.fits in
      record { within = small j; fits = fits; spelled = refl }

  runs_so : (files : Files) (mode events : List ℕ) (r : Result (Unit {0}) Stop) → ImageRuns files mode events i r → ImageRuns files mode events j r
  runs_so files mode events r due =
      let over_app : RunDue files j.app (has_trap i) mode events r = subst (λ (a : App). RunDue files a (has_trap i) mode events r) (sym upgraded.app) due in
      subst (λ (t : ModeNo → List Event → Bool). RunDue files j.app t mode events r) (sym same_traps) over_app

pub upgraded_replays : WhatIsUpgradedReplays
upgraded_replays files image upgraded mode events bytes i j _ held spelled is stored (no_image none) = absurd (not_found _ bytes none held)
upgraded_replays files image upgraded mode events bytes i j _ held spelled is stored (bad_image c fault there first) =
    absurd (no_image_fault files bytes c i fault (same_found _ bytes c held there) spelled first)
upgraded_replays files image upgraded mode events bytes i j r held spelled is stored (is_read c k _ there spells due) =
    let same : k ≡ i = same_image files c bytes k i (same_found _ c bytes there held) spells spelled in
    is_read (spelling j) j r stored (its_spelling i j is bytes spelled) (runs_so i j is files mode events r (subst (λ (x : Image). ImageRuns files mode events x r) same due))

pub upgraded_prints_the_same : WhatIsUpgradedPrintsTheSame
upgraded_prints_the_same i j m text is =
    λ k. whole_run (is.app k) (same_traces i j is k) (same_traps i j is k) m text
