-- Over files of bytes some answer is due to each command that no analysis ends.
use Rattle.std.proofs.{Common.{◌≡◌, ℕ, ◌≤◌, ◌⊎◌, inl, inr, ⊎_elim, List, Bool, length, refl, Some, None, Ok, Err}, str.Laws.{order}}
use Rattle.std.specs.{FinMap.{get}, declared.{option.Option.{Option}, result.Result.{Result}}}
use Rattle.osek_values.specs.declared.{event.Event.{Event}, limits.TheConstants.{MAX_FILE}, numbers.ModeNo.{ModeNo}, refusal.Refusal.{Refusal}}
use Rattle.osek_standard.specs.declared.app.App.{App}
use Rattle.oil_system.specs.declared.system.System.{System}
use Rattle.front_end.specs.{Answers.{IsOilAnswer, IsCodeAnswer}, Texts.{DeclaresSystem}}
use Rattle.front_end.proofs.SomeAnswer.{some_oil, declared_is_linkable, some_code}
use Rattle.image_model.specs.declared.image.Image.{Image}
use Rattle.image_codec.specs.{declared.fault.ImageFault.{ImageFault}, Fits.{FitsFormat}, ImageReading.{read_image}}
use Rattle.image_model.specs.ImageTrace.{has_trap}
use Rattle.image_codec.specs.Spelling.{spelling}
use Rattle.image_codec.proofs.SomeImage.{spell_or_fail}
use Rattle.osek_io.specs.Files.{Files}
use Rattle.commands.specs.Due.{RunDue, no_mode, no_events, ends, ImageDue, no_image, bad_image, is_read, ImageRuns, InfoDue, Upgrades, upgrade_end, TextsDue, no_oil, bad_oil, no_code, bad_code, goes_on, IsBuilt, IsDue}
use Rattle.commands.specs.Laws.{HoldBytes, IsAnalyzed}
use Rattle.command_runs.specs.Running.{mode_named}
use Rattle.commands.specs.{Tracing.{never}, Words.{Command, Build, Replay, Trace, Show, Report, Info, Gen, Upgrade, Certify, Check, Record, Watch}}
use Rattle.command_runs.specs.declared.stop.Stop.{Stop}

module _ (files : Files) where
  module _ (app : App) (traps : ModeNo → List Event → Bool) (mode events : List ℕ) where
    abbrev Run : Type 0
    Run = (r : Result (Unit {0}) Stop) × RunDue files app traps mode events r

    under_events : (m : ModeNo) → mode_named app mode ≡ Some m → (text : Option (List ℕ)) → get files events ≡ text → Run
    under_events m e None f = (_, no_events m e f)
    under_events m e (Some text) f = (_, ends m text e f)

    in_mode : (m : Option ModeNo) → mode_named app mode ≡ m → Run
    in_mode None e = (_, no_mode e)
    in_mode (Some m) e = under_events m e (get files events) refl

    some_run : Run
    some_run = in_mode (mode_named app mode) refl

  module _ (image : List ℕ) (Next : Image → Result (Unit {0}) Stop → Type 0) (next : (i : Image) → (r : Result (Unit {0}) Stop) × Next i r) where
    abbrev Read : Type 0
    Read = (r : Result (Unit {0}) Stop) × ImageDue files image Next r

    of_bytes : (bytes : List ℕ) → get files image ≡ Some bytes → length bytes ≤ MAX_FILE → ((i : Image) × FitsFormat i × (spelling i ≡ bytes)) ⊎ ((f : ImageFault) × (read_image bytes ≡ Err f)) → Read
    of_bytes bytes e within (inl (i, fits, spelled)) =
        let (r, due) = next i in
        (r, is_read bytes i r e (record { within = within; fits = fits; spelled = spelled }) due)
    of_bytes bytes e within (inr (f, faulty)) = (_, bad_image bytes f e (inr (within, faulty)))

    of_image : HoldBytes files → (found : Option (List ℕ)) → get files image ≡ found → Read
    of_image hold None e = (_, no_image e)
    of_image hold (Some bytes) e = ⊎_elim
        (λ over. (_, bad_image bytes _ e (inl (over, refl))))
        (λ within. of_bytes bytes e within (spell_or_fail bytes (hold image bytes e)))
        (order MAX_FILE (length bytes))

    some_image : HoldBytes files → Read
    some_image hold = of_image hold (get files image) refl

  module _ (oil code : List ℕ) (Next : App → Result (Unit {0}) Stop → Type 0) (next : (app : App) → (r : Result (Unit {0}) Stop) × Next app r) where
    abbrev Given : Type 0
    Given = (r : Result (Unit {0}) Stop) × TextsDue files oil code Next r

    of_code : (text : List ℕ) (s : System) (code_text : List ℕ) → get files oil ≡ Some text → DeclaresSystem text s → get files code ≡ Some code_text → (a : Result App Refusal) → IsCodeAnswer a s code_text → Given
    of_code text s code_text e d f (Ok app) is = let (r, due) = next app in (r, goes_on text s code_text app r e d f is due)
    of_code text s code_text e d f (Err x) is = (_, bad_code text s code_text x e d f is)

    beside : (text : List ℕ) (s : System) → get files oil ≡ Some text → DeclaresSystem text s → (found : Option (List ℕ)) → get files code ≡ found → Given
    beside text s e d None f = (_, no_code text s e d f)
    beside text s e d (Some code_text) f = let (a, is) = some_code s code_text (declared_is_linkable text s d) in of_code text s code_text e d f a is

    of_oil : (text : List ℕ) → get files oil ≡ Some text → (a : Result System Refusal) → IsOilAnswer a text → Given
    of_oil text e (Ok s) is = beside text s e is (get files code) refl
    of_oil text e (Err x) is = (_, bad_oil text x e is)

    of_texts : (found : Option (List ℕ)) → get files oil ≡ found → Given
    of_texts None e = (_, no_oil e)
    of_texts (Some text) e = let (a, is) = some_oil text in of_oil text e a is

    some_texts : Given
    some_texts = of_texts (get files oil) refl

pub some_due : (files : Files) → HoldBytes files → (command : Option Command) → (IsAnalyzed command → ⊥) → (r : Result (Unit {0}) Stop) × IsDue files command r
some_due files hold None other = (_, refl)
some_due files hold (Some (Build oil code image)) other = some_texts files oil code IsBuilt (λ app. (Ok tt, refl))
some_due files hold (Some (Replay image mode events)) other = some_image files image (ImageRuns files mode events) (λ i. some_run files i.app (has_trap i) mode events) hold
some_due files hold (Some (Trace oil code mode events)) other = some_texts files oil code (λ app. RunDue files app never mode events) (λ app. some_run files app never mode events)
some_due files hold (Some (Show oil code)) other = some_texts files oil code IsBuilt (λ app. (Ok tt, refl))
some_due files hold (Some (Report oil code)) other = some_texts files oil code IsBuilt (λ app. (Ok tt, refl))
some_due files hold (Some (Info image)) other = some_image files image InfoDue (λ i. (Ok tt, refl)) hold
some_due files hold (Some (Upgrade image upgraded)) other = some_image files image Upgrades (λ i. (upgrade_end i.version, refl)) hold
some_due files hold (Some (Gen seed tasks)) other = (Ok tt, refl)
some_due files hold (Some (Certify oil code image table)) other = absurd (other tt)
some_due files hold (Some (Check image table)) other = absurd (other tt)
some_due files hold (Some (Record image mode events)) other = some_image files image (ImageRuns files mode events) (λ i. some_run files i.app (has_trap i) mode events) hold
some_due files hold (Some (Watch oil code points)) other = absurd (other tt)
