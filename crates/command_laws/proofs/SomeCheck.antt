-- Over files of bytes some answer is due to each `check`.
use Rattle.std.proofs.{Common.{◌≡◌, ℕ, ◌<◌, ◌≤◌, ◌^◌, ◌⊎◌, inl, inr, ⊎_elim, List, length, refl, Option, Some, None, Ok, Err}, str.Laws.{order}}
use Rattle.std.proofs.{lemmas.List.Elements.{All-weaker}}
use Rattle.std.specs.{FinMap.{get}, declared.result.Result.{Result}}
use Rattle.osek_values.specs.declared.limits.TheConstants.{MAX_FILE, MAX_TABLE}
use Rattle.osek_standard.specs.declared.objects.Task.{Task}
use Rattle.image_model.specs.declared.image.Image.{Image}
use Rattle.image_codec.specs.{declared.fault.ImageFault.{ImageFault}, Fits.{FitsFormat, FitsTask}, ImageReading.{read_image}, Spelling.{spelling}}
use Rattle.image_codec.proofs.SomeImage.{spell_or_fail}
use Rattle.abstract_state.specs.{declared.table.PlainTable.{PlainTable}, Domains.{HasMasks}, Tables.{sets_of}}
use Rattle.table_codec.specs.{declared.fault.TableFault.{TableFault}, Faults.{IsFirstFault}, Spelling.{spelling as table_spelling, IsSpellable}}
use Rattle.table_codec.proofs.SomeTables.{some_table}
use Rattle.flow_check.specs.{declared.verdict.Verdict.{Verdict}, Verdicts.{IsVerdict}}
use Rattle.flow_check.specs.declared.verdict.Verdict.TheVariants as verdict
use Rattle.osek_io.specs.Files.{Files}
use Rattle.command_runs.specs.{Replaying.{SpellImage}, declared.stop.Stop.{Stop}}
use Rattle.commands.specs.{Checking.{SpellTable}, Laws.{HoldBytes}, Words.{Check}}
use Rattle.commands.specs.Due.{IsDue, CheckDue, ImageDue, ImageIsJudged, TableDue, agreed, bad_image, bad_table, denied, is_read, is_table, no_image, no_table}
use Rattle.command_laws.proofs.SomeVerdict.{some_verdict}

has_masks : (i : Image) → FitsFormat i → HasMasks i.app
has_masks i fits = All-weaker FitsTask (λ (x : Task). x.own.0 < 2 ^ 64) (λ x h. h.own) i.app.tasks fits.each_task

module _ (files : Files) (image table : List ℕ) (hold : HoldBytes files) (none : (r : Result (Unit {0}) Stop) → ImageDue files image (ImageIsJudged files table) r → ⊥) where
  module _ (bytes : List ℕ) (e : get files image ≡ Some bytes) where
    module _ (i : Image) (spells : SpellImage bytes i) where
      no_judged : (r : Result (Unit {0}) Stop) → TableDue files table i.app (CheckDue i) r → ⊥
      no_judged r due = none r (is_read bytes i r e spells due)

      module _ (text : List ℕ) (f : get files table ≡ Some text) where
        said_of : (t : PlainTable) → SpellTable i.app text t → (v : Verdict) → IsVerdict i (sets_of t) v → ⊥
        said_of t told verdict.Yes is = no_judged (Ok tt) (is_table text t (Ok tt) f told (agreed is))
        said_of t told (verdict.N1 m) is = no_judged _ (is_table text t _ f told (denied _ (record { verdict = verdict.N1 m; is = is; told = refl })))
        said_of t told (verdict.N2 p) is = no_judged _ (is_table text t _ f told (denied _ (record { verdict = verdict.N2 p; is = is; told = refl })))
        said_of t told (verdict.N3 b) is = no_judged _ (is_table text t _ f told (denied _ (record { verdict = verdict.N3 b; is = is; told = refl })))
        said_of t told (verdict.N4 b) is = no_judged _ (is_table text t _ f told (denied _ (record { verdict = verdict.N4 b; is = is; told = refl })))

        of_text : length text ≤ MAX_TABLE → ((t : PlainTable) × IsSpellable i.app t × (table_spelling i.app t ≡ text)) ⊎ ((x : TableFault) × IsFirstFault i.app text x) → ⊥
        of_text within (inl (t, spellable, spelled)) = some_verdict i (sets_of t) (said_of t (record { within = within; written = spellable.written; spelled = spelled }))
        of_text within (inr (x, first)) = no_judged _ (bad_table text x f (inr (within, first)))

      of_table : (found : Option (List ℕ)) → get files table ≡ found → ⊥
      of_table None f = no_judged _ (no_table f)
      of_table (Some text) f = ⊎_elim
          (λ over. no_judged _ (bad_table text _ f (inl (over, refl))))
          (λ within. of_text text f within (some_table i.app (has_masks i spells.fits) text (hold table text f)))
          (order MAX_TABLE (length text))

    of_bytes : length bytes ≤ MAX_FILE → ((i : Image) × FitsFormat i × (spelling i ≡ bytes)) ⊎ ((x : ImageFault) × (read_image bytes ≡ Err x)) → ⊥
    of_bytes within (inl (i, fits, spelled)) = of_table i (record { within = within; fits = fits; spelled = spelled }) (get files table) refl
    of_bytes within (inr (x, faulty)) = none _ (bad_image bytes x e (inr (within, faulty)))

  of_image : (found : Option (List ℕ)) → get files image ≡ found → ⊥
  of_image None e = none _ (no_image e)
  of_image (Some bytes) e = ⊎_elim
      (λ over. none _ (bad_image bytes _ e (inl (over, refl))))
      (λ within. of_bytes bytes e within (spell_or_fail bytes (hold image bytes e)))
      (order MAX_FILE (length bytes))

pub some_check : (files : Files) (image table : List ℕ) → HoldBytes files → ((r : Result (Unit {0}) Stop) → IsDue files (Some (Check image table)) r → ⊥) → ⊥
some_check files image table hold none = of_image files image table hold none (get files image) refl
