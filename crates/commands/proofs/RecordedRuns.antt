-- What `record` prints of an image that `build` stores is the record of the kernel's run, and is quiet.
use Rattle.std.proofs.Common.{◌≡◌, ℕ, ◌<◌, ◌≤◌, false, List, [], ◌∷◌, ◌++◌, length, Option, None, Ok, refl, sym, ◌∙◌, ap, subst}
use Rattle.std.specs.List.{All}
use Rattle.std.proofs.lemmas.List.{append-nil, Elements.{All-cons, All-nil}}
use Rattle.osek_values.specs.declared.{event.Event.{Event}, limits.TheConstants.{MAX_RECORD}, numbers.ModeNo.{ModeNo}}
use Rattle.osek_standard.specs.declared.{app.App.{App}, point.Point.{Point}, state.State.{State}}
use Rattle.osek_standard.specs.{Dispatch.{Stepped}, Kernel.{start, step, steps, run}, Points.{IsPoint, point_of}}
use Rattle.image_model.specs.{declared.image.Image.{Image}, ImageTrace.{Run, run_of, and_then, after, image_steps, image_run, trap_text}}
use Rattle.abstract_state.specs.{declared.table.PlainTable.{PlainTable}, Tables.{Sets, In, Inductive, sets_of}}
use Rattle.dictated_forms.specs.Forms.{Fits, HasDictatedForms, KnowsAtMost}
use Rattle.abstract_state.proofs.AllowedLaws.{well_point}
use Rattle.dictated_forms.proofs.ImageLaws.{dictated_fit, dictated_statuses, fitting_step}
use Rattle.trace_text.specs.RecordText.{RecordReading, read_record, record_text}
use Rattle.trace_text.proofs.RecordLaws.{reads_back}
use Rattle.flow_watch.specs.Records.{IsQuiet, record_of}
use Rattle.flow_watch.proofs.QuietRuns.{quiet_run}
use Rattle.command_runs.specs.{Playing.{played}, Shown.{image_points, points_of}}
use Rattle.commands.specs.{Due.{WatchDue, is_watched}, Fitting.{HasLeastForms, IsLeastTable}, Watching.{IsWatched, quiet_line, watched_by}}
use Rattle.commands.specs.Laws.{WhatIsRecordedIsQuiet, WhatIsRecordedIsTheKernels}

module _ (i : Image) (table : Sets) (inductive : Inductive i.app table) where
  -- an image that fits the table does what the kernel does, step for step
  module _ (fits : Fits table i) where
    same_steps : (s : State) (es : List Event) → In i.app table s → image_steps i s es ≡ run_of (steps i.app s es) false
    same_steps s [] h = refl
    same_steps s (e ∷ es) h =
        ap (λ (o : Option Stepped). after o (λ t. image_steps i t es)) (fitting_step i table fits s e h)
        ∙ ap (and_then (step i.app s e)) (same_steps (step i.app s e).state es (inductive.step s e h))

    pub same_run : (mode : ModeNo) (es : List Event) → mode.0 < length i.app.modes → image_run i mode es ≡ run_of (run i.app mode es) false
    unfolding image_run run
    same_run mode es there = ap (and_then (start i.app mode)) (same_steps (start i.app mode).state es (inductive.start mode there))

  same_record : HasDictatedForms table i → KnowsAtMost table i → (mode : ModeNo) (es : List Event) → mode.0 < length i.app.modes → image_points i mode es ≡ record_text i.app (record_of i.app mode es)
  unfolding image_points
  same_record forms known mode es there =
      ap (λ (r : Run). record_text i.app (points_of r.steps) ++ trap_text r.trapped (length r.steps)) (same_run (dictated_fit i table forms known) mode es there)
      ∙ append-nil (record_text i.app (record_of i.app mode es))

  points_from : (s : State) (es : List Event) → In i.app table s → All (IsPoint i.app) (points_of (steps i.app s es))
  points_from s [] h = All-nil (IsPoint i.app)
  points_from s (e ∷ es) h =
      let t = (step i.app s e).state in
      let inside = inductive.step s e h in
      All-cons (IsPoint i.app) (point_of t) (points_of (steps i.app t es)) (well_point i.app t inside.well) (points_from t es inside)

  are_points : (mode : ModeNo) (es : List Event) → mode.0 < length i.app.modes → All (IsPoint i.app) (record_of i.app mode es)
  unfolding run
  are_points mode es there =
      let s = (start i.app mode).state in
      let inside = inductive.start mode there in
      All-cons (IsPoint i.app) (point_of s) (points_of (steps i.app s es)) (well_point i.app s inside.well) (points_from s es inside)

-- an image with the forms of its least table, in one of its modes
module _ (i : Image) (fitted : HasLeastForms i.app i) (mode : ModeNo) (es : List Event) (there : mode.0 < length i.app.modes) where
  own_record : image_points i mode es ≡ record_text i.app (record_of i.app mode es)
  own_record = same_record i fitted.table fitted.least.inductive fitted.forms (dictated_statuses i fitted.table fitted.statuses) mode es there

  recorded : (table : PlainTable) → IsLeastTable i.app table → length (image_points i mode es) ≤ MAX_RECORD →
      IsWatched i.app (sets_of table) (image_points i mode es) (played (quiet_line (length (record_of i.app mode es))) (Ok tt))
  recorded table least within =
      let app = i.app in
      let points : List Point = record_of app mode es in
      let short : length (record_text app points) ≤ MAX_RECORD = subst (λ (t : List ℕ). length t ≤ MAX_RECORD) own_record within in
      let reads : read_record app (image_points i mode es) ≡ record { points = points; fault = None } =
      ap (read_record app) own_record ∙ reads_back app points (are_points i fitted.table fitted.least.inductive mode es there) short in
      record {
        alarm = None;
        first = subst (λ (r : RecordReading). IsQuiet app (sets_of table) None r.points) (sym reads) (quiet_run app (sets_of table) least.least.inductive mode es there);
        is = sym (ap (λ (r : RecordReading). watched_by app r None) reads);
      }

pub recorded_as_the_kernel : WhatIsRecordedIsTheKernels
recorded_as_the_kernel app i m events fitted there =
    let is = sym fitted.kernel.is in
    subst (λ (a : App). image_points i m events ≡ record_text a (record_of a m events)) fitted.kernel.is
    (own_record i (subst (λ (a : App). HasLeastForms a i) is fitted.forms) m events (subst (λ (a : App). m.0 < length a.modes) is there))

pub recorded_is_quiet : WhatIsRecordedIsQuiet
recorded_is_quiet files points app i m events fitted there holds within table least =
    let is = sym fitted.kernel.is in
    let own = subst (λ (a : App). IsLeastTable a table) is least in
    let due : WatchDue files points i.app (Ok tt) =
    is_watched (image_points i m events) table (played (quiet_line (length (record_of i.app m events))) (Ok tt)) holds within own
    (recorded i (subst (λ (a : App). HasLeastForms a i) is fitted.forms) m events (subst (λ (a : App). m.0 < length a.modes) is there) table own within) in
    subst (λ (a : App). WatchDue files points a (Ok tt)) fitted.kernel.is due
