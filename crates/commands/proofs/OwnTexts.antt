-- No stop is due to a run of generated texts: they have no fault.
use Rattle.std.proofs.Common.{◌≡◌, ◌<◌, ◌≤◌, ℕ, Bool, false, cond, List, ◌∷◌, length, subst, ap, option_map, arith, ◌∙◌, Some, None, Ok, Err}
use Rattle.std.specs.{Cmp.Lexicographic.{nat_list_cmp_total}, FinMap.{empty, get, insert, get-insert}, List.{position}, Str.{bytes_eq}}
use Rattle.std.proofs.lemmas.Bool.{lt-ltb}
use Rattle.osek_values.specs.{Numbers.{mode_no}, declared.limits.TheConstants.{MAX_TASKS}}
use Rattle.oil_system.specs.declared.system.System.{System}
use Rattle.osek_vectors.specs.{declared.generated.Generated.{Generated}, GeneratedTexts.{generated_texts}}
use Rattle.trace_text.specs.EventText.{read_text}
use Rattle.generated_texts.specs.Faultless.{TextsHaveNoFault}
use Rattle.generated_texts.proofs.Faultless.{texts_have_no_fault}
use Rattle.osek_io.specs.Files.{Files}
use Rattle.command_runs.specs.{Running.{mode_named, end_of}, declared.stop.Stop.{Stop}}
use Rattle.commands.specs.{Due.{RunDue, ends, goes_on, OwnDue}, GeneratedFiles.{oil_name, code_name, events_name, default_mode, text_files, generated_files}, Tracing.{never}}
use Rattle.commands.proofs.OneDue.{one_own}

-- the default mode is the first of those that a system declares
first_named : (names : List (List ℕ)) → option_map mode_no (position (bytes_eq default_mode) (default_mode ∷ names)) ≡ Some (mode_no 0)
first_named names = ap (λ (b : Bool). option_map mode_no (cond b (Some 0) None)) (lt-ltb 0 (length (default_mode ∷ names)) (omega arith))

module _ (texts : Generated) where
  abbrev oil_alone : Files
  oil_alone = insert empty oil_name texts.oil

  abbrev two : Files
  two = insert oil_alone code_name texts.code

  abbrev three : Files
  three = text_files texts

  oil_held : get three oil_name ≡ Some texts.oil
  oil_held =
      get-insert nat_list_cmp_total two events_name texts.events oil_name ∙ get-insert nat_list_cmp_total oil_alone code_name texts.code oil_name
      ∙ get-insert nat_list_cmp_total empty oil_name texts.oil oil_name

  code_held : get three code_name ≡ Some texts.code
  code_held = get-insert nat_list_cmp_total two events_name texts.events code_name ∙ get-insert nat_list_cmp_total oil_alone code_name texts.code code_name

  events_held : get three events_name ≡ Some texts.events
  events_held = get-insert nat_list_cmp_total two events_name texts.events events_name

  -- a run to the end of the events is due
  run_is_due : TextsHaveNoFault texts → OwnDue three (Ok tt)
  run_is_due t =
      let modes : t.app.modes ≡ t.system.modes = t.gives.has_app.modes in
      let named : mode_named t.app default_mode ≡ Some (mode_no 0) =
      ap (λ (names : List (List ℕ)). option_map mode_no (position (bytes_eq default_mode) names)) (modes ∙ ap (λ (s : System). s.modes) t.declares.has_system.is)
      ∙ first_named _ in
      let done : end_of false (read_text t.app texts.events).fault ≡ Ok tt = ap (end_of false) t.faultless in
      goes_on texts.oil t.system texts.code t.app (Ok tt) oil_held t.declares code_held t.gives
      (subst (RunDue three t.app never default_mode events_name) done (ends (mode_no 0) texts.events named events_held))

pub no_stop_is_due : (seed tasks : ℕ) → (0 < tasks) × (tasks ≤ MAX_TASKS) → (s : Stop) → OwnDue (generated_files seed tasks) (Err s) → ⊥
unfolding generated_files
no_stop_is_due seed tasks few s due =
    let same = one_own (text_files (generated_texts seed tasks)) (Err s) (Ok tt) due (run_is_due (generated_texts seed tasks) (texts_have_no_fault seed tasks few.0 few.1)) in
    absurd (cc same)
