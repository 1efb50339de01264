-- From what was loaded and played to the answers of a run.
use Rattle.std.proofs.{Common.{◌≡◌, ℕ, ◌≤◌, List, ◌++◌, length, sym, ◌∙◌, ap, subst, inl, inr, Some, arith}, lemmas.List.{length-append}}
use Rattle.std.specs.declared.result.Result.{Result}
use Rattle.osek_values.specs.declared.{limits.TheConstants.{MAX_EVENT_TEXT}, notes.Notes.{Notes}, numbers.ModeNo.{ModeNo}}
use Rattle.osek_standard.specs.{declared.state.State.{State}, Dispatch.{Stepped, stepped}, Kernel.{start}}
use Rattle.image_model.specs.{declared.image.Image.{Image}, ImageTrace.{has_trap}}
use Rattle.trace_text.specs.EventText.{numbered_lines}
use Rattle.osek_io.specs.Sunk.{Writes}
use Rattle.command_runs.specs.{Inputs.{no_memory}, Outside.{Outside}, Playing.{Played, printing, plays as plays_lines, line_of, PlayAnswers, StopsBehind, whole_play, PlaysWhole}}
use Rattle.command_runs.specs.{Running.{mode_named, whole_run, RunAnswers, stops, plays, unread_on}, Shown.{shown_trace}, declared.{showing.Showing.{Showing}, stop.Stop.{Stop}}}
use Rattle.command_runs.proofs.{InputFiles.{of_map}, PlayedTrace.{whole_is}}

-- what stops behind lines that were played stops so of another spelling of the play
pub stops_as : (reads reads_after : ℕ → ℕ) (Prints : List ℕ → Type 0) (p q : List ℕ → Played) → ((text : List ℕ) → length text ≤ MAX_EVENT_TEXT → p text ≡ q text) →
    (text : List ℕ) → length text ≤ MAX_EVENT_TEXT → StopsBehind reads reads_after Prints p text → StopsBehind reads reads_after Prints q text
stops_as reads reads_after Prints p q same text short s =
    let fewer : length s.lines ≤ MAX_EVENT_TEXT = omega (arith, short, ap length s.parts, length-append (s.lines ++ s.begun) s.rest, length-append s.lines s.begun) in
    let due = ap (λ (x : Played). x.text) (same s.lines fewer) in
    record {
      lines = s.lines;
      begun = s.begun;
      rest = s.rest;
      parts = s.parts;
      ended = s.ended;
      no_more = s.no_more;
      unread = s.unread;
      prints = subst Prints due s.prints;
      back = s.back;
      prefix = sym (ap (λ (x : Played). x.text) (same text short)) ∙ s.prefix ∙ ap (λ (xs : List ℕ). xs ++ s.back) due;
    }

-- the run of the image under the text that was read
pub image_runs : (before after : Outside) (w : Showing) (i : Image) (mode events : List ℕ) (m : ModeNo) → mode_named i.app mode ≡ Some m → (r : Result (Unit {0}) Stop) →
    PlaysWhole before.shelf.files events (before.shelf.reads events) (after.shelf.reads events) before.out after.out w i m r → RunAnswers before after i.app (shown_trace w i) (has_trap i) mode events r
image_runs before after w i mode events m named r (inl h) = subst (RunAnswers before after i.app (shown_trace w i) (has_trap i) mode events) (sym h.0) (stops m _ named no_memory h.1)
image_runs before after w i mode events m named r (inr (inl h)) =
    plays m r named h.0 (of_map before.shelf.files events _ _
    (λ text x. (x.0, subst (λ (p : Played). PlayAnswers before.out after.out p r) (whole_is w i m text x.0) x.1)) h.1)
image_runs before after w i mode events m named r (inr (inr h)) =
    subst (RunAnswers before after i.app (shown_trace w i) (has_trap i) mode events) (sym h.0)
    (unread_on m named (of_map before.shelf.files events _ _
    (λ text x. (x.0, stops_as (before.shelf.reads events) (after.shelf.reads events) (Writes before.out after.out) (whole_play w i m) (whole_run i.app (shown_trace w i) (has_trap i) m) (whole_is w i m) text x.0 x.1)) h.1))

-- the play of a machine that has just started is the whole play
pub whole_started : (w : Showing) (i j : Image) (m : ModeNo) (s : State) (n : Notes) → j ≡ i → start i.app m ≡ stepped s n → (text : List ℕ) →
    printing (line_of w j 0 (stepped s n)) (plays_lines w j (numbered_lines text) 1 s) ≡ whole_play w i m text
whole_started w i j m s n same is text =
    ap (λ (k : Image). printing (line_of w k 0 (stepped s n)) (plays_lines w k (numbered_lines text) 1 s)) same
    ∙ ap (λ (x : Stepped). printing (line_of w i 0 x) (plays_lines w i (numbered_lines text) 1 x.state)) (sym is)
