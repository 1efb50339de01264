-- What is played for a whole event text is what the image shows under its events.
use Rattle.std.proofs.Common.{◌≡◌, ℕ, ◌+◌, ◌≤◌, List, [], ◌∷◌, ◌++◌, length, false, refl, sym, ◌∙◌, ap, append_assoc, Some, None, Ok, Err, arith, nat_lt}
use Rattle.std.proofs.lemmas.Bool.Decides.{nat_tests}
use Rattle.std.specs.declared.{option.Option.{Option}, result.Result.{Result}}
use Rattle.osek_values.specs.declared.{limits.TheConstants.{MAX_EVENT_TEXT}, event.Event.{Event}, numbers.ModeNo.{ModeNo}}
use Rattle.osek_standard.specs.{declared.{app.App.{App}, state.State.{State}}, Dispatch.{Stepped}, Kernel.{start}, Points.{point_of}, TraceText.{lines_from, line_text}}
use Rattle.image_model.specs.{declared.image.Image.{Image}, ImageStep.{image_step}, ImageTrace.{Run, and_then, image_steps, image_run, image_trace, has_trap, after, trap_text, trap_line}}
use Rattle.trace_text.specs.{EventWords.{read_line}, EventText.{Reading, read_lines, read_text, with_line, numbered_lines}, PointTexts.{point_text}, RecordText.{record_text}}
use Rattle.trace_text.specs.declared.fault.{EventFault.{EventFault}, FaultyLine.{FaultyLine}}
use Rattle.command_runs.specs.{Running.{end_of}, Playing.{Played, played, printing, plays, played_line, played_after, line_of, whole_play}, Shown.{image_points, points_of, shown_trace}}
use Rattle.command_runs.specs.declared.showing.Showing.{Showing}
use Rattle.command_runs.specs.declared.showing.Showing.TheVariants as showing
use Rattle.command_runs.specs.declared.stop.Stop.TheVariants as stop

-- what is printed of the steps of a run from line n on
abbrev pub lines_shown : Showing → Image → ℕ → List Stepped → List ℕ
lines_shown showing.Trace i n steps = lines_from i.app n steps
lines_shown showing.Points i n steps = record_text i.app (points_of steps)

no_lines : (w : Showing) (i : Image) (n : ℕ) → lines_shown w i n [] ≡ []
no_lines showing.Trace i n = refl
no_lines showing.Points i n = refl

-- one line more, and then a text
line_more : (w : Showing) (i : Image) (n : ℕ) (x : Stepped) (steps : List Stepped) (text : List ℕ) → line_of w i n x ++ (lines_shown w i (n + 1) steps ++ text) ≡ lines_shown w i n (x ∷ steps) ++ text
line_more showing.Trace i n x steps text = grouped
  where
    grouped : (line_text i.app n x ++ 10 ∷ []) ++ (lines_from i.app (n + 1) steps ++ text) ≡ (line_text i.app n x ++ 10 ∷ lines_from i.app (n + 1) steps) ++ text
    grouped = simp append_assoc
line_more showing.Points i n x steps text = sym (append_assoc (point_text i.app (point_of x.state) ++ 10 ∷ []) (record_text i.app (points_of steps)) text)

-- the lines of a run from line n on, and of its trap
abbrev pub run_text : Showing → Image → ℕ → Run → List ℕ
run_text w i n r = lines_shown w i n r.steps ++ trap_text r.trapped (n + length r.steps)

abbrev pub run_played : Showing → Image → ℕ → Run → Option FaultyLine → Played
run_played w i n r fault = played (run_text w i n r) (end_of r.trapped fault)

-- one line more in front of a run
run_then : (w : Showing) (i : Image) (n : ℕ) (x : Stepped) (r : Run) (fault : Option FaultyLine) →
    printing (line_of w i n x) (run_played w i (n + 1) r fault) ≡ run_played w i n (record { steps = x ∷ r.steps; trapped = r.trapped }) fault
run_then w i n x r fault =
    ap (λ (t : List ℕ). played t (end_of r.trapped fault))
    (ap (λ (k : ℕ). line_of w i n x ++ (lines_shown w i (n + 1) r.steps ++ trap_text r.trapped k)) count ∙ line_more w i n x r.steps (trap_text r.trapped (n + length (x ∷ r.steps))))
  where
    count : n + 1 + length r.steps ≡ n + length (x ∷ r.steps)
    count = omega arith

-- a step in front of what comes after it
after_is : (w : Showing) (i : Image) (n : ℕ) (x : Option Stepped) (es : List Event) (fault : Option FaultyLine) (more : State → Played) →
    ((t : State) → more t ≡ run_played w i (n + 1) (image_steps i t es) fault) → played_after w i n more x ≡ run_played w i n (after x (λ t. image_steps i t es)) fault
after_is w i n None es fault more h =
    let same : n ≡ n + 0 = omega arith in
    ap (λ (k : ℕ). played (trap_line k) (Err stop.Trapped)) same ∙ ap (λ (l : List ℕ). played (l ++ trap_line (n + 0)) (Err stop.Trapped)) (sym (no_lines w i n))
after_is w i n (Some x) es fault more h = ap (printing (line_of w i n x)) (h x.state) ∙ run_then w i n x (image_steps i x.state es) fault

line_is : (w : Showing) (i : Image) (n : ℕ) (s : State) (line : ℕ) (r : Result (Option Event) EventFault) (rest : Reading) (more : ℕ → State → Played) →
    ((m : ℕ) (t : State) → more m t ≡ run_played w i m (image_steps i t rest.events) rest.fault) →
    played_line w i n s line more r ≡ run_played w i n (image_steps i s (with_line line r rest).events) (with_line line r rest).fault
line_is w i n s line (Ok None) rest more h = h n s
line_is w i n s line (Ok (Some e)) rest more h = after_is w i n (image_step i s e) rest.events rest.fault (more (n + 1)) (h (n + 1))
line_is w i n s line (Err rule) rest more h = ap (λ (l : List ℕ). played (l ++ []) (Err (stop.Events (record { line = line; rule = rule })))) (sym (no_lines w i n))

-- a play is the run under the events of its lines
pub plays_run : (w : Showing) (i : Image) (lines : List (ℕ × List ℕ)) (n : ℕ) (s : State) →
    plays w i lines n s ≡ run_played w i n (image_steps i s (read_lines i.app lines).events) (read_lines i.app lines).fault
plays_run w i [] n s = ap (λ (l : List ℕ). played (l ++ []) (Ok tt)) (sym (no_lines w i n))
plays_run w i (line ∷ more) n s = line_is w i n s line.0 (read_line i.app line.1) (read_lines i.app more) (plays w i more) (λ m t. plays_run w i more m t)

read_within : (app : App) (text : List ℕ) → length text ≤ MAX_EVENT_TEXT → read_text app text ≡ read_lines app (numbered_lines text)
read_within app text h = let low : nat_lt MAX_EVENT_TEXT (length text) ≡ false = grind (arith, nat_tests) in rw low

-- the run from its start on
whole_shown : (w : Showing) (i : Image) (m : ModeNo) (es : List Event) (fault : Option FaultyLine) →
    run_played w i 0 (and_then (start i.app m) (image_steps i (start i.app m).state es)) fault ≡ played (shown_trace w i m es) (end_of (has_trap i m es) fault)
unfolding image_trace image_points image_run
whole_shown showing.Trace i m es fault =
    let r = and_then (start i.app m) (image_steps i (start i.app m).state es) in
    let count : 0 + length r.steps ≡ length r.steps = omega arith in
    ap (λ (k : ℕ). played (lines_from i.app 0 r.steps ++ trap_text r.trapped k) (end_of r.trapped fault)) count
whole_shown showing.Points i m es fault =
    let r = and_then (start i.app m) (image_steps i (start i.app m).state es) in
    let count : 0 + length r.steps ≡ length r.steps = omega arith in
    ap (λ (k : ℕ). played (record_text i.app (points_of r.steps) ++ trap_text r.trapped k) (end_of r.trapped fault)) count

-- the whole play prints what the image shows, and ends at a trap, at a fault, or with the text
pub whole_is : (w : Showing) (i : Image) (m : ModeNo) (text : List ℕ) → length text ≤ MAX_EVENT_TEXT →
    whole_play w i m text ≡ played (shown_trace w i m (read_text i.app text).events) (end_of (has_trap i m (read_text i.app text).events) (read_text i.app text).fault)
whole_is w i m text h =
    let es = (read_lines i.app (numbered_lines text)).events in
    let fault = (read_lines i.app (numbered_lines text)).fault in
    ap (printing (line_of w i 0 (start i.app m))) (plays_run w i (numbered_lines text) 1 (start i.app m).state)
    ∙ run_then w i 0 (start i.app m) (image_steps i (start i.app m).state es) fault
    ∙ whole_shown w i m es fault
    ∙ ap (λ (r : Reading). played (shown_trace w i m r.events) (end_of (has_trap i m r.events) r.fault)) (sym (read_within i.app text h))
