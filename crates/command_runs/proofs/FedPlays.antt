-- A play of the lines that come out of a feed is the play of the text's lines.
use Rattle.std.proofs.Common.{◌≡◌, ◌⊎◌, ℕ, ◌+◌, ◌<◌, ◌≤◌, Bool, true, false, cond, ltb, List, [], ◌∷◌, ◌++◌, length, take, drop, Option, Some, None, Ok, Err, refl, sym, ◌∙◌, ap, subst, inl, inr, append_assoc, arith}
use Rattle.std.specs.{List.{enumerate_from}, declared.result.Result.{Result}}
use Rattle.std.proofs.{lemmas.{Bool.{ltb-true}, List.{append-nil, drop_all, length-append, length-take-le, take-append-drop}}, Math.Seq.{take-add}}
use Rattle.osek_values.specs.declared.{limits.TheConstants.{MAX_EVENT_TEXT}, event.Event.{Event}}
use Rattle.osek_standard.specs.declared.state.State.{State}
use Rattle.image_model.specs.declared.image.Image.{Image}
use Rattle.image_run.specs.Machines.{AtWork}
use Rattle.trace_text.specs.{declared.{fault.EventFault.{EventFault}, feed.FeedStep.TheVariants.{Line}}, EventText.{text_lines, numbered_lines}, EventWords.{read_line}}
use Rattle.trace_text.specs.Feeds.{FeedState, next_answer, after_next, lines_to_long}
use Rattle.trace_text.proofs.FeedLaws.{line_is_first, too_long}
use Rattle.osek_io.specs.{Counts.{Rose}, Files.{Files, Holds}}
use Rattle.command_runs.specs.Inputs.{OfFile, ReadsOn}
use Rattle.command_runs.specs.Playing.{Given, Puts, Played, played, printing, plays, plays_fed, played_line, MayFollow, PlaysOn, GoesOn, HasNoEnd, TakesLines, StopsBehind, HeldAnswers, HeldReadAnswers}
use Rattle.command_runs.specs.declared.{playing.Place.{Place}, showing.Showing.{Showing}, stop.Stop.{Stop}}
use Rattle.command_runs.proofs.{EndedLines.{EndsLine, ended_behind, line_ends_or_is_long}, GivenTexts.{puts_nothing, puts_both}, InputFiles.{of_map}}
use Rattle.command_runs.proofs.Plays.{came_to_end, printed_first, printing-printing}

-- nothing is played behind a line that is too long
plays_to_long : (w : Showing) (i : Image) (k : ℕ) (lines : List (List ℕ)) (n : ℕ) (s : State) → plays w i (enumerate_from k (lines_to_long lines)) n s ≡ plays w i (enumerate_from k lines) n s
plays_to_long w i k [] n s = refl
plays_to_long w i k (line ∷ more) n s = by_length (ltb 256 (length line)) refl (plays_to_long w i (k + 1) more)
  where
    by_length : (b : Bool) → ltb 256 (length line) ≡ b → ((m : ℕ) (t : State) → plays w i (enumerate_from (k + 1) (lines_to_long more)) m t ≡ plays w i (enumerate_from (k + 1) more) m t) →
        plays w i (enumerate_from k (cond b (take 257 line ∷ []) (line ∷ lines_to_long more))) n s ≡ plays w i (enumerate_from k (line ∷ more)) n s
    by_length true e later =
        let many : 256 < length line = ltb-true 256 (length line) e in
        let size : length (take 257 line) ≡ 257 = length-take-le 257 line (omega (arith, many)) in
        ap (played_line w i n s k (plays w i [])) (too_long i.app (take 257 line) (omega (arith, size)))
        ∙ sym (ap (played_line w i n s k (plays w i (enumerate_from (k + 1) more))) (too_long i.app line many))
    by_length false e later =
        let same : ◌≡◌ {A = ℕ → State → Played} (plays w i (enumerate_from (k + 1) (lines_to_long more))) (plays w i (enumerate_from (k + 1) more)) = (λ j m t. later m t j) in
        ap (λ (rest : ℕ → State → Played). played_line w i n s k rest (read_line i.app line)) same

-- the lines behind the one that came out
abbrev behind : FeedState → (rest : List ℕ) → ℕ → List (ℕ × List ℕ)
behind f rest k = enumerate_from (k + 1) (text_lines ((after_next f).ahead ++ rest))

-- the line that came out is played, and then those behind it
line_fed : (w : Showing) (i : Image) (f : FeedState) (rest : List ℕ) (k n : ℕ) (s : State) (line : List ℕ) → MayFollow f rest → next_answer f ≡ Line → line ≡ (after_next f).line →
    plays_fed w i f rest k n s ≡ plays w i ((k, line) ∷ behind f rest k) n s
line_fed w i f rest k n s line may is same =
    sym (plays_to_long w i k (text_lines (f.ahead ++ rest)) n s) ∙ ap (λ (ls : List (List ℕ)). plays w i (enumerate_from k ls) n s) (line_is_first f rest may is)
    ∙ plays_to_long w i k ((after_next f).line ∷ text_lines ((after_next f).ahead ++ rest)) n s
    ∙ ap (λ (l : List ℕ). plays w i ((k, l) ∷ behind f rest k) n s) (sym same)

-- no line went
takes_nothing : (ahead : List ℕ) (w : Showing) (i : Image) (k n : ℕ) (s : State) → TakesLines ahead ahead w i k n s k n s []
takes_nothing ahead w i k n s = record { lines = []; parts = refl; ended = inl refl; alone = λ rest. refl }

-- lines went, and more behind them
takes_both : (a b c : List ℕ) (w : Showing) (i : Image) (k n : ℕ) (s : State) (l m : ℕ) (t : State) (o p : ℕ) (u : State) (x y : List ℕ) → TakesLines a b w i k n s l m t x → TakesLines b c w i l m t o p u y → TakesLines a c w i k n s o p u (x ++ y)
takes_both a b c w i k n s l m t o p u x y f h = record {
  lines = f.lines ++ h.lines;
  parts = f.parts ∙ ap (λ (xs : List ℕ). f.lines ++ xs) h.parts ∙ sym (append_assoc f.lines h.lines c);
  ended = ended_behind f.lines h.lines f.ended h.ended;
  alone = λ rest. ap (λ (xs : List ℕ). plays w i (enumerate_from k (text_lines xs)) n s) (append_assoc f.lines h.lines rest) ∙ f.alone (h.lines ++ rest) ∙ ap (printing x) (h.alone rest)
      ∙ printing-printing x y (plays w i (enumerate_from o (text_lines rest)) p u);
}

-- no play goes on behind a line that is too long
stops_at_long : (now next : Given) (w : Showing) (i : Image) (m : ℕ) (t : State) (l : ℕ) (line : List ℕ) (o : ℕ) (u : State) → 256 < length line → GoesOn now next (λ more. played_line w i m t l more (read_line i.app line)) o u → ⊥
stops_at_long now next w i m t l line o u long goes =
    let stays = goes.goes_on (λ _ _. played [] (Ok tt)) in
    let e = ap (λ (r : Result (Option Event) EventFault). played_line w i m t l (λ _ _. played [] (Ok tt)) r) (too_long i.app line long) in
    let ends = ap (λ (p : Played). p.end) (sym e ∙ stays) in
    absurd (cc ends)

-- the line that came out went
takes_line : (now next : Given) (w : Showing) (i : Image) (g : FeedState) (l m : ℕ) (t : State) (line : List ℕ) (o : ℕ) (u : State) → g.finished ≡ false → next_answer g ≡ Line → line ≡ (after_next g).line →
    (goes : GoesOn now next (λ more. played_line w i m t l more (read_line i.app line)) o u) → TakesLines g.ahead (after_next g).ahead w i l m t (l + 1) o u goes.text
takes_line now next w i g l m t line o u going is same goes = by_length (line_ends_or_is_long g going is)
  where
    by_length : EndsLine g.ahead (after_next g).line (after_next g).ahead ⊎ (256 < length (after_next g).line) → TakesLines g.ahead (after_next g).ahead w i l m t (l + 1) o u goes.text
    by_length (inl h) = record {
      lines = h.lines;
      parts = h.parts;
      ended = h.ended;
      alone = λ rest. ap (λ (ls : List (List ℕ)). plays w i (enumerate_from l ls) m t) (h.first rest ∙ ap (λ (x : List ℕ). x ∷ text_lines rest) (sym same)) ∙ goes.goes_on (plays w i (enumerate_from (l + 1) (text_lines rest)));
    }
    by_length (inr long) = absurd (stops_at_long now next w i m t l line o u (subst (λ (x : List ℕ). 256 < length x) (sym same) long) goes)

-- nothing was played yet
pub starts_on : (first : Given) (w : Showing) (i : Image) (f : FeedState) (k n : ℕ) (s : State) → PlaysOn first first w i f f k n s k n s
starts_on first w i f k n s = record { text = []; prints = puts_nothing first; goes_on = λ rest may. refl; takes = λ _. takes_nothing f.ahead w i k n s }

-- a line more
pub one_line_on : (first now next : Given) (w : Showing) (i : Image) (f g : FeedState) (k n : ℕ) (s : State) (l m : ℕ) (t : State) (line : List ℕ) (o : ℕ) (u : State) → g.finished ≡ f.finished → next_answer g ≡ Line → line ≡ (after_next g).line →
    GoesOn now next (λ more. played_line w i m t l more (read_line i.app line)) o u → PlaysOn first now w i f g k n s l m t → PlaysOn first next w i f (after_next g) k n s (l + 1) o u
one_line_on first now next w i f g k n s l m t line o u done is same goes on = record {
  text = on.text ++ goes.text;
  prints = puts_both first now next on.text goes.text on.prints goes.prints;
  goes_on = λ rest may. on.goes_on rest may ∙ ap (printing on.text) (line_fed w i g rest l m t line (λ e. may (sym done ∙ e)) is same ∙ goes.goes_on (plays w i (behind g rest l)))
      ∙ printing-printing on.text goes.text (plays_fed w i (after_next g) rest (l + 1) o u);
  takes = λ going. takes_both f.ahead g.ahead (after_next g).ahead w i k n s l m t (l + 1) o u on.text goes.text (on.takes going) (takes_line now next w i g l m t line o u (done ∙ going) is same goes);
}

-- the bytes ahead stay
pub kept_on : (first now : Given) (w : Showing) (i : Image) (f g h : FeedState) (k n : ℕ) (s : State) (l m : ℕ) (t : State) → h.ahead ≡ g.ahead → PlaysOn first now w i f g k n s l m t → PlaysOn first now w i f h k n s l m t
kept_on first now w i f g h k n s l m t same on = record {
  text = on.text;
  prints = on.prints;
  goes_on = λ rest may. on.goes_on rest may ∙ ap (λ (xs : List ℕ). printing on.text (plays w i (enumerate_from l (text_lines (xs ++ rest))) m t)) (sym same);
  takes = λ going. subst (λ (xs : List ℕ). TakesLines f.ahead xs w i k n s l m t on.text) (sym same) (on.takes going);
}

-- a line at which the play ends
pub line_ends_on : (first now next : Given) (w : Showing) (i : Image) (f g : FeedState) (k n : ℕ) (s : State) (l m : ℕ) (t : State) (line : List ℕ) (end : Stop) → g.finished ≡ f.finished → next_answer g ≡ Line → line ≡ (after_next g).line →
    ((more : ℕ → State → Played) → HeldAnswers now next (played_line w i m t l more (read_line i.app line)) (Err end)) → PlaysOn first now w i f g k n s l m t →
    (rest : List ℕ) → MayFollow f rest → HeldAnswers first next (plays_fed w i f rest k n s) (Err end)
line_ends_on first now next w i f g k n s l m t line end done is same answers on rest may =
    came_to_end first now next (plays_fed w i f rest k n s) w i ((l, line) ∷ behind g rest l) m t (Err end) (answers (plays w i (behind g rest l)))
    (record { text = on.text; prints = on.prints; rest = on.goes_on rest may ∙ ap (printing on.text) (line_fed w i g rest l m t line (λ e. may (sym done ∙ e)) is same) })

-- which bytes of a file came, and how far their play has come
pub record HasCome (files : Option Files) (name : List ℕ) (first now : Given) (w : Showing) (i : Image) (start : State) (taken : ℕ) (f : FeedState) (k n : ℕ) (s : State) : Type 0 where
  pub came : List ℕ
  pub size : length came ≡ taken
  pub held : (bytes : List ℕ) → Holds files name bytes → came ≡ take taken bytes
  pub text : List ℕ
  pub prints : Puts first now text
  pub goes_on : (rest : List ℕ) → MayFollow f rest → plays w i (numbered_lines (came ++ rest)) 1 start ≡ printing text (plays_fed w i f rest k n s)
  pub takes : f.finished ≡ false → TakesLines came f.ahead w i 1 1 start k n s text

-- more bytes came, or none
pub more_came : (files : Option Files) (name : List ℕ) (first now : Given) (w : Showing) (i : Image) (start : State) (taken c : ℕ) (f g : FeedState) (k n : ℕ) (s : State) → f.finished ≡ false → ReadsOn files name taken f.ahead g.ahead c →
    HasCome files name first now w i start taken f k n s → HasCome files name first now w i start (taken + c) g k n s
more_came files name first now w i start taken c f g k n s open_yet r h = record {
  came = h.came ++ r.more;
  size = length-append h.came r.more ∙ ap (λ (x : ℕ). x + length r.more) h.size ∙ ap (λ (x : ℕ). taken + x) (sym r.count);
  held = λ bytes holds. ap (λ (xs : List ℕ). xs ++ r.more) (h.held bytes holds) ∙ ap (λ (xs : List ℕ). take taken bytes ++ xs) (r.held bytes holds) ∙ sym (take-add taken c bytes);
  text = h.text;
  prints = h.prints;
  goes_on = λ rest may. ap (λ (xs : List ℕ). plays w i (numbered_lines xs) 1 start) (append_assoc h.came r.more rest) ∙ h.goes_on (r.more ++ rest) (λ e. absurd (cc (open_yet, e)))
      ∙ ap (λ (xs : List ℕ). printing h.text (plays w i (enumerate_from k (text_lines xs)) n s)) (sym (append_assoc f.ahead r.more rest) ∙ ap (λ (xs : List ℕ). xs ++ rest) (sym r.joins));
  takes = λ _. let t = h.takes open_yet in record {
    lines = t.lines;
    parts = ap (λ (xs : List ℕ). xs ++ r.more) t.parts ∙ append_assoc t.lines f.ahead r.more ∙ ap (λ (xs : List ℕ). t.lines ++ xs) (sym r.joins);
    ended = t.ended;
    alone = t.alone;
  };
}

-- lines of them were played
pub more_played : (files : Option Files) (name : List ℕ) (first now next : Given) (w : Showing) (i : Image) (start : State) (taken : ℕ) (f g : FeedState) (k n : ℕ) (s : State) (l m : ℕ) (t : State) → g.finished ≡ f.finished → PlaysOn now next w i f g k n s l m t →
    HasCome files name first now w i start taken f k n s → HasCome files name first next w i start taken g l m t
more_played files name first now next w i start taken f g k n s l m t done on h = record {
  came = h.came;
  size = h.size;
  held = h.held;
  text = h.text ++ on.text;
  prints = puts_both first now next h.text on.text h.prints on.prints;
  goes_on = λ rest may. let before : MayFollow f rest = (λ e. may (done ∙ e)) in
      h.goes_on rest before ∙ ap (printing h.text) (on.goes_on rest before) ∙ printing-printing h.text on.text (plays_fed w i g rest l m t);
  takes = λ going. takes_both h.came f.ahead g.ahead w i 1 1 start k n s l m t h.text on.text (h.takes (sym done ∙ going)) (on.takes (sym done ∙ going));
}

-- what was held back was written meanwhile, and the play stands where it stood
pub held_played : (files : Option Files) (name : List ℕ) (first now next : Given) (w : Showing) (i : Image) (start : State) (taken : ℕ) (f : FeedState) (p q : Place) (m v : AtWork) → q ≡ p → v ≡ m → Puts now next [] →
    HasCome files name first now w i start taken f p.line p.event m.state → HasCome files name first next w i start taken f q.line q.event v.state
held_played files name first now next w i start taken f p q m v same_place same_machine on h =
    subst (λ (x : Place). HasCome files name first next w i start taken f x.line x.event v.state) (sym same_place)
    (subst (λ (x : AtWork). HasCome files name first next w i start taken f p.line p.event x.state) (sym same_machine)
    (more_played files name first now next w i start taken f f p.line p.event m.state p.line p.event m.state refl (record { text = []; prints = on; goes_on = λ rest may. refl; takes = λ _. takes_nothing f.ahead w i p.line p.event m.state }) h))

-- what is true of the bytes that came, whatever may follow, is true of the file's
pub of_come : (files : Option Files) (name : List ℕ) (P : List ℕ → Type 0) → OfFile files name (λ t. length t ≤ MAX_EVENT_TEXT) → (came : List ℕ) (taken : ℕ) (f : FeedState) → length came ≡ taken → taken ≤ MAX_EVENT_TEXT →
    ((bytes : List ℕ) → Holds files name bytes → came ≡ take taken bytes) → (f.finished ≡ true → (bytes : List ℕ) → Holds files name bytes → length bytes ≤ taken) →
    ((rest : List ℕ) → MayFollow f rest → P (came ++ rest)) → OfFile files name (λ t. (length t ≤ MAX_EVENT_TEXT) × P t)
of_come None name P text came taken f size within held last p = (came ++ [], tt, (omega (arith, ap length (append-nil came), size, within), p [] (λ e. refl)))
of_come (Some files) name P (bytes, holds, short) came taken f size within held last p =
    let whole : came ++ drop taken bytes ≡ bytes = ap (λ (xs : List ℕ). xs ++ drop taken bytes) (held bytes holds) ∙ take-append-drop taken bytes in
    (bytes, holds, (short, subst P whole (p (drop taken bytes) (λ e. drop_all taken bytes (last e bytes holds)))))

module _ (files : Option Files) (name : List ℕ) (first now next : Given) (w : Showing) (i : Image) (start : State) (taken : ℕ) (f : FeedState) (k n : ℕ) (s : State)
    (text : OfFile files name (λ t. length t ≤ MAX_EVENT_TEXT)) (within : taken ≤ MAX_EVENT_TEXT) (last : f.finished ≡ true → (bytes : List ℕ) → Holds files name bytes → length bytes ≤ taken) (h : HasCome files name first now w i start taken f k n s) where
  -- the play ends with an answer to the lines that are ahead, whatever follows
  pub ends_there : (r : Result (Unit {0}) Stop) → ((rest : List ℕ) → MayFollow f rest → HeldAnswers now next (plays_fed w i f rest k n s) r) →
      OfFile files name (λ t. (length t ≤ MAX_EVENT_TEXT) × HeldAnswers first next (plays w i (numbered_lines t) 1 start) r)
  ends_there r answers =
      of_come files name (λ t. HeldAnswers first next (plays w i (numbered_lines t) 1 start) r) text h.came taken f h.size within h.held last
      (λ rest may. came_to_end first now next (plays w i (numbered_lines (h.came ++ rest)) 1 start) w i (enumerate_from k (text_lines (f.ahead ++ rest))) n s r (answers rest may)
      (record { text = h.text; prints = h.prints; rest = h.goes_on rest may }))

  -- a read failed behind the bytes that came, and all that was due of them was put
  pub stops_there : (reads reads_after : ℕ → ℕ) → f.finished ≡ false → HasNoEnd f.ahead → Rose (reads taken) (reads_after taken) →
      OfFile files name (λ t. (length t ≤ MAX_EVENT_TEXT) × StopsBehind reads reads_after (Puts first now) (λ t. plays w i (numbered_lines t) 1 start) t)
  stops_there reads reads_after going none rose =
      of_come files name (λ t. StopsBehind reads reads_after (Puts first now) (λ t. plays w i (numbered_lines t) 1 start) t) text h.came taken f h.size within h.held last
      (λ rest may.
      let t = h.takes going in
      let alone : plays w i (numbered_lines t.lines) 1 start ≡ printing h.text (plays w i [] n s) = ap (λ (xs : List ℕ). plays w i (numbered_lines xs) 1 start) (sym (append-nil t.lines)) ∙ t.alone [] in
      let due : (plays w i (numbered_lines t.lines) 1 start).text ≡ h.text = ap (λ (p : Played). p.text) alone ∙ append-nil h.text in
      record {
        lines = t.lines;
        begun = f.ahead;
        rest = rest;
        parts = ap (λ (xs : List ℕ). xs ++ rest) t.parts;
        ended = t.ended;
        no_more = none;
        unread = subst (λ (m : ℕ). Rose (reads m) (reads_after m)) (sym h.size ∙ ap length t.parts) rose;
        prints = subst (Puts first now) (sym due) h.prints;
        back = (plays_fed w i f rest k n s).text;
        prefix = ap (λ (p : Played). p.text) (h.goes_on rest may) ∙ ap (λ (xs : List ℕ). xs ++ (plays_fed w i f rest k n s).text) (sym due);
      })

  -- the text is at its end, and nothing is ahead
  pub ends_with_text : f.finished ≡ true → f.ahead ≡ [] → OfFile files name (λ t. (length t ≤ MAX_EVENT_TEXT) × HeldAnswers first now (plays w i (numbered_lines t) 1 start) (Ok tt))
  ends_with_text done none =
      of_come files name (λ t. HeldAnswers first now (plays w i (numbered_lines t) 1 start) (Ok tt)) text h.came taken f h.size within h.held last
      (λ rest may.
      let all : plays w i (numbered_lines (h.came ++ rest)) 1 start ≡ printing h.text (plays w i [] n s) =
      h.goes_on rest may ∙ ap (λ (xs : List ℕ). printing h.text (plays w i (enumerate_from k (text_lines xs)) n s)) (ap (λ (xs : List ℕ). xs ++ rest) none ∙ may done) in
      inl (
        sym (ap (λ (p : Played). p.end) all),
        subst (Puts first now) (sym (append-nil h.text) ∙ sym (ap (λ (p : Played). p.text) all)) h.prints,
      ))

-- a text is printed first, and then a play is read
pub read_behind : (files : Option Files) (events : List ℕ) (reads reads_after : ℕ → ℕ) (first now next : Given) (text : List ℕ) (p : List ℕ → Played) (r : Result (Unit {0}) Stop) → Puts first now text →
    HeldReadAnswers files events reads reads_after now next p r → HeldReadAnswers files events reads reads_after first next (λ t. printing text (p t)) r
read_behind files events reads reads_after first now next text p r e (inl h) =
    inl (h.0, of_map files events _ _ (λ t x. (x.0, printed_first first now next text (p t) r e x.1)) h.1)
read_behind files events reads reads_after first now next text p r e (inr h) =
    inr (h.0, h.1, of_map files events _ _ (λ t x. (x.0, stops_later x.1)) h.2)
  where
    stops_later : {t : List ℕ} → StopsBehind reads reads_after (Puts now next) p t → StopsBehind reads reads_after (Puts first next) (λ t. printing text (p t)) t
    stops_later s = record {
      lines = s.lines;
      begun = s.begun;
      rest = s.rest;
      parts = s.parts;
      ended = s.ended;
      no_more = s.no_more;
      unread = s.unread;
      prints = puts_both first now next text (p s.lines).text e s.prints;
      back = s.back;
      prefix = ap (λ (xs : List ℕ). text ++ xs) s.prefix ∙ sym (append_assoc text (p s.lines).text s.back);
    }
