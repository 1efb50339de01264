-- What a watch makes of the lines that come out of a feed is what it makes of the record's lines.
use Rattle.std.proofs.Common.{◌≡◌, ℕ, ◌+◌, ◌<◌, ◌≤◌, Bool, true, false, cond, ltb, List, [], ◌∷◌, ◌++◌, length, take, Option, Some, None, Ok, Err, refl, sym, ◌∙◌, ap, append_assoc, arith}
use Rattle.std.specs.{List.{enumerate_from}, declared.result.Result.{Result}}
use Rattle.std.proofs.{lemmas.{Bool.{ltb-true}, List.{length-append, length-take-le}}, Math.Seq.{take-add}}
use Rattle.osek_values.specs.declared.limits.TheConstants.{MAX_RECORD}
use Rattle.osek_standard.specs.declared.app.App.{App}
use Rattle.trace_text.specs.{declared.{fault.PointFault.TheVariants.{G3}, feed.FeedStep.TheVariants.{Line}}, EventText.{text_lines, numbered_lines}, PointWords.{read_point_line}}
use Rattle.trace_text.specs.Feeds.{FeedState, no_bytes, next_answer, after_next, lines_to_long}
use Rattle.trace_text.proofs.{FeedLaws.{line_is_first}, PointAnswers.{read}}
use Rattle.flow_watch.specs.{declared.alarm.Alarm.{Alarm}, Watches.{WatchState}}
use Rattle.osek_io.specs.Files.{Files, Holds}
use Rattle.command_runs.specs.{Inputs.{OfFile, ReadsOn}, Playing.{Played, MayFollow}, declared.stop.Stop.{Stop}}
use Rattle.command_runs.proofs.FedPlays.{of_come}
use Rattle.commands.specs.WatchedLines.{AnswersFed, AnswersPoint, end_of_watch, watched, watched_fed, watched_line}

too_long : (app : App) (line : List ℕ) → 256 < length line → read_point_line app line ≡ Err G3
too_long app line h = read app line (Err G3) h

-- nothing is seen behind a line that is too long
to_long : (k : ℕ) (lines : List (List ℕ)) (w : WatchState) → watched (enumerate_from k (lines_to_long lines)) w ≡ watched (enumerate_from k lines) w
to_long k [] w = refl
to_long k (line ∷ more) w = by_length (ltb 256 (length line)) refl (to_long (k + 1) more)
  where
    by_length : (b : Bool) → ltb 256 (length line) ≡ b → ((v : WatchState) → watched (enumerate_from (k + 1) (lines_to_long more)) v ≡ watched (enumerate_from (k + 1) more) v) →
        watched (enumerate_from k (cond b (take 257 line ∷ []) (line ∷ lines_to_long more))) w ≡ watched (enumerate_from k (line ∷ more)) w
    by_length true e later =
        let many : 256 < length line = ltb-true 256 (length line) e in
        let size : length (take 257 line) ≡ 257 = length-take-le 257 line (omega (arith, many)) in
        ap (watched_line w k (watched [])) (too_long w.app (take 257 line) (omega (arith, size))) ∙ sym (ap (watched_line w k (watched (enumerate_from (k + 1) more))) (too_long w.app line many))
    by_length false e later =
        let same : ◌≡◌ {A = WatchState → Played} (watched (enumerate_from (k + 1) (lines_to_long more))) (watched (enumerate_from (k + 1) more)) = (λ j v. later v j) in
        ap (λ (rest : WatchState → Played). watched_line w k rest (read_point_line w.app line)) same

-- the lines behind the one that came out
abbrev behind : FeedState → (rest : List ℕ) → ℕ → List (ℕ × List ℕ)
behind f rest k = enumerate_from (k + 1) (text_lines ((after_next f).ahead ++ rest))

-- the line that came out is seen, and then those behind it
line_fed : (f : FeedState) (rest : List ℕ) (k : ℕ) (w : WatchState) (line : List ℕ) → MayFollow f rest → next_answer f ≡ Line → line ≡ (after_next f).line →
    watched_fed f rest k w ≡ watched ((k, line) ∷ behind f rest k) w
line_fed f rest k w line may is same =
    sym (to_long k (text_lines (f.ahead ++ rest)) w) ∙ ap (λ (ls : List (List ℕ)). watched (enumerate_from k ls) w) (line_is_first f rest may is)
    ∙ to_long k ((after_next f).line ∷ text_lines ((after_next f).ahead ++ rest)) w
    ∙ ap (λ (l : List ℕ). watched ((k, l) ∷ behind f rest k) w) (sym same)

-- the watch went on from one feed and line to another ones
abbrev pub GoesOn : (f g : FeedState) → (k l : ℕ) → (w v : WatchState) → Type 0
GoesOn f g k l w v = (rest : List ℕ) → MayFollow f rest → watched_fed f rest k w ≡ watched_fed g rest l v

-- a line more
pub one_line_on : (f g : FeedState) (k l : ℕ) (w v u : WatchState) (line : List ℕ) → g.finished ≡ f.finished → next_answer g ≡ Line → line ≡ (after_next g).line →
    ((more : WatchState → Played) → watched_line v l more (read_point_line v.app line) ≡ more u) → GoesOn f g k l w v → GoesOn f (after_next g) k (l + 1) w u
one_line_on f g k l w v u line done is same goes on = λ rest may. on rest may ∙ line_fed g rest l v line (λ e. may (sym done ∙ e)) is same ∙ goes (watched (behind g rest l))

-- a line at which the watch ends
line_ends_on : (f g : FeedState) (k l : ℕ) (w v : WatchState) (line : List ℕ) (end : Played) → g.finished ≡ f.finished → next_answer g ≡ Line → line ≡ (after_next g).line →
    ((more : WatchState → Played) → watched_line v l more (read_point_line v.app line) ≡ end) → GoesOn f g k l w v → (rest : List ℕ) → MayFollow f rest → watched_fed f rest k w ≡ end
line_ends_on f g k l w v line end done is same ends on rest may = on rest may ∙ line_fed g rest l v line (λ e. may (sym done ∙ e)) is same ∙ ends (watched (behind g rest l))

-- a line at which the watch ends, by what is answered to it
pub ends_fed : (f g h : FeedState) (k l m : ℕ) (w v u : WatchState) (line : List ℕ) (r : Result (Option Alarm) Stop) → (r ≡ Ok None → ⊥) → g.finished ≡ f.finished → next_answer g ≡ Line → line ≡ (after_next g).line →
    AnswersPoint (λ more. watched_line v l more (read_point_line v.app line)) u r → GoesOn f g k l w v → AnswersFed f h k m w u r
ends_fed f g h k l m w v u line (Ok None) ends done is same answers on = absurd (ends refl)
ends_fed f g h k l m w v u line (Ok (Some a)) ends done is same answers on = line_ends_on f g k l w v line (end_of_watch u (Ok (Some a))) done is same answers on
ends_fed f g h k l m w v u line (Err s) ends done is same answers on = line_ends_on f g k l w v line (end_of_watch u (Err s)) done is same answers on

-- which bytes of a file came, and how far the watch has come
pub record HasSeen (files : Option Files) (name : List ℕ) (w : WatchState) (taken : ℕ) (f : FeedState) (k : ℕ) (v : WatchState) : Type 0 where
  pub came : List ℕ
  pub size : length came ≡ taken
  pub held : (bytes : List ℕ) → Holds files name bytes → came ≡ take taken bytes
  pub goes_on : (rest : List ℕ) → MayFollow f rest → watched (numbered_lines (came ++ rest)) w ≡ watched_fed f rest k v

-- nothing came yet
pub none_came : (files : Option Files) (name : List ℕ) (w : WatchState) (f : FeedState) (k : ℕ) → f ≡ no_bytes → k ≡ 1 → HasSeen files name w 0 f k w
none_came files name w f k empty first = record {
  came = [];
  size = refl;
  held = λ bytes holds. refl;
  goes_on = λ rest may. ap (λ (g : FeedState). watched (enumerate_from 1 (text_lines (g.ahead ++ rest))) w) (sym empty) ∙ ap (λ (n : ℕ). watched_fed f rest n w) (sym first);
}

-- more bytes came, or none
pub more_came : (files : Option Files) (name : List ℕ) (w : WatchState) (taken c : ℕ) (f g : FeedState) (k : ℕ) (v : WatchState) → f.finished ≡ false → ReadsOn files name taken f.ahead g.ahead c →
    HasSeen files name w taken f k v → HasSeen files name w (taken + c) g k v
more_came files name w taken c f g k v open_yet r h = record {
  came = h.came ++ r.more;
  size = length-append h.came r.more ∙ ap (λ (x : ℕ). x + length r.more) h.size ∙ ap (λ (x : ℕ). taken + x) (sym r.count);
  held = λ bytes holds. ap (λ (xs : List ℕ). xs ++ r.more) (h.held bytes holds) ∙ ap (λ (xs : List ℕ). take taken bytes ++ xs) (r.held bytes holds) ∙ sym (take-add taken c bytes);
  goes_on = λ rest may. ap (λ (xs : List ℕ). watched (numbered_lines xs) w) (append_assoc h.came r.more rest) ∙ h.goes_on (r.more ++ rest) (λ e. absurd (cc (open_yet, e)))
      ∙ ap (λ (xs : List ℕ). watched (enumerate_from k (text_lines xs)) v) (sym (append_assoc f.ahead r.more rest) ∙ ap (λ (xs : List ℕ). xs ++ rest) (sym r.joins));
}

-- the lines that are ahead were seen
pub more_seen : (files : Option Files) (name : List ℕ) (w : WatchState) (taken : ℕ) (f g : FeedState) (k l : ℕ) (v u : WatchState) → g.finished ≡ f.finished → GoesOn f g k l v u →
    HasSeen files name w taken f k v → HasSeen files name w taken g l u
more_seen files name w taken f g k l v u done on h = record {
  came = h.came;
  size = h.size;
  held = h.held;
  goes_on = λ rest may. h.goes_on rest (λ e. may (done ∙ e)) ∙ on rest (λ e. may (done ∙ e));
}

-- the watch ends at the lines that are ahead, whatever follows
ends_there : (files : Option Files) (name : List ℕ) (w : WatchState) (taken : ℕ) (f : FeedState) (k : ℕ) (v : WatchState) (end : Played) → OfFile files name (λ t. length t ≤ MAX_RECORD) → taken ≤ MAX_RECORD →
    (f.finished ≡ true → (bytes : List ℕ) → Holds files name bytes → length bytes ≤ taken) → HasSeen files name w taken f k v → ((rest : List ℕ) → MayFollow f rest → watched_fed f rest k v ≡ end) →
    OfFile files name (λ t. (length t ≤ MAX_RECORD) × (watched (numbered_lines t) w ≡ end))
ends_there files name w taken f k v end text within last h ends =
    of_come files name (λ t. watched (numbered_lines t) w ≡ end) text h.came taken f h.size within h.held last (λ rest may. h.goes_on rest may ∙ ends rest may)

-- nothing is ahead, and nothing follows
at_its_end : (f : FeedState) (k : ℕ) (v : WatchState) → f.finished ≡ true → f.ahead ≡ [] → (rest : List ℕ) → MayFollow f rest → watched_fed f rest k v ≡ end_of_watch v (Ok None)
at_its_end f k v done none rest may = ap (λ (xs : List ℕ). watched (enumerate_from k (text_lines xs)) v) (ap (λ (xs : List ℕ). xs ++ rest) none ∙ may done)

-- the watch ends at the lines that are ahead, or behind them where the record has come
pub record_ends : (files : Option Files) (name : List ℕ) (w : WatchState) (taken : ℕ) (f g : FeedState) (k l : ℕ) (v u : WatchState) → OfFile files name (λ t. length t ≤ MAX_RECORD) → taken ≤ MAX_RECORD →
    (f.finished ≡ true → (bytes : List ℕ) → Holds files name bytes → length bytes ≤ taken) → g.finished ≡ f.finished → HasSeen files name w taken f k v → (r : Result (Option Alarm) Stop) → AnswersFed f g k l v u r →
    (r ≡ Ok None → (g.finished ≡ true) × (g.ahead ≡ [])) → OfFile files name (λ t. (length t ≤ MAX_RECORD) × (watched (numbered_lines t) w ≡ end_of_watch u r))
record_ends files name w taken f g k l v u text within last done h (Ok None) fed ended =
    let e = ended refl in
    ends_there files name w taken g l u (end_of_watch u (Ok None)) text within (λ d. last (sym done ∙ d)) (more_seen files name w taken f g k l v u done fed h) (at_its_end g l u e.0 e.1)
record_ends files name w taken f g k l v u text within last done h (Ok (Some a)) fed ended = ends_there files name w taken f k v (end_of_watch u (Ok (Some a))) text within last h fed
record_ends files name w taken f g k l v u text within last done h (Err s) fed ended = ends_there files name w taken f k v (end_of_watch u (Err s)) text within last h fed
