-- The lines that come out of a feed are those of its text, however it is cut.
use Rattle.std.proofs.Common.{◌≡◌, ℕ, ◌+◌, ◌-◌, ◌<◌, ◌≤◌, Bool, true, false, cond, ◌&&◌, ltb, min, List, [], ◌∷◌, ◌++◌, length, take, drop, Option, Some, None, Err, Result, refl, sym, ◌∙◌, ap, subst, arith, append_assoc}
use Rattle.std.specs.List.{position, enumerate_from}
use Rattle.std.proofs.lemmas.{Bool.{lt-ltb, ltb-true, ltb-false}, List.{drop_all, length-drop, length-take, length-take-le, take-append-drop, take-take}}
use Rattle.osek_values.specs.declared.event.Event.{Event}
use Rattle.osek_standard.specs.declared.app.App.{App}
use Rattle.trace_text.specs.{declared.{fault.EventFault.{EventFault, TheVariants.{E3}}, feed.FeedStep.TheVariants.{Line, End, More}}, EventWords.{read_line, said, words}}
use Rattle.trace_text.specs.declared.feed.TheConstants.{FEED_ROOM}
use Rattle.trace_text.specs.EventText.{text_lines, with_line, read_lines, nothing_read, numbered_lines}
use Rattle.trace_text.specs.Feeds.{FeedState, no_bytes, taken_count, after_give, Peeled, peeled_at, peeled, answer_by, next_answer, left_by, after_next, ComesOut, gives, finishes, waits, a_line, ends, lines_to_long}
use Rattle.trace_text.proofs.{FirstLines.{front_place, long_first, short_line, long_line, last_line}, LineLaws.{is_lf}}

-- what is known of the text, where this line is peeled, or none
abbrev IsPeeled : (finished : Bool) (ahead rest : List ℕ) → Option Peeled → Type 0
IsPeeled finished ahead rest (Some p) = lines_to_long (text_lines (ahead ++ rest)) ≡ lines_to_long (p.line ∷ text_lines (p.rest ++ rest))
IsPeeled finished ahead rest None = (length ahead ≤ 256) × (finished ≡ true → ahead ≡ [])

empty_or_some : (xs : List ℕ) → ltb 0 (length xs) ≡ false → xs ≡ []
empty_or_some [] h = refl
empty_or_some (x ∷ xs) h = let none : length (x ∷ xs) ≤ 0 = ltb-false 0 (length (x ∷ xs)) h in absurd (omega (arith, none))

pub both_true : (a b : Bool) → (a && b) ≡ true → (a ≡ true) × (b ≡ true)
both_true true b h = (refl, h)
both_true false b h = absurd (cc)

not_both : (a b : Bool) → (a && b) ≡ false → a ≡ true → b ≡ false
not_both true b h e = h
not_both false b h e = absurd (cc)

peels_whole : (w : ℕ) (finished : Bool) (ahead rest : List ℕ) → w ≡ 257 → (finished ≡ true → rest ≡ []) → position is_lf (take w ahead) ≡ None → (long last : Bool) → ltb 256 (length ahead) ≡ long → (finished && ltb 0 (length ahead)) ≡ last →
    IsPeeled finished ahead rest (cond long (Some (record { line = take w ahead; rest = drop w ahead })) (cond last (Some (record { line = ahead; rest = [] })) None))
peels_whole w finished ahead rest is last_of none true last l e =
    let many : 256 < length ahead = ltb-true 256 (length ahead) l in
    let size : length (take w ahead) ≡ w = length-take-le w ahead (omega (arith, is, many)) in
    long_line w ahead rest is many none ∙ ap (λ l. l ∷ []) (sym (take-take w w ahead (omega arith)))
    ∙ sym (long_first w (take w ahead) (text_lines (drop w ahead ++ rest)) is (omega (arith, size, is)))
peels_whole w finished ahead rest is last_of none false true l e =
    let few : length ahead ≤ 256 = ltb-false 256 (length ahead) l in
    let both = both_true finished (ltb 0 (length ahead)) e in
    let nothing : rest ≡ [] = last_of both.0 in
    subst (λ (r : List ℕ). lines_to_long (text_lines (ahead ++ r)) ≡ lines_to_long (ahead ∷ text_lines r)) (sym nothing)
    (ap lines_to_long (last_line w ahead is few (ltb-true 0 (length ahead) both.1) none))
peels_whole w finished ahead rest is last_of none false false l e =
    (ltb-false 256 (length ahead) l, λ done. empty_or_some ahead (not_both finished (ltb 0 (length ahead)) e done))

peels : (finished : Bool) (ahead rest : List ℕ) → (finished ≡ true → rest ≡ []) → IsPeeled finished ahead rest (peeled finished ahead)
peels finished ahead rest last_of = by_place (position is_lf (take 257 ahead)) refl
  where
    by_place : (o : Option ℕ) → position is_lf (take 257 ahead) ≡ o → IsPeeled finished ahead rest (peeled_at finished ahead o)
    by_place (Some k) e = ap lines_to_long (short_line 257 k ahead rest refl e)
    by_place None e = peels_whole 257 finished ahead rest refl last_of e (ltb 256 (length ahead)) (finished && ltb 0 (length ahead)) refl refl

pub no_line : (finished : Bool) → answer_by finished None ≡ Line → ⊥
no_line true e = cc
no_line false e = cc

finished_then : (finished : Bool) (o : Option Peeled) (ahead : List ℕ) → IsPeeled finished ahead [] o → answer_by finished o ≡ End → (finished ≡ true) × (ahead ≡ [])
finished_then finished (Some p) ahead h e = absurd (cc)
finished_then true None ahead h e = (refl, h.1 refl)
finished_then false None ahead h e = absurd (cc)

not_finished_then : (finished : Bool) (o : Option Peeled) (ahead rest : List ℕ) → IsPeeled finished ahead rest o → answer_by finished o ≡ More → (finished ≡ false) × (length ahead ≤ 256)
not_finished_then finished (Some p) ahead rest h e = absurd (cc)
not_finished_then true None ahead rest h e = absurd (cc)
not_finished_then false None ahead rest h e = (refl, h.0)

line_by : (s : FeedState) (rest : List ℕ) (o : Option Peeled) → IsPeeled s.finished s.ahead rest o → answer_by s.finished o ≡ Line →
    lines_to_long (text_lines (s.ahead ++ rest)) ≡ lines_to_long ((left_by s o).line ∷ text_lines ((left_by s o).ahead ++ rest))
line_by s rest (Some p) h e = h
line_by s rest None h e = absurd (no_line s.finished e)

-- a line that comes out is the first of those that are to come
pub line_is_first : (s : FeedState) (rest : List ℕ) → (s.finished ≡ true → rest ≡ []) → next_answer s ≡ Line →
    lines_to_long (text_lines (s.ahead ++ rest)) ≡ lines_to_long ((after_next s).line ∷ text_lines ((after_next s).ahead ++ rest))
line_is_first s rest last_of e = line_by s rest (peeled s.finished s.ahead) (peels s.finished s.ahead rest last_of) e

pub end_is_last : (s : FeedState) → next_answer s ≡ End → (s.finished ≡ true) × (s.ahead ≡ [])
end_is_last s e = finished_then s.finished (peeled s.finished s.ahead) s.ahead (peels s.finished s.ahead [] (λ _. refl)) e

pub end_of_last : (s : FeedState) → (s.finished ≡ true) × (s.ahead ≡ []) → next_answer s ≡ End
end_of_last s h = ap (λ b. answer_by b (peeled b s.ahead)) h.0 ∙ ap (λ xs. answer_by true (peeled true xs)) h.1

pub more_is_short : (s : FeedState) → next_answer s ≡ More → (s.finished ≡ false) × (length s.ahead ≤ 256)
more_is_short s e = let k = not_finished_then s.finished (peeled s.finished s.ahead) s.ahead in k [] (peels s.finished s.ahead [] (λ _. refl)) e

pub stays_finished : (s : FeedState) (o : Option Peeled) → (left_by s o).finished ≡ s.finished
stays_finished s (Some p) = refl
stays_finished s None = refl

no_line_by : (s : FeedState) (o : Option Peeled) → IsPeeled s.finished s.ahead [] o → (answer_by s.finished o ≡ Line → ⊥) → (length s.ahead ≤ 256) × (s.finished ≡ true → s.ahead ≡ []) × ((left_by s o).ahead ≡ s.ahead)
no_line_by s (Some p) h never = absurd (never refl)
no_line_by s None h never = (h.0, h.1, refl)

-- where no line comes out, few bytes are ahead, or none at the end of the text, and they stay
pub no_line_ahead : (s : FeedState) → (next_answer s ≡ Line → ⊥) → (length s.ahead ≤ 256) × (s.finished ≡ true → s.ahead ≡ []) × ((after_next s).ahead ≡ s.ahead)
no_line_ahead s never = no_line_by s (peeled s.finished s.ahead) (peels s.finished s.ahead [] (λ _. refl)) never

abbrev IsShorter : (ahead : List ℕ) → Option Peeled → Type 0
IsShorter ahead (Some p) = length p.rest < length ahead
IsShorter ahead None = Unit {0}

shorter_whole : (finished : Bool) (ahead : List ℕ) (long last : Bool) → ltb 256 (length ahead) ≡ long → (finished && ltb 0 (length ahead)) ≡ last →
    IsShorter ahead (cond long (Some (record { line = take 257 ahead; rest = drop 257 ahead })) (cond last (Some (record { line = ahead; rest = [] })) None))
shorter_whole finished ahead true last l e = let many : 256 < length ahead = ltb-true 256 (length ahead) l in omega (arith, length-drop 257 ahead, many)
shorter_whole finished ahead false true l e = ltb-true 0 (length ahead) (both_true finished (ltb 0 (length ahead)) e).1
shorter_whole finished ahead false false l e = tt

peels_shorter : (finished : Bool) (ahead : List ℕ) → IsShorter ahead (peeled finished ahead)
peels_shorter finished ahead = by_place (position is_lf (take 257 ahead)) refl
  where
    by_place : (o : Option ℕ) → position is_lf (take 257 ahead) ≡ o → IsShorter ahead (peeled_at finished ahead o)
    by_place (Some k) e =
        let within : k < length ahead = (front_place is_lf 257 k ahead [] e).1 in
        omega (arith, length-drop (k + 1) ahead, within)
    by_place None e = shorter_whole finished ahead (ltb 256 (length ahead)) (finished && ltb 0 (length ahead)) refl refl

shorter_by : (s : FeedState) (o : Option Peeled) → IsShorter s.ahead o → answer_by s.finished o ≡ Line → length (left_by s o).ahead < length s.ahead
shorter_by s (Some p) h e = h
shorter_by s None h e = absurd (no_line s.finished e)

-- a line that comes out takes bytes with it
pub line_shortens : (s : FeedState) → next_answer s ≡ Line → length (after_next s).ahead < length s.ahead
line_shortens s e = shorter_by s (peeled s.finished s.ahead) (peels_shorter s.finished s.ahead) e

pub stays_ahead : (s : FeedState) (o : Option Peeled) → answer_by s.finished o ≡ More → (left_by s o).ahead ≡ s.ahead
stays_ahead s (Some p) e = absurd (cc)
stays_ahead s None e = refl

taken_within : (b : Bool) (a r n : ℕ) → a ≤ n → cond b 0 (min a r) ≤ n
taken_within true a r n h = omega arith
taken_within false a r n h = omega (arith, h)

-- what is given goes from the rest to the bytes ahead
pub given : (s : FeedState) (rest : List ℕ) (n : ℕ) → (after_give s (take n rest)).ahead ++ drop (taken_count s (take n rest)) rest ≡ s.ahead ++ rest
given s rest n =
    let k = taken_count s (take n rest) in
    let le : k ≤ n = taken_within s.finished (length (take n rest)) (FEED_ROOM - length s.ahead) n (omega (arith, length-take n rest)) in
    append_assoc s.ahead (take k (take n rest)) (drop k rest)
    ∙ ap (λ t. s.ahead ++ (t ++ drop k rest)) (take-take k n rest le)
    ∙ ap (λ t. s.ahead ++ t) (take-append-drop k rest)

pub drops_nothing : (k : ℕ) (rest : List ℕ) → rest ≡ [] → drop k rest ≡ []
drops_nothing k rest e = drop_all k rest (omega (arith, ap length e))

behind_a_line : (line : List ℕ) (some others : List (List ℕ)) → lines_to_long some ≡ lines_to_long others → lines_to_long (line ∷ some) ≡ lines_to_long (line ∷ others)
behind_a_line line some others e = ap (λ ls. cond (ltb 256 (length line)) (take 257 line ∷ []) (line ∷ ls)) e

pub comes_out_as_text : {s : FeedState} {rest : List ℕ} {lines : List (List ℕ)} → ComesOut s rest lines → (s.finished ≡ true → rest ≡ []) →
    lines_to_long lines ≡ lines_to_long (text_lines (s.ahead ++ rest))
comes_out_as_text {s} {rest} {lines} (gives n later) last_of =
    comes_out_as_text later (λ done. drops_nothing (taken_count s (take n rest)) rest (last_of done)) ∙ ap (λ t. lines_to_long (text_lines t)) (given s rest n)
comes_out_as_text (finishes later) last_of = comes_out_as_text later (λ _. refl)
comes_out_as_text {s} {rest} {lines} (waits is later) last_of =
    let o = peeled s.finished s.ahead in
    comes_out_as_text later (λ done. last_of (sym (stays_finished s o) ∙ done)) ∙ ap (λ xs. lines_to_long (text_lines (xs ++ rest))) (stays_ahead s o is)
comes_out_as_text {s} {rest} (a_line {lines = more} is later) last_of =
    let o = peeled s.finished s.ahead in
    behind_a_line (after_next s).line more (text_lines ((after_next s).ahead ++ rest)) (comes_out_as_text later (λ done. last_of (sym (stays_finished s o) ∙ done))) ∙ sym (line_is_first s rest last_of is)
comes_out_as_text {s} (ends is) last_of = ap (λ xs. lines_to_long (text_lines (xs ++ []))) (sym (end_is_last s is).1)

-- however a text is cut, the same lines come out
pub same_lines : (text : List ℕ) (lines : List (List ℕ)) → ComesOut no_bytes text lines → lines_to_long lines ≡ lines_to_long (text_lines text)
same_lines text lines h = comes_out_as_text h (λ done. absurd (cc))

abbrev Answer : Type 0
Answer = Result (Option Event) EventFault

-- a line that is too long is faulty, and so are its first bytes
pub too_long : (app : App) (line : List ℕ) → 256 < length line → read_line app line ≡ Err E3
too_long app line h = ap (λ b. cond b (Err E3) (said app (words line))) (lt-ltb 256 (length line) h)

-- nothing is read behind a line that is too long
pub read_to_long : (app : App) (n : ℕ) (lines : List (List ℕ)) → read_lines app (enumerate_from n (lines_to_long lines)) ≡ read_lines app (enumerate_from n lines)
read_to_long app n [] = refl
read_to_long app n (line ∷ more) = by_length (ltb 256 (length line)) refl (read_to_long app (n + 1) more)
  where
    by_length : (b : Bool) → ltb 256 (length line) ≡ b → read_lines app (enumerate_from (n + 1) (lines_to_long more)) ≡ read_lines app (enumerate_from (n + 1) more) →
        read_lines app (enumerate_from n (cond b (take 257 line ∷ []) (line ∷ lines_to_long more))) ≡ read_lines app (enumerate_from n (line ∷ more))
    by_length true e later =
        let many : 256 < length line = ltb-true 256 (length line) e in
        let size : length (take 257 line) ≡ 257 = length-take-le 257 line (omega (arith, many)) in
        ap (λ (r : Answer). with_line n r nothing_read) (too_long app (take 257 line) (omega (arith, size)))
        ∙ sym (ap (λ (r : Answer). with_line n r (read_lines app (enumerate_from (n + 1) more))) (too_long app line many))
    by_length false e later = ap (with_line n (read_line app line)) later

-- however a text is cut, it is read as what it says
pub read_as_text : (app : App) (text : List ℕ) (lines : List (List ℕ)) → ComesOut no_bytes text lines → read_lines app (enumerate_from 1 lines) ≡ read_lines app (numbered_lines text)
read_as_text app text lines h =
    sym (read_to_long app 1 lines) ∙ ap (λ ls. read_lines app (enumerate_from 1 ls)) (same_lines text lines h) ∙ read_to_long app 1 (text_lines text)
