-- The lines that come out of a feed are the same for every cut of its text, also behind one that is too long.
use Rattle.std.proofs.Common.{◌≡◌, ℕ, zero, suc, ◌+◌, ◌<◌, ◌≤◌, Bool, true, false, cond, ◌&&◌, ltb, List, [], ◌∷◌, ◌++◌, length, take, drop, Option, Some, None, refl, sym, ◌∙◌, ap, subst, arith}
use Rattle.std.specs.{List.{position}, Str.Lines.{strip_carriage_return}}
use Rattle.std.proofs.lemmas.{Bool.{lt-ltb, ltb-true}, List.{append-nil, drop-append-le, length-append, length-take, get_or-take, take-append-le, Quantifiers.{position-Some}}}
use Rattle.trace_text.specs.declared.feed.FeedStep.TheVariants.{Line}
use Rattle.trace_text.specs.Feeds.{FeedState, no_bytes, taken_count, Peeled, peeled_at, peeled, answer_by, left_by, after_next, ComesOut, gives, finishes, waits, a_line, ends}
use Rattle.trace_text.proofs.{EventLaws.{position_is}, FeedLaws.{both_true, no_line, given, drops_nothing, stays_finished, stays_ahead, end_is_last, line_shortens}}
use Rattle.trace_text.proofs.{FirstLines.{front_place}, LineLaws.{is_lf}}

-- what is peeled of the bytes ahead is what is peeled of all that is left of the text
abbrev IsOfAll : (ahead rest : List ℕ) → Option Peeled → Type 0
IsOfAll ahead rest (Some p) = peeled true (ahead ++ rest) ≡ Some (record { line = p.line; rest = p.rest ++ rest })
IsOfAll ahead rest None = Unit {0}

-- the first place in a prefix is the first one in the prefix of all
place_of_all : (w k : ℕ) (xs more : List ℕ) → position is_lf (take w xs) ≡ Some k → position is_lf (take w (xs ++ more)) ≡ Some k
place_of_all w k xs more e =
    let first = front_place is_lf w k xs more e in
    let small : k < w = first.0 in
    let at = position-Some is_lf (xs ++ more) k 0 first.2 in
    let within : k < length (xs ++ more) = at.0 in
    position_is is_lf (take w (xs ++ more)) k 0 (omega (arith, small, within, length-take w (xs ++ more)))
    (λ j before. ap is_lf (get_or-take w (xs ++ more) j 0 (omega (arith, before, small))) ∙ at.2 j before)
    (ap is_lf (get_or-take w (xs ++ more) k 0 small) ∙ at.1)

short_of_all : (k : ℕ) (xs more : List ℕ) → k < length xs → position is_lf (take 257 (xs ++ more)) ≡ Some k →
    peeled true (xs ++ more) ≡ Some (record { line = strip_carriage_return (take k xs); rest = drop (k + 1) xs ++ more })
short_of_all k xs more within e =
    let line : take k (xs ++ more) ≡ take k xs = take-append-le k xs more (omega (arith, within)) in
    let tail : drop (k + 1) (xs ++ more) ≡ drop (k + 1) xs ++ more = drop-append-le (k + 1) xs more (omega (arith, within)) in
    ap (peeled_at true (xs ++ more)) e ∙ (λ i. Some (record { line = strip_carriage_return (line i); rest = tail i }))

-- what is peeled where no LF stands among the first bytes
abbrev without_lf : (finished : Bool) (xs : List ℕ) (w : ℕ) (long : Bool) → Option Peeled
without_lf finished xs w long = cond long (Some (record { line = take w xs; rest = drop w xs })) (cond (finished && ltb 0 (length xs)) (Some (record { line = xs; rest = [] })) None)

long_of_all : (w : ℕ) (xs more : List ℕ) → w ≡ 257 → 256 < length xs → position is_lf (take w xs) ≡ None → peeled true (xs ++ more) ≡ Some (record { line = take w xs; rest = drop w xs ++ more })
long_of_all w xs more is many none =
    let le : w ≤ length xs = omega (arith, is, many) in
    let prefix : take w (xs ++ more) ≡ take w xs = take-append-le w xs more le in
    let long : 256 < length (xs ++ more) = omega (arith, many, length-append xs more) in
    let Of : ℕ → Type 0 = λ v. position is_lf (take v (xs ++ more)) ≡ None → peeled true (xs ++ more) ≡ without_lf true (xs ++ more) v true in
    let of_257 : Of 257 = λ e. ap (peeled_at true (xs ++ more)) e ∙ ap (without_lf true (xs ++ more) 257) (lt-ltb 256 (length (xs ++ more)) long) in
    subst Of (sym is) of_257 (ap (position is_lf) prefix ∙ none) ∙ (λ i. Some (record { line = prefix i; rest = drop-append-le w xs more le i }))

whole_of_all : (w : ℕ) (finished : Bool) (xs more : List ℕ) → w ≡ 257 → (finished ≡ true → more ≡ []) → position is_lf (take w xs) ≡ None → (long last : Bool) → ltb 256 (length xs) ≡ long → (finished && ltb 0 (length xs)) ≡ last →
    IsOfAll xs more (cond long (Some (record { line = take w xs; rest = drop w xs })) (cond last (Some (record { line = xs; rest = [] })) None))
whole_of_all w finished xs more is last_of none true last l e = long_of_all w xs more is (ltb-true 256 (length xs) l) none
whole_of_all w finished xs more is last_of none false true l e =
    let both = both_true finished (ltb 0 (length xs)) e in
    let Of : ℕ → Type 0 = λ v. position is_lf (take v xs) ≡ None → peeled true xs ≡ without_lf true xs v false in
    let of_257 : Of 257 = λ h. ap (peeled_at true xs) h ∙ ap (without_lf true xs 257) l in
    let of_xs : peeled true xs ≡ Some (record { line = xs; rest = [] }) = subst Of (sym is) of_257 none ∙ ap (λ b. cond b (Some (record { line = xs; rest = [] })) None) both.1 in
    subst (λ (r : List ℕ). peeled true (xs ++ r) ≡ Some (record { line = xs; rest = r })) (sym (last_of both.0)) (ap (peeled true) (append-nil xs) ∙ of_xs)
whole_of_all w finished xs more is last_of none false false l e = tt

of_all : (finished : Bool) (ahead rest : List ℕ) → (finished ≡ true → rest ≡ []) → IsOfAll ahead rest (peeled finished ahead)
of_all finished ahead rest last_of = by_place (position is_lf (take 257 ahead)) refl
  where
    by_place : (o : Option ℕ) → position is_lf (take 257 ahead) ≡ o → IsOfAll ahead rest (peeled_at finished ahead o)
    by_place (Some k) e = short_of_all k ahead rest (front_place is_lf 257 k ahead rest e).1 (place_of_all 257 k ahead rest e)
    by_place None e = whole_of_all 257 finished ahead rest refl last_of e (ltb 256 (length ahead)) (finished && ltb 0 (length ahead)) refl refl

-- the lines of a text, at most so many
behind : (List ℕ → List (List ℕ)) → Option Peeled → List (List ℕ)
behind lines None = []
behind lines (Some p) = p.line ∷ lines p.rest

fed : ℕ → List ℕ → List (List ℕ)
fed zero text = []
fed (suc n) text = behind (fed n) (peeled true text)

none_of_none : (n : ℕ) → fed n [] ≡ []
unfolding fed behind
none_of_none zero = refl
none_of_none (suc n) = refl

a_line_by : (s : FeedState) (rest : List ℕ) (n : ℕ) (o : Option Peeled) → IsOfAll s.ahead rest o → answer_by s.finished o ≡ Line →
    fed (suc n) (s.ahead ++ rest) ≡ (left_by s o).line ∷ fed n ((left_by s o).ahead ++ rest)
unfolding fed behind
a_line_by s rest n (Some p) h e = ap (behind (fed n)) h
a_line_by s rest n None h e = absurd (no_line s.finished e)

comes_out_fed : {s : FeedState} {rest : List ℕ} {lines : List (List ℕ)} → ComesOut s rest lines → (s.finished ≡ true → rest ≡ []) → (n : ℕ) → length (s.ahead ++ rest) ≤ n →
    lines ≡ fed n (s.ahead ++ rest)
comes_out_fed {s} {rest} (gives k later) last_of n most =
    let same = given s rest k in
    comes_out_fed later (λ done. drops_nothing (taken_count s (take k rest)) rest (last_of done)) n (omega (arith, most, ap length same)) ∙ ap (fed n) same
comes_out_fed (finishes later) last_of n most = comes_out_fed later (λ _. refl) n most
comes_out_fed {s} {rest} (waits is later) last_of n most =
    let o = peeled s.finished s.ahead in
    let same : (after_next s).ahead ++ rest ≡ s.ahead ++ rest = ap (λ xs. xs ++ rest) (stays_ahead s o is) in
    comes_out_fed later (λ done. last_of (sym (stays_finished s o) ∙ done)) n (omega (arith, most, ap length same)) ∙ ap (fed n) same
comes_out_fed {s} {rest} (a_line is later) last_of zero most =
    let fewer = line_shortens s is in absurd (omega (arith, most, fewer, length-append s.ahead rest))
comes_out_fed {s} {rest} (a_line {lines = more} is later) last_of (suc n) most =
    let o = peeled s.finished s.ahead in
    let fewer = line_shortens s is in
    let left : length ((after_next s).ahead ++ rest) ≤ n = omega (arith, most, fewer, length-append s.ahead rest, length-append (after_next s).ahead rest) in
    ap (λ ls. (after_next s).line ∷ ls) (comes_out_fed later (λ done. last_of (sym (stays_finished s o) ∙ done)) n left) ∙ sym (a_line_by s rest n o (of_all s.finished s.ahead rest last_of) is)
comes_out_fed {s} (ends is) last_of n most = sym (none_of_none n) ∙ ap (λ xs. fed n (xs ++ [])) (sym (end_is_last s is).1)

-- one list of lines comes out of a text
pub one_list_of_lines : (text : List ℕ) (lines others : List (List ℕ)) → ComesOut no_bytes text lines → ComesOut no_bytes text others → lines ≡ others
one_list_of_lines text lines others h k =
    comes_out_fed h (λ done. absurd (cc)) (length text) (omega arith) ∙ sym (comes_out_fed k (λ done. absurd (cc)) (length text) (omega arith))
