-- A line that comes out of a feed which isn't finished: it has ended, or is too long.
use Rattle.std.proofs.Common.{◌≡◌, ◌⊎◌, ℕ, suc, ◌+◌, ◌<◌, Bool, true, false, cond, ◌&&◌, ltb, List, [], ◌∷◌, ◌++◌, length, take, drop, get_or, Option, Some, None, refl, sym, ◌∙◌, ap, subst, inl, inr, append_assoc, arith, take-suc, eqb-true}
use Rattle.std.specs.{List.{position}, Str.Lines.{strip_carriage_return}}
use Rattle.std.proofs.lemmas.{Bool.{ltb-true}, List.{append-nil, drop_all, get_or-take, length-take, length-take-le, take-append-drop, take_all, take-take}}
use Rattle.std.proofs.lemmas.List.Quantifiers.{position-Some}
use Rattle.trace_text.specs.{declared.feed.FeedStep.TheVariants.{Line}, EventText.{text_lines}}
use Rattle.trace_text.specs.Feeds.{FeedState, Peeled, peeled, peeled_at, answer_by, next_answer, left_by, after_next}
use Rattle.trace_text.proofs.{EventLaws.{position_is}, FeedLaws.{no_line, no_line_ahead}, FirstLines.{short_line}, LineLaws.{is_lf}}
use Rattle.command_runs.specs.Playing.{HaveEnded, HasNoEnd}

-- what has ended is the same with ended lines before it
pub ended_behind : (a b : List ℕ) → HaveEnded a → HaveEnded b → HaveEnded (a ++ b)
ended_behind a b h (inl none) = subst HaveEnded (sym (ap (λ (xs : List ℕ). a ++ xs) none ∙ append-nil a)) h
ended_behind a b h (inr (before, is)) = inr (a ++ before, ap (λ (xs : List ℕ). a ++ xs) is ∙ sym (append_assoc a before (10 ∷ [])))

-- a line went from the start of the bytes ahead with the LF that ends it
pub record EndsLine (ahead line ahead_after : List ℕ) : Type 0 where
  pub lines : List ℕ
  pub parts : ahead ≡ lines ++ ahead_after
  pub ended : HaveEnded lines
  pub first : (rest : List ℕ) → text_lines (lines ++ rest) ≡ line ∷ text_lines rest

-- the first LF stands at the end of the first line
lf_last : (w k : ℕ) (xs : List ℕ) → w ≡ 257 → position is_lf (take w xs) ≡ Some k → (k < w) × (k < length xs) × (is_lf (get_or xs k 0) ≡ true) × (position is_lf (take (k + 1) xs) ≡ Some k)
lf_last w k xs is e =
    let at = position-Some is_lf (take w xs) k 0 e in
    let size = length-take w xs in
    let below : k < length (take w xs) = at.0 in
    let small : k < w = omega (arith, below, size) in
    let within : k < length xs = omega (arith, below, size) in
    let passes : is_lf (get_or xs k 0) ≡ true = ap is_lf (sym (get_or-take w xs k 0 small)) ∙ at.1 in
    let count : length (take (k + 1) xs) ≡ k + 1 = length-take-le (k + 1) xs (omega (arith, within)) in (
      small,
      within,
      passes,
      position_is is_lf (take (k + 1) xs) k 0 (omega (arith, count))
          (λ j before. ap is_lf (get_or-take (k + 1) xs j 0 (omega (arith, before)) ∙ sym (get_or-take w xs j 0 (omega (arith, before, small)))) ∙ at.2 j before)
          (ap is_lf (get_or-take (k + 1) xs k 0 (omega arith)) ∙ passes),
    )

ended_at : (w k : ℕ) (xs : List ℕ) → w ≡ 257 → position is_lf (take w xs) ≡ Some k → EndsLine xs (strip_carriage_return (take k xs)) (drop (k + 1) xs)
ended_at w k xs is e =
    let h = lf_last w k xs is e in
    let size : length (take (k + 1) xs) ≡ k + 1 = length-take-le (k + 1) xs (omega (arith, h.1)) in
    let next : k + 1 ≡ suc k = omega arith in
    let all : take w (take (k + 1) xs) ≡ take (k + 1) xs = take_all w (take (k + 1) xs) (omega (arith, size, h.0)) in
    record {
      lines = take (k + 1) xs;
      parts = sym (take-append-drop (k + 1) xs);
      ended = inr (take k xs, ap (λ (n : ℕ). take n xs) next ∙ take-suc xs k 0 h.1 ∙ ap (λ (c : ℕ). take k xs ++ c ∷ []) (eqb-true (get_or xs k 0) 10 h.2));
      first = λ rest. short_line w k (take (k + 1) xs) rest is (ap (position is_lf) all ∙ h.3)
          ∙ ap (λ (l : List ℕ). strip_carriage_return l ∷ text_lines (drop (k + 1) (take (k + 1) xs) ++ rest)) (take-take k (k + 1) xs (omega arith))
          ∙ ap (λ (t : List ℕ). strip_carriage_return (take k xs) ∷ text_lines (t ++ rest)) (drop_all (k + 1) (take (k + 1) xs) (omega (arith, size)));
    }

abbrev IsLine : (ahead : List ℕ) → Option Peeled → Type 0
IsLine ahead (Some p) = EndsLine ahead p.line p.rest ⊎ (256 < length p.line)
IsLine ahead None = Unit {0}

whole_line : (finished : Bool) (ahead : List ℕ) → finished ≡ false → (long : Bool) → ltb 256 (length ahead) ≡ long →
    IsLine ahead (cond long (Some (record { line = take 257 ahead; rest = drop 257 ahead })) (cond (finished && ltb 0 (length ahead)) (Some (record { line = ahead; rest = [] })) None))
whole_line true ahead going long l = absurd (cc)
whole_line false ahead going true l =
    let many : 256 < length ahead = ltb-true 256 (length ahead) l in
    let size : length (take 257 ahead) ≡ 257 = length-take-le 257 ahead (omega (arith, many)) in
    inr (omega (arith, size))
whole_line false ahead going false l = tt

is_line : (finished : Bool) (ahead : List ℕ) → finished ≡ false → IsLine ahead (peeled finished ahead)
is_line finished ahead going = by_place (position is_lf (take 257 ahead)) refl
  where
    by_place : (o : Option ℕ) → position is_lf (take 257 ahead) ≡ o → IsLine ahead (peeled_at finished ahead o)
    by_place (Some k) e = inl (ended_at 257 k ahead refl e)
    by_place None e = whole_line finished ahead going (ltb 256 (length ahead)) refl

line_by : (s : FeedState) (o : Option Peeled) → IsLine s.ahead o → answer_by s.finished o ≡ Line → EndsLine s.ahead (left_by s o).line (left_by s o).ahead ⊎ (256 < length (left_by s o).line)
line_by s (Some p) h e = h
line_by s None h e = absurd (no_line s.finished e)

pub line_ends_or_is_long : (s : FeedState) → s.finished ≡ false → next_answer s ≡ Line → EndsLine s.ahead (after_next s).line (after_next s).ahead ⊎ (256 < length (after_next s).line)
line_ends_or_is_long s going e = line_by s (peeled s.finished s.ahead) (is_line s.finished s.ahead going) e

-- where no line comes out, none ends ahead
pub none_ends_ahead : (s : FeedState) → (next_answer s ≡ Line → ⊥) → HasNoEnd s.ahead
none_ends_ahead s never = by_place (position is_lf (take 257 s.ahead)) refl never
  where
    all : take 257 s.ahead ≡ s.ahead
    all = take_all 257 s.ahead (omega (arith, (no_line_ahead s never).0))

    by_place : (o : Option ℕ) → position is_lf (take 257 s.ahead) ≡ o → (answer_by s.finished (peeled_at s.finished s.ahead o) ≡ Line → ⊥) → HasNoEnd s.ahead
    by_place (Some k) e not_line = absurd (not_line refl)
    by_place None e not_line = ap (position is_lf) (sym all) ∙ e
