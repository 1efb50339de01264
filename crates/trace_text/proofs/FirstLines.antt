-- The first line of a text, from its first bytes.
use Rattle.std.proofs.Common.{◌≡◌, ℕ, ◌+◌, ◌<◌, ◌≤◌, Bool, true, false, cond, List, [], ◌∷◌, ◌++◌, length, take, drop, get_or, Option, Some, None, IfSome, refl, sym, ◌∙◌, ap, arith, inl, inr}
use Rattle.std.specs.{List.{position, position_or_len}, Str.Lines.{strip_carriage_return}}
use Rattle.std.proofs.lemmas.Bool.{lt-ltb, le-ltb, cases_lt}
use Rattle.std.proofs.lemmas.List.{append-nil, drop-append-le, get_or-take, get_or_append_left, length-append, length-take, length-take-le, take-append-le, take-take, take_all}
use Rattle.std.proofs.lemmas.List.{Quantifiers.{position-Some}, Sums.{fails_before_first}}
use Rattle.trace_text.specs.{EventText.{ended_line, text_lines}, Feeds.{lines_to_long}}
use Rattle.trace_text.proofs.{EventLaws.{position_is}, LineLaws.{is_lf, line_before_lf, line_without_lf}, Parts.{none_found}}

-- an element of a prefix stands there with more behind it too
in_front : (w j : ℕ) (xs more : List ℕ) → j < w → j < length xs → get_or (xs ++ more) j 0 ≡ get_or (take w xs) j 0
in_front w j xs more small within = get_or_append_left xs more 0 j within ∙ sym (get_or-take w xs j 0 small)

-- the first place in a prefix is the first one of all
pub front_place : (p : ℕ → Bool) (w k : ℕ) (xs more : List ℕ) → position p (take w xs) ≡ Some k → (k < w) × (k < length xs) × (position p (xs ++ more) ≡ Some k)
front_place p w k xs more e =
    let at = position-Some p (take w xs) k 0 e in
    let size = length-take w xs in
    let below : k < length (take w xs) = at.0 in
    let small : k < w = omega (arith, below, size) in
    let within : k < length xs = omega (arith, below, size) in (
      small,
      within,
      position_is p (xs ++ more) k 0 (omega (arith, within, length-append xs more))
          (λ j before. ap p (in_front w j xs more (omega (arith, before, small)) (omega (arith, before, within))) ∙ at.2 j before)
          (ap p (in_front w k xs more small within) ∙ at.1),
    )

-- a first place that isn't in a prefix is behind it
place_behind : (p : ℕ → Bool) (w k : ℕ) (xs more : List ℕ) → w ≤ length xs → position p (take w xs) ≡ None → position p (xs ++ more) ≡ Some k → w ≤ k
place_behind p w k xs more le none e =
    let at = position-Some p (xs ++ more) k 0 e in
    let size : length (take w xs) ≡ w = length-take-le w xs le in
    let nowhere : position_or_len p (take w xs) ≡ length (take w xs) = none_found p (take w xs) none in
    elim (cases_lt k w) [
      | inl small ↦
          let passes : p (get_or (take w xs) k 0) ≡ true = ap p (sym (in_front w k xs more small (omega (arith, small, le)))) ∙ at.1 in
          let fails : p (get_or (take w xs) k 0) ≡ false = fails_before_first p (take w xs) k 0 (omega (arith, small, size, nowhere)) in
          absurd (cc)
      | inr behind ↦ behind
    ]

ended_short : (line : List ℕ) → length line ≤ 256 → ended_line line ≡ strip_carriage_return line
ended_short line h = ap (λ b. cond b line (strip_carriage_return line)) (le-ltb 256 (length line) h)

ended_long : (line : List ℕ) → 256 < length line → ended_line line ≡ line
ended_long line h = ap (λ b. cond b line (strip_carriage_return line)) (lt-ltb 256 (length line) h)

-- nothing comes behind a line that is too long
pub long_first : (w : ℕ) (line : List ℕ) (more : List (List ℕ)) → w ≡ 257 → 256 < length line → lines_to_long (line ∷ more) ≡ take w line ∷ []
long_first w line more is h = ap (λ b. cond b (take 257 line ∷ []) (line ∷ lines_to_long more)) (lt-ltb 256 (length line) h) ∙ ap (λ n. take n line ∷ []) (sym is)

-- an LF stands among the first bytes
pub short_line : (w k : ℕ) (xs rest : List ℕ) → w ≡ 257 → position is_lf (take w xs) ≡ Some k →
    text_lines (xs ++ rest) ≡ strip_carriage_return (take k xs) ∷ text_lines (drop (k + 1) xs ++ rest)
short_line w k xs rest is e =
    let at = front_place is_lf w k xs rest e in
    let small : k < w = at.0 in
    let within : k < length xs = at.1 in
    let size : length (take k xs) ≡ k = length-take-le k xs (omega (arith, within)) in
    let line : ended_line (take k (xs ++ rest)) ≡ strip_carriage_return (take k xs) =
    ap ended_line (take-append-le k xs rest (omega (arith, within))) ∙ ended_short (take k xs) (omega (arith, size, small, is)) in
    line_before_lf (xs ++ rest) k at.2 ∙ ap (λ l. l ∷ text_lines (drop (k + 1) (xs ++ rest))) line
    ∙ ap (λ t. strip_carriage_return (take k xs) ∷ text_lines t) (drop-append-le (k + 1) xs rest (omega (arith, within)))

-- no LF stands among the first bytes, and they are too many
pub long_line : (w : ℕ) (xs rest : List ℕ) → w ≡ 257 → 256 < length xs → position is_lf (take w xs) ≡ None → lines_to_long (text_lines (xs ++ rest)) ≡ take w xs ∷ []
long_line w xs rest is h none = by_place (position is_lf (xs ++ rest)) refl
  where
    more : length (xs ++ rest) ≡ length xs + length rest
    more = length-append xs rest

    prefix : take w (xs ++ rest) ≡ take w xs
    prefix = take-append-le w xs rest (omega (arith, is, h))

    by_place : (o : Option ℕ) → position is_lf (xs ++ rest) ≡ o → lines_to_long (text_lines (xs ++ rest)) ≡ take w xs ∷ []
    by_place (Some k) e =
        let behind : w ≤ k = place_behind is_lf w k xs rest (omega (arith, is, h)) none e in
        let at = position-Some is_lf (xs ++ rest) k 0 e in
        let size : length (take k (xs ++ rest)) ≡ k = length-take-le k (xs ++ rest) (omega (arith, at.0)) in
        let tail = text_lines (drop (k + 1) (xs ++ rest)) in
        ap lines_to_long (line_before_lf (xs ++ rest) k e) ∙ ap (λ l. lines_to_long (l ∷ tail)) (ended_long (take k (xs ++ rest)) (omega (arith, size, behind, is)))
        ∙ long_first w (take k (xs ++ rest)) tail is (omega (arith, size, behind, is)) ∙ ap (λ l. l ∷ []) (take-take w k (xs ++ rest) behind ∙ prefix)
    by_place None e =
        ap lines_to_long (line_without_lf (xs ++ rest) e (omega (arith, more, h))) ∙ long_first w (xs ++ rest) [] is (omega (arith, more, h)) ∙ ap (λ l. l ∷ []) prefix

-- the last bytes of a text have no LF
pub last_line : (w : ℕ) (xs : List ℕ) → w ≡ 257 → length xs ≤ 256 → 0 < length xs → position is_lf (take w xs) ≡ None → text_lines (xs ++ []) ≡ xs ∷ text_lines []
last_line w xs is short some none =
    ap text_lines (append-nil xs) ∙ line_without_lf xs (ap (position is_lf) (sym (take_all w xs (omega (arith, is, short)))) ∙ none) some

-- a place in a prefix is a place of all
pub place_within : (w : ℕ) (xs : List ℕ) (o : Option ℕ) → o ≡ position is_lf (take w xs) → IfSome o (λ k. k < length xs)
place_within w xs None e = tt
place_within w xs (Some k) e = (front_place is_lf w k xs [] (sym e)).1
