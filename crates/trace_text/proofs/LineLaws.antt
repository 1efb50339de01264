-- The lines of a text, the first one and the rest.
use Rattle.std.proofs.Common.{◌≡◌, ℕ, ◌+◌, ◌<◌, Bool, ◌==◌, List, [], ◌∷◌, length, take, drop, Some, None, refl, ◌∙◌, ap, arith, take_all}
use Rattle.std.specs.List.{slice_split, position, position_or_len}
use Rattle.std.proofs.lemmas.List.{drop_all, Splits.{slice_split_first}}
use Rattle.trace_text.specs.EventText.{ended_line, lines_in, text_lines}
use Rattle.trace_text.proofs.Parts.{split_ahead, parts_behind, place_found, place_below, none_found}

abbrev pub is_lf : ℕ → Bool
is_lf c = c == 10

pub some_parts : (xs : List ℕ) → 0 < length (slice_split is_lf xs)
some_parts xs = rw (split_ahead is_lf xs) (omega arith)

pub ended_first : (line : List ℕ) (parts : List (List ℕ)) → 0 < length parts → lines_in (line ∷ parts) ≡ ended_line line ∷ lines_in parts
ended_first line [] h = absurd (omega arith)
ended_first line (next ∷ more) h = refl

last_only : (line : List ℕ) → 0 < length line → lines_in (line ∷ []) ≡ line ∷ []
last_only [] h = absurd (omega arith)
last_only (c ∷ cs) h = refl

-- an LF stands behind the first line
pub line_before_lf : (xs : List ℕ) (k : ℕ) → position is_lf xs ≡ Some k →
    text_lines xs ≡ ended_line (take k xs) ∷ text_lines (drop (k + 1) xs)
line_before_lf xs k e =
    let at = place_found is_lf xs k e in
    let below : position_or_len is_lf xs < length xs = omega (arith, at, place_below is_lf xs k e) in
    let rest = drop (k + 1) xs in
    let parted : slice_split is_lf xs ≡ take k xs ∷ slice_split is_lf rest =
    slice_split_first is_lf xs 0 below ∙ ap (λ (n : ℕ). take n xs ∷ slice_split is_lf (drop (n + 1) xs)) at in
    ap lines_in parted ∙ ended_first (take k xs) (slice_split is_lf rest) (some_parts rest)

-- no LF is there
pub line_without_lf : (xs : List ℕ) → position is_lf xs ≡ None → 0 < length xs → text_lines xs ≡ xs ∷ text_lines []
line_without_lf xs e h =
    let end = none_found is_lf xs e in
    let nothing : drop (length xs) xs ≡ [] = drop_all (length xs) xs (omega arith) in
    let parted : slice_split is_lf xs ≡ xs ∷ [] =
    split_ahead is_lf xs ∙ ap (λ (n : ℕ). take n xs ∷ parts_behind is_lf (drop n xs)) end ∙ ap (λ l. l ∷ parts_behind is_lf (drop (length xs) xs)) (take_all (length xs) xs (omega arith))
    ∙ ap (λ t. xs ∷ parts_behind is_lf t) nothing in
    ap lines_in parted ∙ last_only xs h
