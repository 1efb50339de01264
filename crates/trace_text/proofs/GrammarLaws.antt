-- A line is parted into words in one way, and these are the words that it is read by.
use Rattle.std.proofs.Common.{◌≡◌, ℕ, zero, suc, ◌+◌, ◌<◌, ◌≤◌, Bool, true, false, cond, ◌&&◌, not, List, [], ◌∷◌, ◌++◌, length, take, take_all, drop, Option, Some, None, refl, sym, ◌∙◌, ap, subst, arith, one-add}
use Rattle.std.specs.List.{list_all, position, position_or_len}
use Rattle.std.proofs.lemmas.List.{take-append-drop, length-drop}
use Rattle.trace_text.specs.{EventWords.{is_blank, is_some_word, words}, EventGrammar.{ends_word, BeginsWith, HasWords}}
use Rattle.trace_text.proofs.Parts.{place_found, place_below, none_found, whole_tail}
use Rattle.trace_text.proofs.WordLaws.{is_visible, no_word, first_word, word_ends, skip, skip_is, skip_visible, one_more}

pub both : (a b : Bool) → (a && b) ≡ true → (a ≡ true) × (b ≡ true)
both true true e = (refl, refl)
both true false e = absurd (cc)
both false b e = absurd (cc)

not_both : (b : Bool) → b ≡ true → not b ≡ true → ⊥
not_both true e f = cc
not_both false e f = cc

head_same : (c d : ℕ) (a b : List ℕ) → c ∷ a ≡ d ∷ b → c ≡ d
head_same c d a b h = cc

tail_same : (c d : ℕ) (a b : List ℕ) → c ∷ a ≡ d ∷ b → a ≡ b
tail_same c d a b h = cc

cons_same : (c d : ℕ) (a b : List ℕ) → c ≡ d → a ≡ b → c ∷ a ≡ d ∷ b
cons_same c d a b e f = cc

-- a word ends where the blanks or the line's end begin
word_once : (w v x y : List ℕ) → list_all is_visible w ≡ true → list_all is_visible v ≡ true → ends_word x ≡ true → ends_word y ≡ true → w ++ x ≡ v ++ y → (w ≡ v) × (x ≡ y)
word_once [] [] x y a b ex ey h = (refl, h)
word_once [] (d ∷ v) x y a b ex ey h = absurd (not_both (is_blank d) (sym (ap ends_word h) ∙ ex) (both (is_visible d) (list_all is_visible v) b).0)
word_once (c ∷ w) [] x y a b ex ey h = absurd (not_both (is_blank c) (ap ends_word h ∙ ey) (both (is_visible c) (list_all is_visible w) a).0)
word_once (c ∷ w) (d ∷ v) x y a b ex ey h =
    let p = word_once w v x y (both (is_visible c) (list_all is_visible w) a).1 (both (is_visible d) (list_all is_visible v) b).1 ex ey (tail_same c d (w ++ x) (v ++ y) h) in
    (cons_same c d w v (head_same c d (w ++ x) (v ++ y) h) p.0, p.1)

-- a word does not begin with a blank
not_blank : (c : ℕ) (g v y : List ℕ) → is_blank c ≡ true → is_some_word v ≡ true → list_all is_visible v ≡ true → c ∷ g ≡ v ++ y → ⊥
not_blank c g [] y blank some all h = cc
not_blank c g (d ∷ v) y blank some all h =
    not_both (is_blank d) (ap is_blank (sym (head_same c d g (v ++ y) h)) ∙ blank) (both (is_visible d) (list_all is_visible v) all).0

gap_once : (g k w v x y : List ℕ) → list_all is_blank g ≡ true → list_all is_blank k ≡ true → is_some_word w ≡ true → is_some_word v ≡ true →
    list_all is_visible w ≡ true → list_all is_visible v ≡ true → ends_word x ≡ true → ends_word y ≡ true → g ++ (w ++ x) ≡ k ++ (v ++ y) → (w ≡ v) × (x ≡ y)
gap_once [] [] w v x y bg bk sw sv aw av ex ey h = word_once w v x y aw av ex ey h
gap_once [] (d ∷ k) w v x y bg bk sw sv aw av ex ey h = absurd (not_blank d (k ++ (v ++ y)) w x (both (is_blank d) (list_all is_blank k) bk).0 sw aw (sym h))
gap_once (c ∷ g) [] w v x y bg bk sw sv aw av ex ey h = absurd (not_blank c (g ++ (w ++ x)) v y (both (is_blank c) (list_all is_blank g) bg).0 sv av h)
gap_once (c ∷ g) (d ∷ k) w v x y bg bk sw sv aw av ex ey h =
    gap_once g k w v x y (both (is_blank c) (list_all is_blank g) bg).1 (both (is_blank d) (list_all is_blank k) bk).1 sw sv aw av ex ey
    (tail_same c d (g ++ (w ++ x)) (k ++ (v ++ y)) h)

-- blanks have no word
no_word_in : (g w x : List ℕ) → list_all is_blank (g ++ (w ++ x)) ≡ true → is_some_word w ≡ true → list_all is_visible w ≡ true → ⊥
no_word_in [] [] x b some all = cc
no_word_in [] (c ∷ w) x b some all = not_both (is_blank c) (both (is_blank c) (list_all is_blank (w ++ x)) b).0 (both (is_visible c) (list_all is_visible w) all).0
no_word_in (d ∷ g) w x b some all = no_word_in g w x (both (is_blank d) (list_all is_blank (g ++ (w ++ x))) b).1 some all

none_here : (line gap w rest : List ℕ) → list_all is_blank line ≡ true → BeginsWith line gap w rest → ⊥
none_here line gap w rest b h = no_word_in gap w rest (sym (ap (list_all is_blank) h.parts) ∙ b) h.some h.whole

list_same : (w v : List ℕ) (ws vs : List (List ℕ)) → w ≡ v → ws ≡ vs → w ∷ ws ≡ v ∷ vs
list_same w v ws vs e f = cc

words_once : (line : List ℕ) (ws vs : List (List ℕ)) → HasWords line ws → HasWords line vs → ws ≡ vs
words_once line [] [] h k = refl
words_once line [] (v ∷ vs) h k = absurd (none_here line k.0 v k.1 h k.2)
words_once line (w ∷ ws) [] h k = absurd (none_here line h.0 w h.1 k h.2)
words_once line (w ∷ ws) (v ∷ vs) h k =
    let a = h.2 in
    let b = k.2 in
    let p = gap_once h.0 k.0 w v h.1 k.1 a.blanks b.blanks a.some b.some a.whole b.whole a.ends b.ends (sym a.parts ∙ b.parts) in
    list_same w v ws vs p.0 (words_once h.1 ws vs h.3 (subst (λ (l : List ℕ). HasWords l vs) (sym p.1) k.3))

-- what stands before the first element that passes a test passes it not
front_by : (p : ℕ → Bool) (b : Bool) (x : ℕ) (xs : List ℕ) → p x ≡ b → list_all (λ c. not (p c)) (take (position_or_len p xs) xs) ≡ true →
    list_all (λ c. not (p c)) (take (cond (not b) (1 + position_or_len p xs) 0) (x ∷ xs)) ≡ true
front_by p true x xs e h = refl
front_by p false x xs e h = rw one-add (rw e h)

pub front_fails : (p : ℕ → Bool) (xs : List ℕ) → list_all (λ c. not (p c)) (take (position_or_len p xs) xs) ≡ true
front_fails p [] = refl
front_fails p (x ∷ xs) = front_by p (p x) x xs refl (front_fails p xs)

blank_by : (b : Bool) → not (not b) ≡ b
blank_by true = refl
blank_by false = refl

blanks_by : (c : ℕ) (cs : List ℕ) → list_all (λ c. not (is_visible c)) cs ≡ list_all is_blank cs → list_all (λ c. not (is_visible c)) (c ∷ cs) ≡ list_all is_blank (c ∷ cs)
blanks_by c cs h = rw (blank_by (is_blank c), h)

blanks : (xs : List ℕ) → list_all (λ c. not (is_visible c)) xs ≡ list_all is_blank xs
blanks [] = refl
blanks (c ∷ cs) = blanks_by c cs (blanks cs)

gap_blank : (xs : List ℕ) → list_all is_blank (take (position_or_len is_visible xs) xs) ≡ true
gap_blank xs = sym (blanks (take (position_or_len is_visible xs) xs)) ∙ front_fails is_visible xs

some_front : (xs : List ℕ) (y : ℕ) (ys : List ℕ) → is_blank y ≡ false → is_some_word (take (position_or_len is_blank (y ∷ ys)) (y ∷ ys)) ≡ true
some_front xs y ys e = rw (e, one-add)

begins_at : (line front : List ℕ) (k : ℕ) → skip line ≡ front → position_or_len is_visible line ≡ k → line ≡ take k line ++ front → 0 < length front →
    BeginsWith line (take k line) (take (position_or_len is_blank front) front) (drop (position_or_len is_blank front) front) × (length (drop (position_or_len is_blank front) front) < length front)
begins_at line [] k e at parts h = absurd (omega arith)
begins_at line (y ∷ ys) k e at parts h =
    let visible = skip_visible line y ys e in
    let j = position_or_len is_blank (y ∷ ys) in
    let gap : list_all is_blank (take k line) ≡ true = subst (λ (n : ℕ). list_all is_blank (take n line) ≡ true) at (gap_blank line) in
    let more = one_more y ys visible in (
      record {
        parts = parts ∙ ap (λ (t : List ℕ). take k line ++ t) (sym (take-append-drop j (y ∷ ys)));
        blanks = gap;
        some = some_front ys y ys visible;
        whole = front_fails is_blank (y ∷ ys);
        ends = word_ends (y ∷ ys);
      },
      omega (arith, length-drop j (y ∷ ys), more),
    )

hold_by : (line : List ℕ) (o : Option ℕ) → position is_visible line ≡ o → ((rest : List ℕ) → length rest < length line → HasWords rest (words rest)) → HasWords line (words line)
hold_by line None e h =
    let end = none_found is_visible line e in
    let all : take (position_or_len is_visible line) line ≡ line = take_all (position_or_len is_visible line) line (omega (arith, end)) in
    subst (HasWords line) (sym (no_word line e)) (subst (λ (l : List ℕ). list_all is_blank l ≡ true) all (gap_blank line))
hold_by line (Some k) e h =
    let front = drop k line in
    let j = position_or_len is_blank front in
    let at = place_found is_visible line k e in
    let below = place_below is_visible line k e in
    let same : skip line ≡ front = sym (skip_is line) ∙ ap (λ (n : ℕ). drop n line) at in
    let size = length-drop k line in
    let begins = begins_at line front k same at (sym (take-append-drop k line)) (omega (arith, below, size)) in
    subst (HasWords line) (sym (first_word line front k e (sym (whole_tail k line)))) (take k line, drop j front, begins.0, h (drop j front) (omega (arith, size, begins.1)))

hold_within : (n : ℕ) (line : List ℕ) → length line ≤ n → HasWords line (words line)
hold_within zero line h = hold_by line (position is_visible line) refl (λ rest k. absurd (omega (arith, h, k)))
hold_within (suc n) line h = hold_by line (position is_visible line) refl (λ rest k. hold_within n rest (omega (arith, h, k)))

pub words_hold : (line : List ℕ) → HasWords line (words line)
words_hold line = hold_within (length line) line (omega arith)

pub no_other_words : (line : List ℕ) (ws : List (List ℕ)) → HasWords line ws → ws ≡ words line
no_other_words line ws h = words_once line ws (words line) h (words_hold line)
