-- The words of a line, the first one and the rest.
use Rattle.std.proofs.Common.{◌≡◌, ℕ, suc, ◌-◌, Some, None, ◌+◌, ◌<◌, Bool, true, false, cond, not, List, [], ◌∷◌, length, take, drop, refl, sym, ◌∙◌, ap, subst, arith, one-add}
use Rattle.std.specs.List.{slice_split, onto_first, position, position_or_len, filter}
use Rattle.std.proofs.lemmas.List.{drop_all, length-drop}
use Rattle.trace_text.specs.{EventWords.{is_blank, is_some_word, words}, EventGrammar.{ends_word}}
use Rattle.trace_text.proofs.Parts.{split_ahead, parts_behind, place_found, place_below, none_found, whole_tail}

abbrev pub is_visible : ℕ → Bool
is_visible c = not (is_blank c)

-- the line from its first word on
abbrev pub skip : List ℕ → List ℕ
skip [] = []
skip (c ∷ cs) = cond (is_blank c) (skip cs) (c ∷ cs)

pub skip_is : (xs : List ℕ) → drop (position_or_len is_visible xs) xs ≡ skip xs
skip_is [] = refl
skip_is (c ∷ cs) =
    elim (is_blank c) as (λ b. drop (cond (not (not b)) (1 + position_or_len is_visible cs) 0) (c ∷ cs) ≡ cond b (skip cs) (c ∷ cs)) [
      | true ↦ rw one-add (skip_is cs)
      | false ↦ refl
    ]

words_blank : (c : ℕ) (cs : List ℕ) → is_blank c ≡ true → words (c ∷ cs) ≡ words cs
words_blank c cs e = ap (λ b. filter is_some_word (cond b ([] ∷ slice_split is_blank cs) (onto_first c (slice_split is_blank cs)))) e

words_skip_by : (b : Bool) (c : ℕ) (cs : List ℕ) → is_blank c ≡ b → words cs ≡ words (skip cs) → words (c ∷ cs) ≡ words (cond b (skip cs) (c ∷ cs))
words_skip_by true c cs e h = words_blank c cs e ∙ h
words_skip_by false c cs e h = refl

words_skip : (xs : List ℕ) → words xs ≡ words (skip xs)
words_skip [] = refl
words_skip (c ∷ cs) = words_skip_by (is_blank c) c cs refl (words_skip cs)

visible_by : (b : Bool) (c : ℕ) (cs : List ℕ) (y : ℕ) (ys : List ℕ) → is_blank c ≡ b → (skip cs ≡ y ∷ ys → is_blank y ≡ false) → cond b (skip cs) (c ∷ cs) ≡ y ∷ ys → is_blank y ≡ false
visible_by true c cs y ys e h k = h k
visible_by false c cs y ys e h k = let same : y ≡ c = cc in ap is_blank same ∙ e

pub skip_visible : (xs : List ℕ) (y : ℕ) (ys : List ℕ) → skip xs ≡ y ∷ ys → is_blank y ≡ false
skip_visible [] y ys e = absurd (cc)
skip_visible (c ∷ cs) y ys e = visible_by (is_blank c) c cs y ys refl (skip_visible cs y ys) e

ends_by : (b : Bool) (c : ℕ) (cs : List ℕ) → is_blank c ≡ b → ends_word (drop (position_or_len is_blank cs) cs) ≡ true → ends_word (drop (cond (not b) (1 + position_or_len is_blank cs) 0) (c ∷ cs)) ≡ true
ends_by true c cs e h = e
ends_by false c cs e h = rw one-add h

pub word_ends : (xs : List ℕ) → ends_word (drop (position_or_len is_blank xs) xs) ≡ true
word_ends [] = refl
word_ends (c ∷ cs) = ends_by (is_blank c) c cs refl (word_ends cs)

words_behind : (zs : List ℕ) → ends_word zs ≡ true → filter is_some_word (parts_behind is_blank zs) ≡ words zs
words_behind [] e = refl
words_behind (z ∷ zs) e = sym (words_blank z zs e)

word_ahead_by : (y : ℕ) (ys : List ℕ) (j k : ℕ) → k ≡ suc j →
    slice_split is_blank (y ∷ ys) ≡ take k (y ∷ ys) ∷ parts_behind is_blank (drop k (y ∷ ys)) → ends_word (drop k (y ∷ ys)) ≡ true →
    words (y ∷ ys) ≡ take k (y ∷ ys) ∷ words (drop k (y ∷ ys))
word_ahead_by y ys j k e h ends =
    let P : ℕ → Type 0 = λ (n : ℕ). slice_split is_blank (y ∷ ys) ≡ take n (y ∷ ys) ∷ parts_behind is_blank (drop n (y ∷ ys)) → ends_word (drop n (y ∷ ys)) ≡ true →
    words (y ∷ ys) ≡ take n (y ∷ ys) ∷ words (drop n (y ∷ ys)) in
    let at_suc : P (suc j) = λ u v. ap (filter is_some_word) u ∙ ap (λ ws. (y ∷ take j ys) ∷ ws) (words_behind (drop j ys) v) in
    subst P (sym e) at_suc h ends

pub one_more : (y : ℕ) (ys : List ℕ) → is_blank y ≡ false → position_or_len is_blank (y ∷ ys) ≡ suc (position_or_len is_blank ys)
one_more y ys e = ap (λ b. cond (not b) (1 + position_or_len is_blank ys) 0) e ∙ one-add (position_or_len is_blank ys)

word_ahead : (y : ℕ) (ys : List ℕ) → is_blank y ≡ false → words (y ∷ ys) ≡ take (position_or_len is_blank (y ∷ ys)) (y ∷ ys) ∷ words (drop (position_or_len is_blank (y ∷ ys)) (y ∷ ys))
word_ahead y ys e =
    word_ahead_by y ys (position_or_len is_blank ys) (position_or_len is_blank (y ∷ ys)) (one_more y ys e) (split_ahead is_blank (y ∷ ys)) (word_ends (y ∷ ys))

word_in : (xs front : List ℕ) → skip xs ≡ front → 0 < length front → words front ≡ take (position_or_len is_blank front) front ∷ words (drop (position_or_len is_blank front) front)
word_in xs [] e h = absurd (omega arith)
word_in xs (y ∷ ys) e h = word_ahead y ys (skip_visible xs y ys e)

pub no_word : (xs : List ℕ) → position is_visible xs ≡ None → words xs ≡ []
no_word xs e =
    let end = none_found is_visible xs e in
    let empty : drop (position_or_len is_visible xs) xs ≡ [] = drop_all (position_or_len is_visible xs) xs (omega (arith, end)) in
    words_skip xs ∙ ap words (sym (skip_is xs) ∙ empty)

-- the line from place k on begins with its first word
pub first_word : (xs front : List ℕ) (k : ℕ) → position is_visible xs ≡ Some k → front ≡ take (length xs - k) (drop k xs) →
    words xs ≡ take (position_or_len is_blank front) front ∷ words (drop (position_or_len is_blank front) front)
first_word xs front k e f =
    let at : drop k xs ≡ skip xs = ap (λ (n : ℕ). drop n xs) (sym (place_found is_visible xs k e)) ∙ skip_is xs in
    let same : skip xs ≡ front = sym at ∙ sym (whole_tail k xs) ∙ sym f in
    let below = place_below is_visible xs k e in
    let size : length front ≡ length xs - k = ap length (f ∙ whole_tail k xs) ∙ length-drop k xs in
    words_skip xs ∙ ap words same ∙ word_in xs front same (omega (arith, below, size))
