-- How many lines a text of draws has, whatever is drawn.
use Rattle.std.proofs.{Common.{◌≡◌, ℕ, ◌+◌, ◌*◌, ◌/◌, ◌%◌, ◌^◌, ◌<◌, cond, false, ◌==◌, zero, suc, List, [], ◌∷◌, ◌++◌, decimal, refl, subst, ◌∙◌, arith}, lemmas.Bool.{ne_eqb}}
use Rattle.std.proofs.lemmas.{Fmt.{decimal_by_steps}, List.Sums.{sum_by-append}, Nat.{mod_below}}
use Rattle.osek_vectors.specs.{Draws.{next_state, number_of}, Writing.{Text, fixed, draw, onto, ◌⨾◌, each_from}, LineCounts.{line_count}}

pub line_count-append : (xs ys : List ℕ) → line_count (xs ++ ys) ≡ line_count xs + line_count ys
line_count-append xs ys = sum_by-append (λ c. cond (c == 10) 1 0) xs ys

line_count-digit : (n : ℕ) → line_count ((48 + n) ∷ []) ≡ 0
line_count-digit n =
    let no_end : ((48 + n) == 10) ≡ false = ne_eqb (48 + n) 10 (λ e. omega (arith, e)) in
    rw no_end refl

-- a number stands on one line
pub line_count-decimal : (n : ℕ) → n < 2 ^ 64 → line_count (decimal n) ≡ 0
line_count-decimal n h =
    decimal_by_steps (λ _ ds. line_count ds ≡ 0)
    (λ d _. line_count-digit d)
    (λ m ds _ e. line_count-append ds ((48 + m % 10) ∷ []) ∙ (rw (e, line_count-digit (m % 10)) refl))
    n h

-- a text of k lines, whatever state it begins in
abbrev pub HasLines : ℕ → Text → Type 0
HasLines k text = (x : ℕ) → line_count (text x).text ≡ k

pub HasLines-fixed : (k : ℕ) (bytes : List ℕ) → line_count bytes ≡ k → HasLines k (fixed bytes)
unfolding fixed
HasLines-fixed k bytes e x = e

pub HasLines-draw : (k choices : ℕ) (text : ℕ → Text) → 0 < choices → ((d : ℕ) → d < choices → HasLines k (text d)) → HasLines k (draw choices text)
unfolding draw
HasLines-draw k choices text positive each x =
    each (number_of choices (next_state x)) (mod_below (next_state x / 65536) choices positive) (next_state x)

pub HasLines-then : (j k : ℕ) (first second : Text) → HasLines j first → HasLines k second → HasLines (j + k) (first ⨾ second)
unfolding onto ◌⨾◌
HasLines-then j k first second f s x =
    let behind = (first x).state in
    line_count-append (first x).text (second behind).text ∙ (rw (f x, s behind) refl)

pub HasLines-each : (k : ℕ) (text : ℕ → Text) (n i : ℕ) → ((j : ℕ) → j < i + n → HasLines k (text j)) → HasLines (k * n) (each_from i n text)
unfolding each_from
HasLines-each k text zero i each = HasLines-fixed (k * 0) [] (omega arith)
HasLines-each k text (suc n) i each =
    let here = each i (omega arith) in
    let more = HasLines-each k text n (i + 1) (λ j h. each j (omega arith)) in
    let sum : k + k * n ≡ k * suc n = omega arith in
    subst (λ m. HasLines m (text i ⨾ each_from (i + 1) n text)) sum (HasLines-then k (k * n) (text i) (each_from (i + 1) n text) here more)
