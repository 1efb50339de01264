-- Facts on lists at their places: entries one by one, zipped and numbered lists, and tests of owners.
use Rattle.std.proofs.Common.{◌≡◌, ℕ, zero, suc, ◌+◌, ◌<◌, Bool, true, false, cond, leb, ltb, List, [], ◌∷◌, ◌++◌, length, get_or, refl, subst, arith}
use Rattle.std.specs.List.{list_all, zip, enumerate_from}
use Rattle.std.proofs.lemmas.{Bool.{and_parts, and_from, le-leb, lt-ltb, leb-true, ltb-true}, List.{length_push}}
use Rattle.osek_standard.specs.Validity.{IsAmong, is_within}
use Rattle.image_fields.specs.BlockReading.{where_has}
use Rattle.image_codec.proofs.Spells.{Each}

module _ {X : Type 0} (G : ℕ → X → Type 0) where
  each_at_from : (earlier more : List X) → Each (λ (e : List X). G (length e)) earlier more → (b : ℕ) (d : X) → b < length more → G (length earlier + b) (get_or more b d)
  each_at_from earlier [] good b d lt = absurd (omega arith)
  each_at_from earlier (x ∷ xs) good zero d lt = let e : length earlier ≡ length earlier + 0 = omega arith in subst (λ n. G n x) e good.0
  each_at_from earlier (x ∷ xs) good (suc b) d lt =
      let e : length (earlier ++ x ∷ []) + b ≡ length earlier + suc b = omega (arith, length_push earlier x) in
      subst (λ n. G n (get_or xs b d)) e (each_at_from (earlier ++ x ∷ []) xs good.1 b d (omega arith))

  pub each_at : (xs : List X) → Each (λ (e : List X). G (length e)) [] xs → (b : ℕ) (d : X) → b < length xs → G b (get_or xs b d)
  each_at xs good b d lt = let e : 0 + b ≡ b = omega arith in subst (λ n. G n (get_or xs b d)) e (each_at_from [] xs good b d lt)

pub get_or-zip : {K X : Type 0} (ks : List K) (xs : List X) (i : ℕ) (k : K) (x : X) → length ks ≡ length xs → i < length ks → get_or (zip ks xs) i (k, x) ≡ (get_or ks i k, get_or xs i x)
get_or-zip [] xs i k x e lt = absurd (omega arith)
get_or-zip (l ∷ ks) [] i k x e lt = absurd (omega arith)
get_or-zip (l ∷ ks) (y ∷ xs) zero k x e lt = refl
get_or-zip (l ∷ ks) (y ∷ xs) (suc i) k x e lt = get_or-zip ks xs i k x (omega arith) (omega arith)

-- a test of each numbered entry
numbered_from_at : {X : Type 0} (test : ℕ × X → Bool) (n : ℕ) (xs : List X) → list_all test (enumerate_from n xs) ≡ true → (i : ℕ) (d : X) → i < length xs → test (n + i, get_or xs i d) ≡ true
numbered_from_at test n [] e i d lt = absurd (omega arith)
numbered_from_at test n (x ∷ xs) e zero d lt =
    let k : n ≡ n + 0 = omega arith in
    subst (λ m. test (m, x) ≡ true) k (and_parts (test (n, x)) (list_all test (enumerate_from (n + 1) xs)) e).0
numbered_from_at test n (x ∷ xs) e (suc i) d lt =
    let k : (n + 1) + i ≡ n + suc i = omega arith in
    subst (λ m. test (m, get_or xs i d) ≡ true) k (numbered_from_at test (n + 1) xs (and_parts (test (n, x)) (list_all test (enumerate_from (n + 1) xs)) e).1 i d (omega arith))

pub numbered_at : {X : Type 0} (test : ℕ × X → Bool) (xs : List X) → list_all test (enumerate_from 0 xs) ≡ true → (i : ℕ) (d : X) → i < length xs → test (i, get_or xs i d) ≡ true
numbered_at test xs e i d lt = let k : 0 + i ≡ i = omega arith in subst (λ m. test (m, get_or xs i d) ≡ true) k (numbered_from_at test 0 xs e i d lt)

all_numbered_from : {X : Type 0} (test : ℕ × X → Bool) (n : ℕ) (xs : List X) → ((i : ℕ) (d : X) → i < length xs → test (n + i, get_or xs i d) ≡ true) → list_all test (enumerate_from n xs) ≡ true
all_numbered_from test n [] each = refl
all_numbered_from test n (x ∷ xs) each =
    let k : n + 0 ≡ n = omega arith in
    and_from (test (n, x)) _ (subst (λ m. test (m, x) ≡ true) k (each 0 x (omega arith)))
    (all_numbered_from test (n + 1) xs (λ i d lt.
    let j : n + suc i ≡ (n + 1) + i = omega arith in
    subst (λ m. test (m, get_or xs i d) ≡ true) j (each (suc i) d (omega arith))))

pub all_numbered : {X : Type 0} (test : ℕ × X → Bool) (xs : List X) → ((i : ℕ) (d : X) → i < length xs → test (i, get_or xs i d) ≡ true) → list_all test (enumerate_from 0 xs) ≡ true
all_numbered test xs each = all_numbered_from test 0 xs (λ i d lt. let k : i ≡ 0 + i = omega arith in subst (λ m. test (m, get_or xs i d) ≡ true) k (each i d lt))

-- ---- blocks of owners

pub among_within : (b first count : ℕ) → IsAmong b first count → is_within b (first, count) ≡ true
among_within b first count a = and_from (leb first b) (ltb b (first + count)) (le-leb _ _ a.0) (lt-ltb _ _ a.1)

pub within_among : (b first count : ℕ) → is_within b (first, count) ≡ true → IsAmong b first count
within_among b first count e =
    let parts = and_parts (leb first b) (ltb b (first + count)) e in
    (leb-true _ _ parts.0, ltb-true _ _ parts.1)

where_by : (has test : Bool) → cond has test true ≡ true → has ≡ true → test ≡ true
where_by true test e h = e
where_by false test e h = absurd cc

pub where_among : (b first count : ℕ) (test : Bool) → where_has b (first, count) test ≡ true → IsAmong b first count → test ≡ true
where_among b first count test e a = where_by (is_within b (first, count)) test e (among_within b first count a)

where_from : (has test : Bool) → (has ≡ true → test ≡ true) → cond has test true ≡ true
where_from true test f = f refl
where_from false test f = refl

pub among_where : (b first count : ℕ) (test : Bool) → (IsAmong b first count → test ≡ true) → where_has b (first, count) test ≡ true
among_where b first count test f = where_from (is_within b (first, count)) test (λ e. f (within_among b first count e))
