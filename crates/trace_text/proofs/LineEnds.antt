-- The first LF, found among the first bytes, which are looked at at once.
use Rattle.std.proofs.Common.{◌≡◌, ℕ, suc, ◌+◌, ◌*◌, ◌<◌, ◌≤◌, Bool, true, false, not, cond, List, [], ◌∷◌, map, length, drop, Some, None, sym, ◌∙◌, ap, arith}
use Rattle.std.specs.{List.{position, position_or_len, prefix_len}, Simd.Lanes.{mask_l}}
use Rattle.std.proofs.lemmas.{Bool.{lt-ltb, ne_eqb}, List.Folds.{prefix_len-append}, Simd.{chunk-drop, length-chunk, trailing_mask_l}}
use lib.Lanes.{chunk}
use lib.Count.{count_trailing_zeros}

step : (b : Bool) (n l m : ℕ) → (0 < m → n < l) → 0 < cond b 1 0 + 2 * m → cond (not b) (1 + n) 0 < suc l
step true n l m h some = omega arith
step false n l m h some = let low : n < l = h (omega (arith, some)) in omega (arith, low)

module _ (p : ℕ → Bool) where
  -- where a bit is set, an element passes
  passes : (xs : List ℕ) → 0 < mask_l (map p xs) → position_or_len p xs < length xs
  passes [] some = absurd (omega (arith, some))
  passes (x ∷ xs) some = step (p x) (position_or_len p xs) (length xs) (mask_l (map p xs)) (passes xs) some

  placed : (xs : List ℕ) (k : ℕ) → position_or_len p xs ≡ k → k < length xs → position p xs ≡ Some k
  placed xs k e within =
      let below : position_or_len p xs < length xs = omega (arith, e, within) in
      ap (λ b. cond b (Some (position_or_len p xs)) None) (lt-ltb (position_or_len p xs) (length xs) below) ∙ ap (λ (n : ℕ). Some n) e

  -- the lowest bit is the place of the first that passes
  pub first_near : (xs : List ℕ) (n mask : ℕ) → n ≤ length xs → n ≤ 64 → mask ≡ mask_l (map p (chunk 0 n xs)) → 0 < mask →
      Some (count_trailing_zeros 64 mask) ≡ position p xs
  first_near xs n mask within few is some =
      let c = chunk 0 n xs in
      let size = length-chunk 0 n xs (omega (arith, within)) in
      let set : 0 < mask_l (map p c) = omega (arith, is, some) in
      let low : position_or_len p c < length c = passes c set in
      let whole : position_or_len p xs ≡ position_or_len p c =
      ap (prefix_len (λ (x : ℕ). not (p x))) (chunk-drop 0 n xs) ∙ prefix_len-append (λ (x : ℕ). not (p x)) c (drop (0 + n) xs)
      ∙ ap (λ b. cond b (length c + prefix_len (λ (x : ℕ). not (p x)) (drop (0 + n) xs)) (position_or_len p c))
      (ne_eqb _ _ (λ (e : position_or_len p c ≡ length c). omega (arith, e, low))) in
      let at : count_trailing_zeros 64 mask ≡ position_or_len p c = ap (count_trailing_zeros 64) is ∙ trailing_mask_l p 64 c (omega (arith, size, few)) set in
      sym (placed xs (count_trailing_zeros 64 mask) (whole ∙ sym at) (omega (arith, at, low, size, within)))
