-- Lists that grow at their end in a loop over numbers.
use Rattle.std.proofs.Common.{◌≡◌, ℕ, ◌+◌, List, [], ◌∷◌, ◌++◌, map, filter, sym, ap, ◌∙◌, append_assoc, arith}
use Rattle.std.specs.List.{range_with_len}
use Rattle.osek_values.specs.Bits.{has_bit, bits_of}
use Rattle.std.proofs.lemmas.List.FromFn.{map-range_with_len_more}

module _ {X : Type 0} (f : ℕ → X) where
  -- one more of a range
  pub grown : (before now after : List X) (n : ℕ) → now ≡ before ++ map f (range_with_len 0 n) → after ≡ now ++ f n ∷ [] → after ≡ before ++ map f (range_with_len 0 (n + 1))
  grown before now after n is more =
      let at : 0 + n ≡ n = omega arith in
      more ∙ ap (λ (xs : List X). xs ++ f n ∷ []) is ∙ append_assoc before (map f (range_with_len 0 n)) (f n ∷ [])
      ∙ ap (λ (xs : List X). before ++ xs) (sym (map-range_with_len_more f 0 n n at))

-- all 64 bits
pub bits_by : (n w : ℕ) → w ≡ 64 → filter (has_bit n) (range_with_len 0 w) ≡ bits_of n
unfolding bits_of
bits_by n w e = ap (λ (v : ℕ). filter (has_bit n) (range_with_len 0 v)) e
