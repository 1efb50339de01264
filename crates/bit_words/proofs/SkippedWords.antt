-- Words that are passed over on the way to the next bit.
use Rattle.std.proofs.{Common.{◌≡◌, ℕ, ◌+◌, ◌-◌, ◌*◌, ◌/◌, ◌%◌, ◌<◌, ◌≤◌, false, List, length, get_or, ap, ap₂, ◌∙◌, inl, inr, arith}, lemmas.Bool.{cases_lt}}
use Rattle.bit_words.specs.Words.{AreWords, bits_of_words}
use Rattle.bit_words.proofs.WordLaws.{number_at, number_past, has_of_words}
use Rattle.osek_values.specs.Bits.{has_bit}

module _ (ws : List ℕ) (small : AreWords ws) where
  -- a bit of a word is one of the words
  pub bit_of_word : (place bit : ℕ) → bit < 64 → has_bit (bits_of_words ws) (64 * place + bit) ≡ has_bit (get_or ws place 0) bit
  bit_of_word place bit lt =
      let quotient : (64 * place + bit) / 64 ≡ place = omega (arith, lt) in
      let rest : (64 * place + bit) % 64 ≡ bit = omega (arith, lt) in
      has_of_words ws (64 * place + bit) small ∙ number_at ws (64 * place + bit) ∙ ap₂ (λ (i r : ℕ). has_bit (get_or ws i 0) r) quotient rest

  pub none_skipped : (from place first bit : ℕ) → bit ≤ 64 → ((k : ℕ) → from ≤ k → k < 64 * place → has_bit (bits_of_words ws) k ≡ false)
      → ((k : ℕ) → from ≤ k → 64 * place ≤ k → 64 * place + first ≤ k) → ((r : ℕ) → first ≤ r → r < bit → has_bit (get_or ws place 0) r ≡ false)
      → (k : ℕ) → from ≤ k → k < 64 * place + bit → has_bit (bits_of_words ws) k ≡ false
  none_skipped from place first bit few before begin none k above below = elim (cases_lt k (64 * place)) [
    | inl lt ↦ before k above lt
    | inr le ↦
        (let start = begin k above le in
        let at : k ≡ 64 * place + (k - 64 * place) = omega (arith, le) in
        ap (has_bit (bits_of_words ws)) at ∙ bit_of_word place (k - 64 * place) (omega (arith, le, below, few)) ∙ none (k - 64 * place) (omega (arith, start)) (omega (arith, le, below)))
  ]

  pub none_past : (k : ℕ) → 64 * length ws ≤ k → has_bit (bits_of_words ws) k ≡ false
  none_past k le = has_of_words ws k small ∙ number_past ws k (omega (arith, le))
