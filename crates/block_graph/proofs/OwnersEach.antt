-- Blocks one by one, each by its number.
use Rattle.std.proofs.Common.{◌≡◌, ℕ, zero, suc, ◌+◌, ◌-◌, ◌<◌, ◌≤◌, List, [], ◌∷◌, ◌++◌, length, get_or, sym, subst, ◌∙◌, arith}
use Rattle.std.specs.Prelude.{⊤}
use Rattle.std.proofs.lemmas.List.{get_or_append_left, get_or-append_right}
use Rattle.osek_standard.specs.declared.block.Block.{Block}

-- P holds of each block, the first of which has number n
abbrev pub AllFrom : (ℕ → Block → Type 0) → ℕ → List Block → Type 0
AllFrom P n [] = ⊤
AllFrom P n (x ∷ xs) = P n x × AllFrom P (n + 1) xs

module _ (P : ℕ → Block → Type 0) where
  joined : (n : ℕ) (xs ys : List Block) → AllFrom P n xs → AllFrom P (n + length xs) ys → AllFrom P n (xs ++ ys)
  joined n [] ys h k = let e : n + 0 ≡ n = omega arith in subst (λ m. AllFrom P m ys) e k
  joined n (x ∷ xs) ys h k =
      let e : n + length (x ∷ xs) ≡ (n + 1) + length xs = omega arith in
      (h.0, joined (n + 1) xs ys h.1 (subst (λ m. AllFrom P m ys) e k))

  pub all_from_append : (n size : ℕ) (xs ys : List Block) → length xs ≡ size → AllFrom P n xs → AllFrom P (n + size) ys → AllFrom P n (xs ++ ys)
  all_from_append n size xs ys e h k = joined n xs ys h (subst (λ m. AllFrom P (n + m) ys) (sym e) k)

  at_place : (n : ℕ) (xs : List Block) → AllFrom P n xs → (i : ℕ) (d : Block) → i < length xs → P (n + i) (get_or xs i d)
  at_place n [] h i d lt = absurd (omega arith)
  at_place n (x ∷ xs) h zero d lt = let e : n ≡ n + 0 = omega arith in subst (λ m. P m x) e h.0
  at_place n (x ∷ xs) h (suc i) d lt = let e : (n + 1) + i ≡ n + suc i = omega arith in subst (λ m. P m (get_or xs i d)) e (at_place (n + 1) xs h.1 i d (omega arith))

  -- blocks at their place in a longer list
  pub all_from_at : (n : ℕ) (pre xs post : List Block) → length pre ≡ n → AllFrom P n xs → (b : ℕ) (d : Block) → n ≤ b → b < n + length xs → P b (get_or (pre ++ (xs ++ post)) b d)
  all_from_at n pre xs post place h b d low high =
      let within : b - n < length xs = omega arith in
      let here : n + (b - n) ≡ b = omega arith in
      let read : get_or (pre ++ (xs ++ post)) b d ≡ get_or xs (b - n) d = get_or-append_right pre (xs ++ post) n b d place low ∙ get_or_append_left xs post d (b - n) within in
      subst (λ x. P b x) (sym read) (subst (λ m. P m (get_or xs (b - n) d)) here (at_place n xs h (b - n) d within))

-- what follows of each
pub all_from_weaker : (P Q : ℕ → Block → Type 0) (n : ℕ) (xs : List Block) → ((b : ℕ) (x : Block) → n ≤ b → b < n + length xs → P b x → Q b x) → AllFrom P n xs → AllFrom Q n xs
all_from_weaker P Q n [] f h = tt
all_from_weaker P Q n (x ∷ xs) f h = (f n x (omega arith) (omega arith) h.0, all_from_weaker P Q (n + 1) xs (λ b y low high. f b y (omega arith) (omega arith)) h.1)
