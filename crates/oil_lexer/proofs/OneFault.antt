-- A list of tokens has at most one first fault, and none where it has a tree.
use Rattle.std.proofs.Common.{◌≡◌, ℕ, ⊎_elim, List, refl, sym, ap, ◌∙◌, subst}
use Rattle.oil_lexer.specs.declared.token.Token.{Token}
use Rattle.osek_values.specs.declared.refusal.SyntaxRule.{SyntaxRule, TheVariants.{S1, S2, S3}}
use Rattle.oil_lexer.specs.Faults as faults
use Rattle.oil_lexer.proofs.Splits.{split_two}

module _ (Tree : Type 0) (IsSentence : List Token → Tree → Type 0) (limit : ℕ) where
  abbrev FailsS1 : List Token → Token → Type 0
  FailsS1 = faults.FailsS1 Tree IsSentence limit

  abbrev FailsS3 : List Token → Token → Type 0
  FailsS3 = faults.FailsS3 Tree IsSentence limit

  abbrev IsClear : List Token → Type 0
  IsClear = faults.IsClear Tree IsSentence limit

  abbrev FailsAt : (List Token → Token → Type 0) → List Token → ℕ → Type 0
  FailsAt F tokens line = faults.FailsAt Tree IsSentence limit F tokens line

  module _ (F G : List Token → Token → Type 0) (hits : (prefix : List Token) (t : Token) → F prefix t → (FailsS1 prefix t → ⊥) × (FailsS3 prefix t → ⊥) → ⊥) (hits' : (prefix : List Token) (t : Token) → G prefix t → (FailsS1 prefix t → ⊥) × (FailsS3 prefix t → ⊥) → ⊥) where
    -- two first failures stand at one token
    one_place : (tokens : List Token) (l l' : ℕ) (x : FailsAt F tokens l) (y : FailsAt G tokens l') → (x.prefix ≡ y.prefix) × (x.token ≡ y.token)
    one_place tokens l l' x y =
        ⊎_elim (λ s. s)
        (λ s. absurd (⊎_elim (λ p. hits x.prefix x.token x.fails (y.clear x.prefix x.token p.0 p.1)) (λ p. hits' y.prefix y.token y.fails (x.clear y.prefix y.token p.0 p.1)) s))
        (split_two x.prefix x.back y.prefix y.back x.token y.token (sym x.parts ∙ y.parts))

    not_clear : (tokens : List Token) (l : ℕ) → FailsAt F tokens l → IsClear tokens → ⊥
    not_clear tokens l x clear = hits x.prefix x.token x.fails (clear x.prefix x.token x.back x.parts)

  hits_s1 : (prefix : List Token) (t : Token) → FailsS1 prefix t → (FailsS1 prefix t → ⊥) × (FailsS3 prefix t → ⊥) → ⊥
  hits_s1 prefix t f c = c.0 f

  hits_s3 : (prefix : List Token) (t : Token) → FailsS3 prefix t → (FailsS1 prefix t → ⊥) × (FailsS3 prefix t → ⊥) → ⊥
  hits_s3 prefix t f c = c.1 f

  s1_s3 : (tokens : List Token) (l l' : ℕ) → FailsAt FailsS1 tokens l → FailsAt FailsS3 tokens l' → ⊥
  s1_s3 tokens l l' x y =
      let place = one_place FailsS1 FailsS3 hits_s1 hits_s3 tokens l l' x y in
      let f : FailsS1 y.prefix y.token = subst (λ (t : Token). FailsS1 y.prefix t) place.1 (subst (λ (f : List Token). FailsS1 f x.token) place.0 x.fails) in
      f y.fails.0

  pub same_fault : (tokens : List Token) (r r' : SyntaxRule) (l l' : ℕ) → faults.IsFirstFault Tree IsSentence limit tokens r l → faults.IsFirstFault Tree IsSentence limit tokens r' l' → (r ≡ r') × (l ≡ l')
  same_fault tokens S1 S1 l l' x y = (refl, x.line_is ∙ ap (λ t. t.line) (one_place FailsS1 FailsS1 hits_s1 hits_s1 tokens l l' x y).1 ∙ sym y.line_is)
  same_fault tokens S1 S2 l l' x y = absurd (not_clear FailsS1 FailsS1 hits_s1 hits_s1 tokens l x y.clear)
  same_fault tokens S1 S3 l l' x y = absurd (s1_s3 tokens l l' x y)
  same_fault tokens S2 S1 l l' x y = absurd (not_clear FailsS1 FailsS1 hits_s1 hits_s1 tokens l' y x.clear)
  same_fault tokens S2 S2 l l' x y = (refl, x.line_is ∙ sym y.line_is)
  same_fault tokens S2 S3 l l' x y = absurd (not_clear FailsS3 FailsS3 hits_s3 hits_s3 tokens l' y x.clear)
  same_fault tokens S3 S1 l l' x y = absurd (s1_s3 tokens l' l y x)
  same_fault tokens S3 S2 l l' x y = absurd (not_clear FailsS3 FailsS3 hits_s3 hits_s3 tokens l x y.clear)
  same_fault tokens S3 S3 l l' x y = (refl, x.line_is ∙ ap (λ t. t.line) (one_place FailsS3 FailsS3 hits_s3 hits_s3 tokens l l' x y).1 ∙ sym y.line_is)

  pub no_fault : (tokens : List Token) (file : Tree) (r : SyntaxRule) (l : ℕ) → faults.HasTree Tree IsSentence limit tokens file → faults.IsFirstFault Tree IsSentence limit tokens r l → ⊥
  no_fault tokens file S1 l h x = not_clear FailsS1 FailsS1 hits_s1 hits_s1 tokens l x h.clear
  no_fault tokens file S2 l h x = x.no_sentence file h.sentence
  no_fault tokens file S3 l h x = not_clear FailsS3 FailsS3 hits_s3 hits_s3 tokens l x h.clear
