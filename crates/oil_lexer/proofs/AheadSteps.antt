-- The tokens that are ahead, behind one more piece.
use Rattle.std.proofs.Common.{◌≡◌, ℕ, ◌+◌, List, [], ◌∷◌, ◌++◌, take, drop, refl, sym, subst, ap}
use Rattle.std.specs.Prelude.{◌≢◌}
use mathlib.Core.Logic.{∥∥₁_elim, ∥∥₁_map}
use Rattle.osek_values.specs.declared.refusal.LexRule.{LexRule}
use Rattle.oil_lexer.specs.declared.token.{TokenKind.{TokenKind}, Piece.{Piece, TheVariants.{Gap, Whole}}, Token.{Token}}
use Rattle.oil_lexer.specs.{Ahead.{AreAhead, AreOnly, Ahead, Ahead-prop, tokens_set}, Pieces.{IsLongest, Breaks}, Fronts.{ArePieces}, Text.{Parts, none, gap, token, token_of, line_ends}}
use Rattle.oil_lexer.proofs.Unique.{same_length, same_piece, stops_end, stops_broken, unique, after}

-- no others are ahead
only : {line : ℕ} {bytes : List ℕ} {tokens : List Token} → AreAhead line bytes tokens → (other : List Token) → AreAhead line bytes other → tokens ≡ other
only (last, parts) other (last', parts') = (unique stops_end stops_end parts parts').all

pub of_parts : {line : ℕ} {bytes : List ℕ} (tokens : List Token) → AreAhead line bytes tokens → Ahead line bytes
of_parts tokens are = (tokens, record { ahead = ∣ are ∣₁; only = only are })

-- behind what is parted the other tokens are ahead
pub record Behind (last : ℕ) (rest : List ℕ) (done tokens : List Token) : Type 0 where
  pub more : List Token
  pub parts : tokens ≡ done ++ more
  pub ahead : AreAhead last rest more

pub behind_parts : {last : ℕ} {rest : List ℕ} {line : ℕ} {bytes : List ℕ} {done tokens : List Token} → Parts last rest line bytes done → AreAhead line bytes tokens → Behind last rest done tokens
behind_parts {tokens = tokens} none are = record { more = tokens; parts = refl; ahead = are }
behind_parts (gap n longest parts) (last, none) = absurd (stops_end Gap n longest tt)
behind_parts {bytes = bytes} (gap n longest parts) (last, gap m first more) = behind_parts parts (last, after _ _ _ _ n m _ (same_length bytes Gap Gap n m longest first) more)
behind_parts {bytes = bytes} (gap n longest parts) (last, token kind m first fits more) = absurd (let e = same_piece bytes Gap (Whole kind) n m longest first in cc)
behind_parts (token kind n longest fits parts) (last, none) = absurd (stops_end (Whole kind) n longest fits)
behind_parts {bytes = bytes} (token kind n longest fits parts) (last, gap m first more) = absurd (let e = same_piece bytes (Whole kind) Gap n m longest first in cc)
behind_parts {line = line} {bytes = bytes} (token kind n longest fits parts) (last, token other m first small more) =
    let same : kind ≡ other = let e = same_piece bytes (Whole kind) (Whole other) n m longest first in cc in
    let b = behind_parts parts (last, after _ _ _ _ n m _ (same_length bytes (Whole kind) (Whole other) n m longest first) more) in
    record { more = b.more; parts = let p = b.parts in cc; ahead = b.ahead }

-- behind blanks and comments the same tokens are ahead
pub past_gap : {line : ℕ} {bytes : List ℕ} {tokens : List Token} (piece : Piece) (n : ℕ) → ((kind : TokenKind) → piece ≡ Whole kind → ⊥) → ArePieces piece bytes n → ∥ AreAhead line bytes tokens ∥₁ → ∥ AreAhead (line + line_ends (take n bytes)) (drop n bytes) tokens ∥₁
past_gap {line = line} {bytes = bytes} {tokens = tokens} Gap n other first are = ∥∥₁_map are same
  where
    same : AreAhead line bytes tokens → AreAhead (line + line_ends (take n bytes)) (drop n bytes) tokens
    same a = let b = behind_parts (first.parts line) a in subst (λ (ts : List Token). AreAhead (line + line_ends (take n bytes)) (drop n bytes) ts) (sym b.parts) b.ahead
past_gap (Whole kind) n other first are = absurd (other kind refl)

at_end : {line : ℕ} {bytes : List ℕ} {tokens : List Token} → bytes ≡ [] → AreAhead line bytes tokens → tokens ≡ []
at_end e (last, none) = refl
at_end e (last, gap n first more) = absurd (stops_end Gap n (subst (λ (b : List ℕ). IsLongest Gap b n) e first) tt)
at_end e (last, token kind n first fits more) = absurd (stops_end (Whole kind) n (subst (λ (b : List ℕ). IsLongest (Whole kind) b n) e first) fits)

-- nothing that is ahead breaks a rule
pub no_break : {line : ℕ} {bytes : List ℕ} {tokens : List Token} (rule : LexRule) → bytes ≢ [] → Breaks rule bytes → ∥ AreAhead line bytes tokens ∥₁ → ⊥
no_break rule some breaks are = ∥∥₁_elim are (λ x. absurd x) (against rule some breaks)
  where
    against : {line : ℕ} {bytes : List ℕ} {tokens : List Token} (rule : LexRule) → bytes ≢ [] → Breaks rule bytes → AreAhead line bytes tokens → ⊥
    against rule some breaks (last, none) = some refl
    against rule some breaks (last, gap n first more) = stops_broken rule _ breaks Gap n first tt
    against rule some breaks (last, token kind n first fits more) = stops_broken rule _ breaks (Whole kind) n first fits

pub none_ahead : {line : ℕ} {bytes : List ℕ} {tokens : List Token} → bytes ≡ [] → ∥ AreAhead line bytes tokens ∥₁ → tokens ≡ []
none_ahead e are = ∥∥₁_elim are (tokens_set _ _) (at_end e)

-- what is ahead is one list
pub same_tokens : {line : ℕ} {bytes : List ℕ} {tokens : List Token} → AreOnly line bytes tokens → (a : Ahead line bytes) → tokens ≡ a.0
same_tokens {line = line} {bytes = bytes} {tokens = tokens} is a = ap (λ (x : Ahead line bytes). x.0) (Ahead-prop line bytes (tokens, is) a)

pub are_of : {line : ℕ} {bytes : List ℕ} {tokens : List Token} → AreOnly line bytes tokens → (given : List Token) → AreAhead line bytes given → AreAhead line bytes tokens
are_of {line = line} {bytes = bytes} is given are = subst (λ (ts : List Token). AreAhead line bytes ts) (sym (is.only given are)) are

module _ {line : ℕ} {bytes : List ℕ} {tokens : List Token} (kind : TokenKind) (n : ℕ) (first : ArePieces (Whole kind) bytes n) (are : ∥ AreAhead line bytes tokens ∥₁) {next : ℕ} {rest : List ℕ} (lines : next ≡ line + line_ends (take n bytes)) (rests : rest ≡ drop n bytes) where
  abbrev IsBehind : Type 0
  IsBehind = Behind (line + line_ends (take n bytes)) (drop n bytes) (token_of kind line ∷ []) tokens

  more_ahead : (b : IsBehind) → AreAhead next rest b.more
  more_ahead b = rw (lines, rests) b.ahead

  rest_ahead : AreAhead line bytes tokens → AreAhead next rest (drop 1 tokens)
  rest_ahead a = let b = behind_parts (first.parts line) a in rw b.parts (more_ahead b)

  -- the tokens behind the first
  pub behind : Ahead next rest
  behind = (drop 1 tokens, record { ahead = ∥∥₁_map are rest_ahead; only = λ other p. ∥∥₁_elim are (tokens_set _ _) (λ a. only (rest_ahead a) other p) })

  -- and the first before them
  pub with_first : {back : List Token} → AreOnly next rest back → tokens ≡ token_of kind line ∷ back
  with_first {back = back} is = ∥∥₁_elim are (tokens_set _ _) (λ a. first_of (behind_parts (first.parts line) a))
    where
      first_of : IsBehind → tokens ≡ token_of kind line ∷ back
      first_of b = let e = is.only b.more (more_ahead b) in let p = b.parts in cc
