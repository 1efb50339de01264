-- A text has at most one list of tokens or first fault.
use Rattle.std.proofs.Common.{◌≡◌, ℕ, ◌+◌, ◌<◌, ◌≤◌, ◌^◌, inl, inr, ⊎_elim, true, List, [], ◌∷◌, length, take, drop, arith, refl, sym, ◌∙◌, subst, ap}
use Rattle.std.specs.Prelude.{slice_index, Result, Ok, Err}
use Rattle.osek_values.specs.{Names.{is_digit}, declared.limits.TheConstants.{MAX_NAME}}
use Rattle.std.proofs.str.Laws.{order}
use Rattle.oil_lexer.specs.declared.classes.{Class.{Class, TheVariants.{Blank, Letter, Digit, Quote, Slash, Single, Nothing}}, ByteSet.TheVariants.{Digits}}
use Rattle.oil_lexer.specs.declared.token.{TokenKind.{TokenKind, TheVariants.{Name, Number}}, Piece.{Piece, TheVariants.{Gap, Whole}}, Token.{Token}}
use Rattle.osek_values.specs.declared.{refusal.LexRule.{LexRule, TheVariants.{L1, L2, L3, L4, L5, L6}}, refused.LineFault.{LineFault}}
use Rattle.oil_lexer.specs.{Classes.{class_of, AllIn}, Pieces.{IsOf, IsLongest, IsHex, is_x, Fits, Breaks}}
use Rattle.oil_lexer.specs.{Text.{Parts, none, gap, token, line_ends, token_of, AreTokens, IsFirstFault}, Answers.{IsAnswer}}

x_no_digit : (b : ℕ) → is_x b ≡ true → is_digit b ≡ true → ⊥
x_no_digit b x d = grind arith

no_hex : (bytes : List ℕ) (n : ℕ) → AllIn Digits bytes 1 n → IsHex bytes n → ⊥
no_hex bytes n all h = x_no_digit (slice_index bytes 1) h.x_second (all 1 (omega arith) (omega (arith, h.long)))

same_of : (class : Class) (p q : Piece) (bytes : List ℕ) (n : ℕ) → IsOf class p bytes n → IsOf class q bytes n → p ≡ q
same_of Blank p q bytes n a b = a.0 ∙ sym b.0
same_of Letter p q bytes n a b = a.0 ∙ sym b.0
same_of Digit p q bytes n (inl a) (inl b) = a.0 ∙ sym b.0
same_of Digit p q bytes n (inl a) (inr b) = absurd (no_hex bytes n a.1 b.1)
same_of Digit p q bytes n (inr a) (inl b) = absurd (no_hex bytes n b.1 a.1)
same_of Digit p q bytes n (inr a) (inr b) = a.0 ∙ sym b.0
same_of Quote p q bytes n a b = a.0 ∙ sym b.0
same_of Slash p q bytes n a b = a.0 ∙ sym b.0
same_of (Single mark) p q bytes n a b = a.0 ∙ sym b.0
same_of Nothing p q bytes n a b = absurd a

pub same_length : (bytes : List ℕ) (p q : Piece) (n m : ℕ) → IsLongest p bytes n → IsLongest q bytes m → n ≡ m
same_length bytes p q n m a b =
    ⊎_elim (λ lt. absurd (a.longest q m lt b.piece_is)) (λ le. ⊎_elim (λ lt. absurd (b.longest p n lt a.piece_is)) (λ ge. omega arith) (order m n)) (order n m)

pub same_piece : (bytes : List ℕ) (p q : Piece) (n m : ℕ) → IsLongest p bytes n → IsLongest q bytes m → p ≡ q
same_piece bytes p q n m a b =
    let b' : IsLongest q bytes n = subst (λ (k : ℕ). IsLongest q bytes k) (sym (same_length bytes p q n m a b)) b in
    same_of (class_of (slice_index bytes 0)) p q bytes n a.piece_is.is b'.piece_is.is

-- no whole piece stands here
abbrev pub Stops : List ℕ → Type 0
Stops rest = (p : Piece) (n : ℕ) → IsLongest p rest n → Fits p → ⊥

pub record Same (last last' : ℕ) (rest rest' : List ℕ) (tokens tokens' : List Token) : Type 0 where
  pub lasts : last ≡ last'
  pub rests : rest ≡ rest'
  pub all : tokens ≡ tokens'

with_token : (line : ℕ) (kind kind' : TokenKind) → kind ≡ kind' → {last last' : ℕ} {rest rest' : List ℕ} {tokens tokens' : List Token} → Same last last' rest rest' tokens tokens' → Same last last' rest rest' (token_of kind line ∷ tokens) (token_of kind' line ∷ tokens')
with_token line kind kind' e s = record { lasts = s.lasts; rests = s.rests; all = let all = s.all in cc }

pub after : (last' : ℕ) (rest' : List ℕ) (line : ℕ) (bytes : List ℕ) (n m : ℕ) (tokens : List Token) → n ≡ m → Parts last' rest' (line + line_ends (take m bytes)) (drop m bytes) tokens → Parts last' rest' (line + line_ends (take n bytes)) (drop n bytes) tokens
after last' rest' line bytes n m tokens e more = subst (λ (k : ℕ). Parts last' rest' (line + line_ends (take k bytes)) (drop k bytes) tokens) (sym e) more

pub unique : {last last' : ℕ} {rest rest' : List ℕ} {line : ℕ} {bytes : List ℕ} {tokens tokens' : List Token} → Stops rest → Stops rest' → Parts last rest line bytes tokens → Parts last' rest' line bytes tokens' → Same last last' rest rest' tokens tokens'
unique s s' none none = record { lasts = refl; rests = refl; all = refl }
unique s s' none (gap n longest more) = absurd (s Gap n longest tt)
unique s s' none (token kind n longest fits more) = absurd (s (Whole kind) n longest fits)
unique s s' (gap n longest more) none = absurd (s' Gap n longest tt)
unique s s' (token kind n longest fits more) none = absurd (s' (Whole kind) n longest fits)
unique s s' (gap n longest more) (gap m longest' more') = unique s s' more (after _ _ _ _ n m _ (same_length _ Gap Gap n m longest longest') more')
unique s s' (gap n longest more) (token kind m longest' fits more') = absurd (let e = same_piece _ Gap (Whole kind) n m longest longest' in cc)
unique s s' (token kind n longest fits more) (gap m longest' more') = absurd (let e = same_piece _ (Whole kind) Gap n m longest longest' in cc)
unique s s' (token kind n longest fits more) (token kind' m longest' fits' more') =
    let same : kind ≡ kind' = let e = same_piece _ (Whole kind) (Whole kind') n m longest longest' in cc in
    with_token _ _ _ same (unique s s' more (after _ _ _ _ n m _ (same_length _ (Whole kind) (Whole kind') n m longest longest') more'))

pub stops_end : Stops []
stops_end p n longest fits = omega (arith, longest.piece_is.nonempty, longest.piece_is.in_range)

pub stops_broken : (rule : LexRule) (rest : List ℕ) → Breaks rule rest → Stops rest
stops_broken L1 rest b p n longest fits = b.0 p n longest.piece_is
stops_broken L2 rest b p n longest fits = b.0 p n longest.piece_is
stops_broken L3 rest b p n longest fits = b.0 p n longest.piece_is
stops_broken L4 rest (v, m, number, large) p n longest fits =
    let small : v < 2 ^ 64 = subst Fits (same_piece rest p (Whole (Number v)) n m longest number) fits in
    omega arith
stops_broken L5 rest (name, m, word, large) p n longest fits =
    let small : length name ≤ MAX_NAME = subst Fits (same_piece rest p (Whole (Name name)) n m longest word) fits in
    omega arith
stops_broken L6 rest b p n longest fits = b

-- two rules that one prefix breaks are the same
same_rule : (r s : LexRule) (rest : List ℕ) → Breaks r rest → Breaks s rest → r ≡ s
same_rule L1 L1 rest a b = refl
same_rule L1 L2 rest a b = absurd (a.1 b.1)
same_rule L1 L3 rest a b = absurd (a.2 b.1)
same_rule L1 L4 rest a b = absurd (a.0 _ _ b.2.piece_is)
same_rule L1 L5 rest a b = absurd (a.0 _ _ b.2.piece_is)
same_rule L2 L1 rest a b = absurd (b.1 a.1)
same_rule L2 L2 rest a b = refl
same_rule L2 L3 rest a b = absurd (omega (arith, a.1.0, b.1))
same_rule L2 L4 rest a b = absurd (a.0 _ _ b.2.piece_is)
same_rule L2 L5 rest a b = absurd (a.0 _ _ b.2.piece_is)
same_rule L3 L1 rest a b = absurd (b.2 a.1)
same_rule L3 L2 rest a b = absurd (omega (arith, b.1.0, a.1))
same_rule L3 L3 rest a b = refl
same_rule L3 L4 rest a b = absurd (a.0 _ _ b.2.piece_is)
same_rule L3 L5 rest a b = absurd (a.0 _ _ b.2.piece_is)
same_rule L4 L1 rest a b = absurd (b.0 _ _ a.2.piece_is)
same_rule L4 L2 rest a b = absurd (b.0 _ _ a.2.piece_is)
same_rule L4 L3 rest a b = absurd (b.0 _ _ a.2.piece_is)
same_rule L4 L4 rest a b = refl
same_rule L4 L5 rest a b = absurd (let e = same_piece rest _ _ _ _ a.2 b.2 in cc)
same_rule L5 L1 rest a b = absurd (b.0 _ _ a.2.piece_is)
same_rule L5 L2 rest a b = absurd (b.0 _ _ a.2.piece_is)
same_rule L5 L3 rest a b = absurd (b.0 _ _ a.2.piece_is)
same_rule L5 L4 rest a b = absurd (let e = same_piece rest _ _ _ _ a.2 b.2 in cc)
same_rule L5 L5 rest a b = refl
same_rule L6 s rest a b = absurd a
same_rule r L6 rest a b = absurd b

same_tokens : (bytes : List ℕ) (a b : List Token) → AreTokens bytes a → AreTokens bytes b → a ≡ b
same_tokens bytes a b x y = (unique stops_end stops_end x.parts.1 y.parts.1).all

no_fault : (bytes : List ℕ) (a : List Token) (fault : LineFault LexRule) → AreTokens bytes a → IsFirstFault bytes fault → ⊥
no_fault bytes a fault x (inl over) = omega (arith, over.0, x.within)
no_fault bytes a fault x (inr f) =
    let found = f.found in
    found.3 (sym (unique stops_end (stops_broken fault.rule found.0 found.4) x.parts.1 found.2).rests)

same_fault : (bytes : List ℕ) (f g : LineFault LexRule) → IsFirstFault bytes f → IsFirstFault bytes g → f ≡ g
same_fault bytes f g (inl a) (inl b) = a.1 ∙ sym b.1
same_fault bytes f g (inl a) (inr b) = absurd (omega (arith, a.0, b.within))
same_fault bytes f g (inr a) (inl b) = absurd (omega (arith, b.0, a.within))
same_fault bytes f g (inr a) (inr b) =
    let x = a.found in
    let y = b.found in
    let same = unique (stops_broken f.rule x.0 x.4) (stops_broken g.rule y.0 y.4) x.2 y.2 in
    let lines : f.line ≡ g.line = same.lasts in
    let rules : f.rule ≡ g.rule = same_rule f.rule g.rule y.0 (subst (Breaks f.rule) same.rests x.4) y.4 in
    (λ i. record { rule = rules i; line = lines i })

pub one_answer : (bytes : List ℕ) (a b : Result (List Token) (LineFault LexRule)) → IsAnswer a bytes → IsAnswer b bytes → a ≡ b
one_answer bytes (Ok x) (Ok y) a b = ap Ok (same_tokens bytes x y a b)
one_answer bytes (Ok x) (Err f) a b = absurd (no_fault bytes x f a b)
one_answer bytes (Err f) (Ok y) a b = absurd (no_fault bytes y f b a)
one_answer bytes (Err f) (Err g) a b = ap Err (same_fault bytes f g a b)
