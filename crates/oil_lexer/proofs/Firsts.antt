-- The first byte of a name is a letter, that of a number a digit, that of a text a quotation mark, that of a comment a
-- slash.
use Rattle.std.proofs.Common.{◌≡◌, ℕ, Bool, true, false, cond, refl, arith}
use Rattle.std.specs.Prelude.{Option, Some, None, ◌==◌}
use Rattle.osek_values.specs.Names.{is_letter, is_digit}
use Rattle.oil_lexer.specs.{declared.{token.Mark.{Mark}, classes.Class.TheVariants.{Blank, Letter, Digit, Quote, Slash}}, Classes.{is_blank, class_of_mark, class_of}}

not_digit : (mark : Option Mark) → class_of_mark mark ≡ Digit → ⊥
not_digit None e = cc
not_digit (Some mark) e = cc

not_letter : (mark : Option Mark) → class_of_mark mark ≡ Letter → ⊥
not_letter None e = cc
not_letter (Some mark) e = cc

digit_class : (blank letter digit quote slash : Bool) (mark : Option Mark) → cond blank Blank (cond letter Letter (cond digit Digit (cond quote Quote (cond slash Slash (class_of_mark mark))))) ≡ Digit → digit ≡ true
digit_class true _ _ _ _ mark e = cc
digit_class false true _ _ _ mark e = cc
digit_class false false true _ _ mark e = refl
digit_class false false false true _ mark e = cc
digit_class false false false false true mark e = cc
digit_class false false false false false mark e = absurd (not_digit mark e)

letter_class : (blank letter digit quote slash : Bool) (mark : Option Mark) → cond blank Blank (cond letter Letter (cond digit Digit (cond quote Quote (cond slash Slash (class_of_mark mark))))) ≡ Letter → letter ≡ true
letter_class true _ _ _ _ mark e = cc
letter_class false true _ _ _ mark e = refl
letter_class false false true _ _ mark e = cc
letter_class false false false true _ mark e = cc
letter_class false false false false true mark e = cc
letter_class false false false false false mark e = absurd (not_letter mark e)

not_quote : (mark : Option Mark) → class_of_mark mark ≡ Quote → ⊥
not_quote None e = cc
not_quote (Some mark) e = cc

not_slash : (mark : Option Mark) → class_of_mark mark ≡ Slash → ⊥
not_slash None e = cc
not_slash (Some mark) e = cc

quote_class : (blank letter digit quote slash : Bool) (mark : Option Mark) → cond blank Blank (cond letter Letter (cond digit Digit (cond quote Quote (cond slash Slash (class_of_mark mark))))) ≡ Quote → quote ≡ true
quote_class true _ _ _ _ mark e = cc
quote_class false true _ _ _ mark e = cc
quote_class false false true _ _ mark e = cc
quote_class false false false true _ mark e = refl
quote_class false false false false true mark e = cc
quote_class false false false false false mark e = absurd (not_quote mark e)

slash_class : (blank letter digit quote slash : Bool) (mark : Option Mark) → cond blank Blank (cond letter Letter (cond digit Digit (cond quote Quote (cond slash Slash (class_of_mark mark))))) ≡ Slash → slash ≡ true
slash_class true _ _ _ _ mark e = cc
slash_class false true _ _ _ mark e = cc
slash_class false false true _ _ mark e = cc
slash_class false false false true _ mark e = cc
slash_class false false false false true mark e = refl
slash_class false false false false false mark e = absurd (not_slash mark e)

pub digit_first : (b : ℕ) → class_of b ≡ Digit → is_digit b ≡ true
digit_first b e = digit_class (is_blank b) (is_letter b) (is_digit b) _ _ _ e

pub letter_first : (b : ℕ) → class_of b ≡ Letter → is_letter b ≡ true
letter_first b e = letter_class (is_blank b) (is_letter b) (is_digit b) _ _ _ e

pub quote_first : (b : ℕ) → class_of b ≡ Quote → b ≡ 34
quote_first b e = let first : (b == 34) ≡ true = quote_class (is_blank b) (is_letter b) (is_digit b) (b == 34) _ _ e in grind arith

pub slash_first : (b : ℕ) → class_of b ≡ Slash → b ≡ 47
slash_first b e = let first : (b == 47) ≡ true = slash_class (is_blank b) (is_letter b) (is_digit b) (b == 34) (b == 47) _ e in grind arith
