-- Words of digits, and what is read of them.
use Rattle.std.proofs.Common.{◌≡◌, ℕ, ◌^◌, Bool, true, false, ◌&&◌, List, [], ◌∷◌, length, nat_lt, refl, sym, ap, Some, None, Err}
use Rattle.std.proofs.lemmas.Str.Parse.{numerals_by_value, tells_all_ascii_digits, parse_digits}
use Rattle.std.specs.{Prelude.{if◌then◌else◌}, Char.{is_ascii_digit}, List.{list_all}, Str.{all_ascii_digits, Parse.{ParsesUnsigned, digits_value}}}
use borrow.Author.Tests.{ltb-true}
use Rattle.command_words.specs.Numerals.{number_of}

pub all_digits : (word : List ℕ) → list_all is_ascii_digit word ≡ all_ascii_digits word
all_digits [] = refl
all_digits (c ∷ cs) = ap (λ b. is_ascii_digit c && b) (all_digits cs)

-- nothing is read where one of two tests fails
unread : (a b : Bool) (n : ℕ) → (a ≡ true → b ≡ true → ⊥) → (if a && b then Some n else None) ≡ None
unread false b n never = refl
unread true false n never = refl
unread true true n never = absurd (never refl refl)

pub number-none : {E : Type 0} (word : List ℕ) (e : E) → all_ascii_digits word ≡ true → ParsesUnsigned 64 10 word (Err e) → None ≡ number_of word
number-none word e digits parsed =
    let none = parse_digits (numerals_by_value _ tells_all_ascii_digits) 64 word (Err e) parsed digits in
    rw digits (sym (unread (nat_lt 0 (length word)) (nat_lt (digits_value 10 word) (2 ^ 64)) (digits_value 10 word)
    (λ some fits. none (ltb-true 0 (length word) some, ltb-true (digits_value 10 word) (2 ^ 64) fits))))
