-- Plain words are no flags.
use Rattle.std.proofs.Common.{◌≡◌, Bool, true, false, ◌&&◌, List, [], ◌∷◌, None, map, refl, ap}
use Rattle.std.specs.{Prelude.{not, ◌==◌}, List.{list_all}, Str.{bytes_eq}}
use Rattle.clap.specs.{Lexer.{long_of, short_of}, Words.{Text}}
use Rattle.command_words.specs.Forms.{is_plain}

pub all_of_map : {X Y : Type 0} (p : Y → Bool) (f : X → Y) (xs : List X) → list_all p (map f xs) ≡ list_all (λ x. p (f x)) xs
all_of_map p f [] = refl
all_of_map p f (x ∷ xs) = ap (λ b. p (f x) && b) (all_of_map p f xs)

-- a word that is no flag
pub record IsPlainWord (w : Text) : Type 0 where
  pub dashes : bytes_eq w (45 ∷ 45 ∷ []) ≡ false
  pub long : long_of w ≡ None
  pub short : short_of w ≡ None

not_false : (b : Bool) → not b ≡ true → b ≡ false
not_false true e = absurd (cc)
not_false false e = refl

plain_word : (w : Text) → is_plain w ≡ true → IsPlainWord w
plain_word [] e = absurd (cc)
plain_word (c ∷ cs) e = let other = not_false (c == 45) e in record { dashes = rw other refl; long = rw other refl; short = rw other refl }

abbrev pub ArePlain : List Text → Type 0
ArePlain [] = Unit {0}
ArePlain (w ∷ ws) = IsPlainWord w × ArePlain ws

pub both : (a b : Bool) → (a && b) ≡ true → (a ≡ true) × (b ≡ true)
both true b e = (refl, e)
both false b e = absurd (cc)

pub plain_words : (ws : List Text) → list_all is_plain ws ≡ true → ArePlain ws
plain_words [] e = tt
plain_words (w ∷ ws) e = let h = both (is_plain w) (list_all is_plain ws) e in (plain_word w h.0, plain_words ws h.1)
