-- What one line of a record says: a point as it is printed, or nothing (this project's profile).
use Rattle.std.specs.{Prelude.{◌≡◌, ◌≢◌, ℕ, ◌+◌, ◌==◌, ◌&&◌, ◌||◌, not, nat_lt, Bool, false, List, [], ◌∷◌, length, take, if◌then◌else◌, codes, Some, None, Ok, Err}, List.{find, list_all, position}}
use Rattle.std.specs.{Char.{is_ascii_digit}, Str.{bytes_eq}, declared.{option.Option.{Option}, result.Result.{Result}}}
use Rattle.osek_values.specs.declared.limits.TheConstants.{MAX_EVENT_LINE}
use Rattle.osek_standard.specs.{declared.{app.App.{App}, point.Point.{Point}}, Points.{IsPoint, points_in_order}}
use Rattle.trace_text.specs.{declared.fault.PointFault.{PointFault, TheVariants.{G1, G2, G3}}, EventWords.{is_some_word, is_comment, words}, PointTexts.{point_text}}

-- digits, of which the first is 0 only where it is alone
abbrev pub is_number : List ℕ → Bool
is_number [] = false
is_number (c ∷ cs) = list_all is_ascii_digit (c ∷ cs) && (not (c == 48) || not (is_some_word cs))

-- where the first slash stands
abbrev pub slash : List ℕ → Option ℕ
slash cs = position (λ c. c == 47) cs

-- what stands behind the `b` of a block: a number, or a number, a slash and more
abbrev pub is_block_form : List ℕ → Option ℕ → Bool
is_block_form cs None = is_number cs
is_block_form cs (Some k) = is_number (take k cs) && nat_lt (k + 1) (length cs)

abbrev pub is_block_word : List ℕ → Bool
is_block_word [] = false
is_block_word (c ∷ cs) = (c == 98) && is_block_form cs (slash cs)

-- the word is of the form of a point, whether it is one or not
abbrev pub is_point_form : List ℕ → Bool
is_point_form word = bytes_eq word (codes "halt") || bytes_eq word (codes "idle") || is_block_word word

-- a word that is no point is faulty, by its form
abbrev pub said_point : List ℕ → Option Point → Result (Option Point) PointFault
said_point word (Some p) = Ok (Some p)
said_point word None = Err (if is_point_form word then G2 else G1)

module _ (app : App) where
  -- the point whose text the word is, if it is one's
  abbrev pub IsPointOf : List ℕ → Option Point → Type 0
  IsPointOf word None = (p : Point) → IsPoint app p → point_text app p ≢ word
  IsPointOf word (Some p) = IsPoint app p × (point_text app p ≡ word)

  abbrev pub point_named : List ℕ → Option Point
  point_named word = find (λ p. bytes_eq (point_text app p) word) (points_in_order app)

  abbrev pub one_point : List ℕ → List (List ℕ) → Result (Option Point) PointFault
  one_point word [] = said_point word (point_named word)
  one_point word (more ∷ rest) = Err G1

  -- what the words of a line say: none, or a comment, is no point
  abbrev pub point_of_words : List (List ℕ) → Result (Option Point) PointFault
  point_of_words [] = Ok None
  point_of_words (word ∷ rest) = if is_comment word then Ok None else one_point word rest

  -- What a line says, without its LF and the CR before it. A line over MAX_EVENT_LINE bytes is faulty whatever it says.
  abbrev pub read_point_line : List ℕ → Result (Option Point) PointFault
  read_point_line line = if nat_lt MAX_EVENT_LINE (length line) then Err G3 else point_of_words (words line)
