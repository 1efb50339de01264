-- Reading the fields of bytes in order, with the first fault that is met.
use Rattle.std.specs.Prelude.{◌≡◌, ℕ, zero, suc, ◌+◌, ◌^◌, ◌<◌, Bool, not, ◌&&◌, nat_lt, nat_le, ◌==◌, List, [], ◌∷◌, ◌++◌, length, take, drop, slice_index, Option, Some, None, Result, Ok, Err, if◌then◌else◌}
use Rattle.std.specs.{Int.{Width, w16, byte_len, from_be_bytes}, List.{list_any}, Str.{bytes_eq}}
use Rattle.osek_values.specs.{declared.limits.TheConstants.{MAX_NAME}, Names.{is_name}, Numbers.{block_no}}
use Rattle.osek_standard.specs.Validity.{meet}
use Rattle.image_fields.specs.declared.fault.{ImageRule.{ImageRule, TheVariants.{I1, I3, I4, I5}}, Fault.{Fault}}
use Rattle.osek_values.specs.declared.refused.Refused.{Refused}
use Rattle.osek_values.specs.declared.refused.Refused.TheVariants as errors
use Rattle.image_fields.specs.declared.parts.Range.{Range}
use Rattle.image_model.specs.declared.image.Version.{Version}
use Rattle.image_model.specs.declared.image.Version.TheVariants as version

-- each is a byte
abbrev pub AreBytes : List ℕ → Type 0
AreBytes bytes = (i : ℕ) → slice_index bytes i < 256

-- A field is a value and the bytes after it, or a fault.
abbrev pub Read : Type 0 → Type 0
Read A = Result (A × List ℕ) Fault

infixl 10 ◌>>=◌
abbrev pub ◌>>=◌ : {A B : Type 0} → Result A Fault → (A → Result B Fault) → Result B Fault
(Ok x) >>= f = f x
(Err e) >>= f = Err e

-- What a function returned and left, seen by view, is what reading gives, unless memory ran out.
abbrev pub Fails : {Y : Type 0} → Refused Fault → Result Y Fault → Type 0
Fails errors.Memory read = Unit {0}
Fails (errors.Fault f) read = read ≡ Err f

abbrev pub Gives : {X Y : Type 0} → (X → Y) → Result X (Refused Fault) → List ℕ → Read Y → Type 0
Gives view (Ok x) rest read = read ≡ Ok (view x, rest)
Gives view (Err e) rest read = Fails e read

-- a fault at the field that begins with these bytes
abbrev pub fault_at : ImageRule → List ℕ → Fault
fault_at rule bytes = record { rule = rule; left = length bytes }

-- what was read, where the test passes
abbrev pub kept : {A : Type 0} → Bool → ImageRule → List ℕ → A × List ℕ → Read A
kept test rule bytes x = if test then Ok x else Err (fault_at rule bytes)

abbrev pub byte_at : List ℕ → Read ℕ
byte_at [] = Err (fault_at I1 [])
byte_at (b ∷ rest) = Ok (b, rest)

-- a big-endian number
abbrev pub number_at : Width → List ℕ → Read ℕ
number_at w bytes =
    if nat_lt (length bytes) (byte_len w) then Err (fault_at I1 bytes)
    else Ok (from_be_bytes w (take (byte_len w) bytes), drop (byte_len w) bytes)

-- a byte that passes a test
unfoldable pub tested_byte_at : (ℕ → Bool) → ImageRule → List ℕ → Read ℕ
tested_byte_at test rule bytes = do
  b ← byte_at bytes
  kept (test b.0) rule bytes b

-- a number that passes a test
unfoldable pub tested_at : Width → (ℕ → Bool) → ImageRule → List ℕ → Read ℕ
tested_at w test rule bytes = do
  n ← number_at w bytes
  kept (test n.0) rule bytes n

abbrev pub byte_below_at : ℕ → List ℕ → Read ℕ
byte_below_at limit bytes = tested_byte_at (λ n. nat_lt n limit) I3 bytes

-- what stands for the field that was read, if anything does
abbrev pub found_at : {X : Type 0} → ImageRule → List ℕ → List ℕ → Option X → Read X
found_at rule bytes rest None = Err (fault_at rule bytes)
found_at rule bytes rest (Some x) = Ok (x, rest)

-- A byte that version 2 alone has, and that passes a test there; in version 1 it is this one.
unfoldable pub further_byte_at : Version → ℕ → (ℕ → Bool) → List ℕ → Read ℕ
further_byte_at version.One value test bytes = Ok (value, bytes)
further_byte_at version.Two value test bytes = tested_byte_at test I3 bytes

-- the same of a number of two bytes
unfoldable pub further_16_at : Version → ℕ → (ℕ → Bool) → List ℕ → Read ℕ
further_16_at version.One value test bytes = Ok (value, bytes)
further_16_at version.Two value test bytes = tested_at w16 test I3 bytes

-- so many bytes, in a field before which so many were left
abbrev pub text_at : ℕ → ℕ → List ℕ → Read (List ℕ)
text_at len left bytes = if nat_lt (length bytes) len then Err (record { rule = I1; left = left }) else Ok (take len bytes, drop len bytes)

-- a length, and so many bytes that form a name which no earlier entry of the table has
unfoldable pub name_at : List (List ℕ) → List ℕ → Read (List ℕ)
name_at earlier bytes = do
  len ← tested_byte_at (λ n. nat_lt 0 n && nat_le n MAX_NAME) I4 bytes
  name ← text_at len.0 (length bytes) len.1
  kept (is_name name.0 && not (list_any (λ m. bytes_eq m name.0) earlier)) I4 bytes name

-- a set of modes, bit k for mode k
abbrev pub modes_at : ℕ → List ℕ → Read ℕ
modes_at modes bytes = tested_byte_at (λ n. nat_lt n (2 ^ modes)) I3 bytes

-- how many blocks an owner has from its first on: some, within the blocks, none of which an earlier owner has
unfoldable pub count_at : ℕ → List (ℕ × ℕ) → ℕ → List ℕ → Read ℕ
count_at blocks earlier first bytes = do
  count ← tested_at w16 (λ n. nat_lt 0 n && nat_le (first + n) blocks) I3 bytes
  kept (not (list_any (λ o. meet o (first, count.0)) earlier)) I5 bytes count

-- an owner's blocks
unfoldable pub range_at : ℕ → List (ℕ × ℕ) → List ℕ → Read Range
range_at blocks earlier bytes = do
  first ← tested_at w16 (λ n. nat_lt n blocks) I3 bytes
  count ← count_at blocks earlier first.0 first.1
  Ok (record { first = block_no first.0; count = count.0 }, count.1)

-- a byte that is 0 or 1
unfoldable pub flag_at : List ℕ → Read Bool
flag_at bytes = do
  n ← byte_below_at 2 bytes
  Ok (n.0 == 1, n.1)

-- so many entries, each read beside the earlier ones
unfoldable pub entries_at : {X : Type 0} → (List X → List ℕ → Read X) → List X → ℕ → List ℕ → Read (List X)
entries_at one earlier zero bytes = Ok (earlier, bytes)
entries_at one earlier (suc k) bytes = do
  x ← one earlier bytes
  entries_at one (earlier ++ x.0 ∷ []) k x.1
