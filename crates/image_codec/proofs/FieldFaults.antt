-- What reading a field gives is what the table of fields says.
use Rattle.std.proofs.Common.{◌≡◌, ℕ, suc, ◌+◌, Bool, true, false, cond, ◌&&◌, ◌||◌, List, [], ◌∷◌, ◌++◌, length, take, drop, get_or, Option, Some, None, Ok, Err, refl, sym, ap, subst, ◌∙◌, inl, inr, arith}
use Rattle.std.specs.{Prelude.{⊤, nat_lt, ◌==◌, slice_get}, Int.{Width, w8, w16, byte_len, from_be_bytes}, Str.{bytes_eq}}
use Rattle.std.proofs.lemmas.{Bool.{cases_lt, lt-ltb, le-ltb}, Option.{slice_get_cases, get_or_from_slice_get}}
use Rattle.osek_values.specs.{Names.{is_name}, Numbers.{block_no}}
use Rattle.osek_standard.specs.{Validity.{meet}, declared.objects.Task.{Task}}
use Rattle.image_fields.specs.declared.{fault.{ImageRule.{ImageRule, TheVariants.{I1, I2, I3, I4, I5}}, Fault.{Fault}}, parts.Range.{Range}}
use Rattle.image_fields.specs.Magic.{magic}
use Rattle.image_model.specs.declared.image.Version.{Version}
use Rattle.image_model.specs.declared.image.Version.TheVariants as version
use Rattle.image_fields.specs.TableReading.{version_of, version_at, is_property, property_at}
use Rattle.image_fields.specs.Reading.{Read, ◌>>=◌, fault_at, kept, found_at, further_byte_at, further_16_at, text_at, name_at, byte_at, byte_below_at, flag_at, number_at, tested_byte_at, tested_at, count_at, range_at}
use Rattle.image_codec.specs.FieldTable.{fault_of, Field, field, any, some, below, at_most, none_of, broken_at, or_later, first_broken, behind, front, magic_field, further_field, property_field, is_name_len, name_broken, name_field, first_field, count_field, range_fields, or_else}

-- reading gives this fault, or a value that is so, and leaves the rest
abbrev pub CoversAt : {A : Type 0} → (A → Type 0) → Option Fault → List ℕ → Read A → Type 0
CoversAt {A} P None rest read = (x : A) × (read ≡ Ok (x, rest)) × P x
CoversAt P (Some f) rest read = read ≡ Err f

-- what is read follows the fields
abbrev pub Covers : {A : Type 0} → (A → Type 0) → List Field → List ℕ → Read A → Type 0
Covers P fs bytes read = CoversAt P (first_broken fs bytes) (behind fs bytes) read

abbrev pub Any : {A : Type 0} → A → Type 0
Any x = ⊤

-- ---- fields behind fields

later_parted : (o : Option ImageRule) (bytes : List ℕ) (x y z : Option Fault) → x ≡ or_else y z → or_later o bytes x ≡ or_else (or_later o bytes y) z
later_parted None bytes x y z e = e
later_parted (Some rule) bytes x y z e = refl

parted : (fs gs : List Field) (bytes : List ℕ) → first_broken (fs ++ gs) bytes ≡ or_else (first_broken fs bytes) (first_broken gs (behind fs bytes))
parted [] gs bytes = refl
parted (f ∷ fs) gs bytes = later_parted (broken_at f bytes) bytes _ _ _ (parted fs gs (drop (f.size bytes) bytes))

behind_parted : (fs gs : List Field) (bytes : List ℕ) → behind (fs ++ gs) bytes ≡ behind gs (behind fs bytes)
behind_parted [] gs bytes = refl
behind_parted (f ∷ fs) gs bytes = behind_parted fs gs (drop (f.size bytes) bytes)

module _ {A B : Type 0} (P : A → Type 0) (Q : B → Type 0) where
  then_at : (o later : Option Fault) (middle rest : List ℕ) (r : Read A) (k : A → List ℕ → Read B)
      → CoversAt P o middle r → ((a : A) → P a → CoversAt Q later rest (k a middle)) → CoversAt Q (or_else o later) rest (r >>= λ x. k x.0 x.1)
  then_at None later middle rest r k h second = subst (CoversAt Q later rest) (sym (ap (λ (s : Read A). s >>= λ x. k x.0 x.1) h.1)) (second h.0 h.2)
  then_at (Some f) later middle rest r k h second = ap (λ (s : Read A). s >>= λ x. k x.0 x.1) h

  pub covers_then : (fs gs : List Field) (bytes : List ℕ) (r : Read A) (k : A → List ℕ → Read B)
      → Covers P fs bytes r → ((a : A) → P a → Covers Q gs (behind fs bytes) (k a (behind fs bytes))) → Covers Q (fs ++ gs) bytes (r >>= λ x. k x.0 x.1)
  covers_then fs gs bytes r k first second =
      let read : Read B = r >>= λ x. k x.0 x.1 in
      subst (λ (o : Option Fault). CoversAt Q o (behind (fs ++ gs) bytes) read) (sym (parted fs gs bytes))
      (subst (λ (rest : List ℕ). CoversAt Q (or_else (first_broken fs bytes) (first_broken gs (behind fs bytes))) rest read) (sym (behind_parted fs gs bytes))
      (then_at (first_broken fs bytes) (first_broken gs (behind fs bytes)) (behind fs bytes) (behind gs (behind fs bytes)) r k first second))

  -- a value made of what was read
  made_at : (o : Option Fault) (rest : List ℕ) (r : Read A) (make : A → B) → ((a : A) → P a → Q (make a)) → CoversAt P o rest r → CoversAt Q o rest (r >>= λ x. Ok (make x.0, x.1))
  made_at None rest r make so h = (make h.0, ap (λ (s : Read A). s >>= λ x. Ok (make x.0, x.1)) h.1, so h.0 h.2)
  made_at (Some f) rest r make so h = ap (λ (s : Read A). s >>= λ x. Ok (make x.0, x.1)) h

  pub covers_made : (fs : List Field) (bytes : List ℕ) (r : Read A) (make : A → B) → ((a : A) → P a → Q (make a)) → Covers P fs bytes r → Covers Q fs bytes (r >>= λ x. Ok (make x.0, x.1))
  covers_made fs bytes r make so h = made_at (first_broken fs bytes) (behind fs bytes) r make so h

-- whatever is read
any_at : {A : Type 0} (P : A → Type 0) (o : Option Fault) (rest : List ℕ) (r : Read A) → CoversAt P o rest r → CoversAt Any o rest r
any_at P None rest r h = (h.0, h.1, tt)
any_at P (Some f) rest r h = h

pub covers_any : {A : Type 0} (P : A → Type 0) (fs : List Field) (bytes : List ℕ) (r : Read A) → Covers P fs bytes r → Covers Any fs bytes r
covers_any P fs bytes r h = any_at P (first_broken fs bytes) (behind fs bytes) r h

-- ---- one field

abbrev pub rule_of : Bool → Bool → Bool → Option ImageRule
rule_of short in_range refers = cond short (Some I1) (cond in_range (cond refers None (Some I5)) (Some I3))

-- of a value that was read the rules are asked in order
pub kept_cross : {A : Type 0} (bytes rest : List ℕ) (x : A) (passes : Bool) → CoversAt (λ (y : A). y ≡ x) (or_later (rule_of false true passes) bytes None) rest (kept passes I5 bytes (x, rest))
kept_cross bytes rest x true = (x, refl, refl)
kept_cross bytes rest x false = refl

module _ (bytes rest : List ℕ) (n : ℕ) where
  abbrev pub number : Bool → Read ℕ
  number short = cond short (Err (fault_at I1 bytes)) (Ok (n, rest))

  abbrev Is : ℕ → Type 0
  Is m = m ≡ n

  number_by : (short : Bool) → CoversAt Is (or_later (rule_of short true true) bytes None) rest (number short)
  number_by true = refl
  number_by false = (n, refl, refl)

  kept_range : (passes : Bool) → CoversAt Is (or_later (rule_of false passes true) bytes None) rest (kept passes I3 bytes (n, rest))
  kept_range true = (n, refl, refl)
  kept_range false = refl

  tested_by : (test : ℕ → Bool) (short : Bool) → CoversAt Is (or_later (rule_of short (test n) true) bytes None) rest (number short >>= λ m. kept (test m.0) I3 bytes m)
  tested_by test true = refl
  tested_by test false = kept_range (test n)

  kept_both : (refers : ℕ → Bool) (passes : Bool) → CoversAt Is (or_later (rule_of false passes (refers n)) bytes None) rest (kept passes I3 bytes (n, rest) >>= λ m. kept (refers m.0) I5 bytes m)
  kept_both refers true = kept_cross bytes rest n (refers n)
  kept_both refers false = refl

  crossed_by : (test refers : ℕ → Bool) (short : Bool)
      → CoversAt Is (or_later (rule_of short (test n) (refers n)) bytes None) rest ((number short >>= λ m. kept (test m.0) I3 bytes m) >>= λ m. kept (refers m.0) I5 bytes m)
  crossed_by test refers true = refl
  crossed_by test refers false = kept_both refers (test n)

  cross_by : (refers : ℕ → Bool) (short : Bool) → CoversAt Is (or_later (rule_of short true (refers n)) bytes None) rest (number short >>= λ m. kept (refers m.0) I5 bytes m)
  cross_by refers true = refl
  cross_by refers false = kept_cross bytes rest n (refers n)

-- the number of a field of a width
abbrev pub Numbered : Width → List ℕ → ℕ → Type 0
Numbered w bytes n = n ≡ from_be_bytes w (take (byte_len w) bytes)

module _ (w : Width) (bytes : List ℕ) where
  abbrev here : ℕ
  here = from_be_bytes w (take (byte_len w) bytes)

  pub number_covers : Covers (Numbered w bytes) (field w any any ∷ []) bytes (number_at w bytes)
  number_covers = number_by bytes (drop (byte_len w) bytes) here (nat_lt (length bytes) (byte_len w))

  pub tested_covers : (test : ℕ → Bool) → Covers (Numbered w bytes) (field w test any ∷ []) bytes (tested_at w test I3 bytes)
  unfolding tested_at
  tested_covers test = tested_by bytes (drop (byte_len w) bytes) here test (nat_lt (length bytes) (byte_len w))

  pub crossed_covers : (test refers : ℕ → Bool) → Covers (Numbered w bytes) (field w test refers ∷ []) bytes (tested_at w test I3 bytes >>= λ m. kept (refers m.0) I5 bytes m)
  unfolding tested_at
  crossed_covers test refers = crossed_by bytes (drop (byte_len w) bytes) here test refers (nat_lt (length bytes) (byte_len w))

  pub cross_covers : (refers : ℕ → Bool) → Covers (Numbered w bytes) (field w any refers ∷ []) bytes (tested_at w refers I5 bytes)
  unfolding tested_at
  cross_covers refers = cross_by bytes (drop (byte_len w) bytes) here refers (nat_lt (length bytes) (byte_len w))

pub long : (n : ℕ) (rest : List ℕ) → nat_lt (length (n ∷ rest)) 1 ≡ false
long n rest = le-ltb (length (n ∷ rest)) 1 (omega arith)

-- a byte is a number of its width
byte_is : (bytes : List ℕ) → byte_at bytes ≡ number_at w8 bytes
byte_is [] = refl
byte_is (n ∷ rest) = ap (λ (short : Bool). number (n ∷ rest) rest n short) (sym (long n rest))

pub tested_byte_is : (test : ℕ → Bool) (bytes : List ℕ) → tested_byte_at test I3 bytes ≡ tested_at w8 test I3 bytes
unfolding tested_byte_at tested_at
tested_byte_is test bytes = ap (λ (r : Read ℕ). r >>= λ n. kept (test n.0) I3 bytes n) (byte_is bytes)

pub byte_covers : (test : ℕ → Bool) (bytes : List ℕ) → Covers (Numbered w8 bytes) (field w8 test any ∷ []) bytes (tested_byte_at test I3 bytes)
byte_covers test bytes = subst (Covers (Numbered w8 bytes) (field w8 test any ∷ []) bytes) (sym (tested_byte_is test bytes)) (tested_covers w8 bytes test)

-- a byte with a range, and a relation to what was read before
pub crossed_byte_covers : (test refers : ℕ → Bool) (bytes : List ℕ) → Covers (Numbered w8 bytes) (field w8 test refers ∷ []) bytes (tested_byte_at test I3 bytes >>= λ n. kept (refers n.0) I5 bytes n)
crossed_byte_covers test refers bytes =
    subst (λ (r : Read ℕ). Covers (Numbered w8 bytes) (field w8 test refers ∷ []) bytes (r >>= λ n. kept (refers n.0) I5 bytes n)) (sym (tested_byte_is test bytes)) (crossed_covers w8 bytes test refers)

-- an entry of a list by its number
abbrev pub Found : {X : Type 0} → Bool → X → Option X → Type 0
Found true x o = o ≡ Some x
Found false x o = o ≡ None

pub found_in : {X : Type 0} (xs : List X) (d : X) (n : ℕ) → Found (nat_lt n (length xs)) (get_or xs n d) (slice_get xs n)
found_in {X} xs d n =
    elim (slice_get_cases xs n).1 [
      | inl p ↦ subst (λ (b : Bool). Found b (get_or xs n d) (slice_get xs n)) (sym (lt-ltb n (length xs) p.1)) (p.2 ∙ ap (λ (x : X). Some x) (sym (get_or_from_slice_get xs n p.0 d p.2)))
      | inr q ↦ subst (λ (b : Bool). Found b (get_or xs n d) (slice_get xs n)) (sym (le-ltb n (length xs) q.0)) q.1
    ]

-- ---- the magic, and a name

version_by : (bytes rest : List ℕ) (one two : Bool)
    → CoversAt Any (or_later (cond (one || two) None (Some I2)) bytes None) rest (found_at I2 bytes rest (cond one (Some version.One) (cond two (Some version.Two) None)))
version_by bytes rest true two = (version.One, refl, tt)
version_by bytes rest false true = (version.Two, refl, tt)
version_by bytes rest false false = refl

abbrev eight_read : List ℕ → List ℕ → List ℕ → Bool → Read (List ℕ)
eight_read bytes text rest short = cond short (Err (fault_at I1 bytes)) (Ok (text, rest))

magic_by : (bytes text rest : List ℕ) (short : Bool)
    → CoversAt Any (or_later (cond short (Some I1) (cond (bytes_eq text (magic version.One) || bytes_eq text (magic version.Two)) None (Some I2))) bytes None) rest
    (eight_read bytes text rest short >>= λ x. found_at I2 bytes x.1 (version_of x.0))
magic_by bytes text rest true = refl
magic_by bytes text rest false = version_by bytes rest (bytes_eq text (magic version.One)) (bytes_eq text (magic version.Two))

pub magic_covers : (bytes : List ℕ) → Covers Any (magic_field ∷ []) bytes (version_at bytes)
unfolding version_at
magic_covers bytes = magic_by bytes (take 8 bytes) (drop 8 bytes) (nat_lt (length bytes) 8)

-- ---- fields of version 2 alone

pub further_byte_covers : (v : Version) (value : ℕ) (test : ℕ → Bool) (bytes : List ℕ) → Covers Any (further_field v (field w8 test any)) bytes (further_byte_at v value test bytes)
unfolding further_byte_at
further_byte_covers version.One value test bytes = (value, refl, tt)
further_byte_covers version.Two value test bytes = covers_any (Numbered w8 bytes) (field w8 test any ∷ []) bytes _ (byte_covers test bytes)

pub further_16_covers : (v : Version) (value : ℕ) (test : ℕ → Bool) (bytes : List ℕ) → Covers Any (further_field v (field w16 test any)) bytes (further_16_at v value test bytes)
unfolding further_16_at
further_16_covers version.One value test bytes = (value, refl, tt)
further_16_covers version.Two value test bytes = covers_any (Numbered w16 bytes) (field w16 test any ∷ []) bytes _ (tested_covers w16 bytes test)

-- what is made of a number is tested as the number is
module _ {B : Type 0} (make : ℕ → B) (test : B → Bool) (bytes : List ℕ) where
  kept_by : (n : ℕ) (rest : List ℕ) (passes : Bool) → kept passes I5 bytes (make n, rest) ≡ (kept passes I5 bytes (n, rest) >>= λ x. Ok (make x.0, x.1))
  kept_by n rest true = refl
  kept_by n rest false = refl

  kept_made : (r : Read ℕ) → ((r >>= λ x. Ok (make x.0, x.1)) >>= λ y. kept (test y.0) I5 bytes y) ≡ ((r >>= λ x. kept (test (make x.0)) I5 bytes x) >>= λ x. Ok (make x.0, x.1))
  kept_made (Ok (n, rest)) = kept_by n rest (test (make n))
  kept_made (Err f) = refl

abbrev is_one : ℕ → Bool
is_one n = n == 1

pub property_covers : (v : Version) (tasks : List Task) (r : ℕ) (bytes : List ℕ) → Covers Any (further_field v (property_field tasks r)) bytes (property_at v tasks r bytes)
unfolding property_at flag_at
property_covers version.One tasks r bytes = (false, refl, tt)
property_covers version.Two tasks r bytes =
    subst (Covers Any (property_field tasks r ∷ []) bytes) (sym (kept_made is_one (is_property tasks r) bytes (byte_below_at 2 bytes)))
    (covers_made (Numbered w8 bytes) Any (property_field tasks r ∷ []) bytes (byte_below_at 2 bytes >>= λ n. kept (is_property tasks r (is_one n.0)) I5 bytes n) is_one (λ _ _. tt)
    (crossed_byte_covers (below 2) (λ n. is_property tasks r (is_one n)) bytes))

short_same : (n k : ℕ) → nat_lt (suc n) (suc k) ≡ nat_lt n k
short_same n k =
    elim (cases_lt n k) [
      | inl lt ↦ lt-ltb (suc n) (suc k) (omega (arith, lt)) ∙ sym (lt-ltb n k lt)
      | inr le ↦ le-ltb (suc n) (suc k) (omega (arith, le)) ∙ sym (le-ltb n k le)
    ]

module _ (earlier : List (List ℕ)) (len : ℕ) (bytes : List ℕ) where
  abbrev whole_name : List ℕ
  whole_name = len ∷ bytes

  abbrev is_new : List ℕ → Bool
  is_new name = is_name name && none_of (λ m. bytes_eq m name) earlier

  name_kept : (name rest : List ℕ) (passes : Bool) → CoversAt Any (or_later (cond passes None (Some I4)) whole_name None) rest (kept passes I4 whole_name (name, rest))
  name_kept name rest true = (name, refl, tt)
  name_kept name rest false = refl

  name_text : (short : Bool) → is_name_len len ≡ true
      → CoversAt Any (or_later (cond short (Some I1) (name_broken earlier (len ∷ take len bytes))) whole_name None) (drop len bytes)
      (cond short (Err (fault_at I1 whole_name)) (Ok (take len bytes, drop len bytes)) >>= λ n. kept (is_new n.0) I4 whole_name n)
  name_text true e = refl
  name_text false e =
      subst (λ (g : Bool). CoversAt Any (or_later (cond (g && is_new (take len bytes)) None (Some I4)) whole_name None) (drop len bytes) (kept (is_new (take len bytes)) I4 whole_name (take len bytes, drop len bytes))) (sym e)
      (name_kept (take len bytes) (drop len bytes) (is_new (take len bytes)))

  abbrev with_len : Bool → Read (List ℕ)
  with_len good = kept good I4 whole_name (len, bytes) >>= λ l. text_at l.0 (length whole_name) l.1 >>= λ n. kept (is_new n.0) I4 whole_name n

  name_by : (good : Bool) → is_name_len len ≡ good
      → CoversAt Any (or_later (cond (nat_lt (length whole_name) (cond good (suc len) 1)) (Some I1) (name_broken earlier (take (cond good (suc len) 1) whole_name))) whole_name None) (drop (cond good (suc len) 1) whole_name) (with_len good)
  name_by true e =
      subst (λ (short : Bool). CoversAt Any (or_later (cond short (Some I1) (name_broken earlier (len ∷ take len bytes))) whole_name None) (drop len bytes) (with_len true)) (sym (short_same (length bytes) len))
      (name_text (nat_lt (length bytes) len) e)
  name_by false e =
      subst (λ (short : Bool). CoversAt Any (or_later (cond short (Some I1) (name_broken earlier (len ∷ []))) whole_name None) bytes (with_len false)) (sym (long len bytes))
      (subst (λ (g : Bool). CoversAt Any (or_later (cond (g && is_new []) None (Some I4)) whole_name None) bytes (with_len false)) (sym e) refl)

pub name_covers : (earlier : List (List ℕ)) (bytes : List ℕ) → Covers Any (name_field earlier ∷ []) bytes (name_at earlier bytes)
unfolding name_at tested_byte_at
name_covers earlier [] = refl
name_covers earlier (len ∷ bytes) = name_by earlier len bytes (is_name_len len) refl

-- ---- an owner's blocks

abbrev a_range : ℕ → ℕ → Range
a_range first count = record { first = block_no first; count = count }

pub range_covers : (blocks : ℕ) (earlier : List (ℕ × ℕ)) (bytes : List ℕ) → Covers Any (range_fields blocks earlier bytes) bytes (range_at blocks earlier bytes)
unfolding range_at count_at
range_covers blocks earlier bytes =
    covers_then (Numbered w16 bytes) Any (first_field blocks ∷ []) (count_field blocks earlier (front w16 bytes) ∷ []) bytes
    (tested_at w16 (below blocks) I3 bytes) (λ first rest. count_at blocks earlier first rest >>= λ count. Ok (a_range first count.0, count.1))
    (tested_covers w16 bytes (below blocks))
    (λ first is.
    let rest = behind (first_field blocks ∷ []) bytes in
    subst (λ (n : ℕ). Covers Any (count_field blocks earlier n ∷ []) rest (count_at blocks earlier first rest >>= λ count. Ok (a_range first count.0, count.1))) is
    (covers_made (Numbered w16 rest) Any (count_field blocks earlier first ∷ []) rest (count_at blocks earlier first rest) (a_range first) (λ _ _. tt)
    (crossed_covers w16 rest (λ n. some n && at_most blocks (first + n)) (λ n. none_of (λ o. meet o (first, n)) earlier))))

-- ---- the fault itself

pub fault_covered : {A : Type 0} (P : A → Type 0) (o : Option Fault) (rest : List ℕ) (r : Read A) → CoversAt P o rest r → fault_of r ≡ o
fault_covered {A} P None rest r h = ap (λ (s : Read A). fault_of s) h.1
fault_covered {A} P (Some f) rest r h = ap (λ (s : Read A). fault_of s) h
