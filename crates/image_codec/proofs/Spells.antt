-- A reader and a spelling that belong together: what is read is spelled so, and what is spelled so is read, whatever
-- follows. Records are built from their fields.
use Rattle.std.proofs.Common.{◌≡◌, ℕ, zero, suc, ◌+◌, ◌^◌, ◌<◌, ◌≤◌, Bool, true, false, ltb, List, [], ◌∷◌, ◌++◌, length, take, drop, Ok, refl, sym, ap, subst, ◌∙◌, append_assoc, arith, inl, inr}
use Rattle.std.specs.{Int.{Width, w16, w32, w64, byte_len, from_be_bytes, to_be_bytes}, List.{flat_map}}
use Rattle.std.proofs.lemmas.Bool.{cases_lt, ltb-false, le-ltb}
use Rattle.std.proofs.lemmas.List.{append-nil, take_at, drop_at, take-append-drop, length-append, length-take, get_or-drop, get_or-take, get_or_past}
use Rattle.std.proofs.lemmas.Nat.{be_bytes_2, be_bytes_4, be_bytes_8, from_be_bytes-to_be_bytes_2, from_be_bytes-to_be_bytes_4, from_be_bytes-to_be_bytes_8}
use Rattle.image_fields.specs.declared.fault.ImageRule.{ImageRule, TheVariants.{I1}}
use Rattle.image_codec.specs.Spelling.{one}
use Rattle.image_fields.proofs.Steps.{bind_ok, kept_ok, kept_again, enough_ok, done_with, ok_is}
use Rattle.image_fields.specs.Reading.{AreBytes, Read, ◌>>=◌, fault_at, kept, byte_at, number_at, tested_byte_at, tested_at, entries_at}

pub AreBytes-drop : (n : ℕ) (bytes : List ℕ) → AreBytes bytes → AreBytes (drop n bytes)
AreBytes-drop n bytes h i = rw get_or-drop (h (n + i))

pub AreBytes-take : (n : ℕ) (bytes : List ℕ) → AreBytes bytes → AreBytes (take n bytes)
AreBytes-take n bytes h i =
    elim (cases_lt i n) [
      | inl lt ↦ rw (get_or-take n bytes i 0 lt) (h i)
      | inr le ↦ rw (get_or_past (take n bytes) i 0 (omega (arith, length-take n bytes))) (omega arith)
    ]

pub AreBytes-rest : (b : ℕ) (bytes : List ℕ) → AreBytes (b ∷ bytes) → AreBytes bytes
AreBytes-rest b bytes h i = h (suc i)

-- what a reader took from the front
pub record Takes (bytes text rest : List ℕ) : Type 0 where
  pub parts : bytes ≡ text ++ rest
  pub rest_fits : AreBytes rest

pub Takes-then : (a x b y c : List ℕ) → Takes a x b → Takes b y c → Takes a (x ++ y) c
Takes-then a x b y c p q = record { parts = p.parts ∙ ap (λ (t : List ℕ). x ++ t) q.parts ∙ sym (append_assoc x y c); rest_fits = q.rest_fits }

module _ {X : Type 0} (read : List ℕ → Read X) (spell : X → List ℕ) (Good : X → Type 0) where
  pub record Spells : Type 0 where
    pub takes : (bytes : List ℕ) (x : X) (rest : List ℕ) → AreBytes bytes → read bytes ≡ Ok (x, rest) → Takes bytes (spell x) rest × Good x
    pub again : (x : X) (rest : List ℕ) → Good x → read (spell x ++ rest) ≡ Ok (x, rest)

-- a value that takes no bytes
pub nothing_more : {Y : Type 0} (v : Y) → Spells (λ bytes. Ok (v, bytes)) (λ _. []) (λ y. y ≡ v)
nothing_more {Y} v = record {
  takes = λ bytes y rest fits e.
      let same : (v, bytes) ≡ (y, rest) = ok_is (v, bytes) (y, rest) e in
      subst (λ (z : Y × List ℕ). Takes bytes [] z.1 × (z.0 ≡ v)) same (record { parts = refl; rest_fits = fits }, refl);
  again = λ y rest good. ap (λ (z : Y). done_with (z, rest)) (sym good);
}

-- a field, and what follows it, whose spelling depends on it: `part` is the field of the whole
pub and_then_by : {A Y : Type 0} (ra : List ℕ → Read A) (sa : A → List ℕ) (Ga : A → Type 0) (part : Y → A)
    (k : A → List ℕ → Read Y) (sk : A → Y → List ℕ) (Gk : A → Y → Type 0)
    → Spells ra sa Ga → ((a : A) → Ga a → Spells (k a) (sk a) (Gk a)) → ((a : A) (y : Y) → Ga a → Gk a y → part y ≡ a)
    → Spells (λ bytes. ra bytes >>= λ x. k x.0 x.1) (λ y. sa (part y) ++ sk (part y) y) (λ y. Ga (part y) × Gk (part y) y)
and_then_by {A} {Y} ra sa Ga part k sk Gk first second is_part = record {
  takes = λ bytes y rest fits e.
      let a = bind_ok (ra bytes) (λ x. k x.0 x.1) (y, rest) e in
      let t = first.takes bytes a.0.0 a.0.1 fits a.1 in
      let u = (second a.0.0 t.1).takes a.0.1 y rest t.0.rest_fits a.2 in
      let whole : Takes bytes (sa a.0.0 ++ sk a.0.0 y) rest = Takes-then bytes (sa a.0.0) a.0.1 (sk a.0.0 y) rest t.0 u.0 in
      subst (λ (z : A). Takes bytes (sa z ++ sk z y) rest × (Ga z × Gk z y)) (sym (is_part a.0.0 y t.1 u.1)) (whole, (t.1, u.1));
  again = λ y rest good.
      ap (λ (b : List ℕ). ra b >>= λ x. k x.0 x.1) (append_assoc (sa (part y)) (sk (part y) y) rest)
      ∙ ap (λ (r : Read A). r >>= λ x. k x.0 x.1) (first.again (part y) (sk (part y) y ++ rest) good.0)
      ∙ (second (part y) good.0).again y rest good.1;
}

-- the same where its spelling doesn't
pub and_then : {A Y : Type 0} (ra : List ℕ → Read A) (sa : A → List ℕ) (Ga : A → Type 0) (part : Y → A)
    (k : A → List ℕ → Read Y) (sk : Y → List ℕ) (Gk : A → Y → Type 0)
    → Spells ra sa Ga → ((a : A) → Ga a → Spells (k a) sk (Gk a)) → ((a : A) (y : Y) → Ga a → Gk a y → part y ≡ a)
    → Spells (λ bytes. ra bytes >>= λ x. k x.0 x.1) (λ y. sa (part y) ++ sk y) (λ y. Ga (part y) × Gk (part y) y)
and_then ra sa Ga part k sk Gk first second is_part = and_then_by ra sa Ga part k (λ _. sk) Gk first second is_part

-- the same with another word for the bytes and for what is good
pub said : {X : Type 0} (read : List ℕ → Read X) (spell : X → List ℕ) (Good : X → Type 0) (spell' : X → List ℕ) (Good' : X → Type 0)
    → Spells read spell Good → ((x : X) → spell x ≡ spell' x) → ((x : X) → Good x → Good' x) → ((x : X) → Good' x → Good x) → Spells read spell' Good'
said read spell Good spell' Good' law same to back = record {
  takes = λ bytes x rest fits e. let t = law.takes bytes x rest fits e in (subst (λ (s : List ℕ). Takes bytes s rest) (same x) t.0, to x t.1);
  again = λ x rest good. ap (λ (s : List ℕ). read (s ++ rest)) (sym (same x)) ∙ law.again x rest (back x good);
}

-- ---- bytes of several fields

pub joined2 : (a b : List ℕ) → a ++ (b ++ []) ≡ a ++ b
joined2 a b = ap (λ (l : List ℕ). a ++ l) (append-nil b)

pub joined4 : (a b c d : List ℕ) → a ++ (b ++ (c ++ (d ++ []))) ≡ a ++ b ++ c ++ d
joined4 a b c d = simp (append_assoc, append-nil)

pub joined6 : (a b c d e f : List ℕ) → a ++ (b ++ (c ++ (d ++ (e ++ (f ++ []))))) ≡ a ++ b ++ c ++ d ++ e ++ f
joined6 a b c d e f = simp (append_assoc, append-nil)

pub joined3 : (a b c : List ℕ) → a ++ (b ++ (c ++ [])) ≡ a ++ b ++ c
joined3 a b c = simp (append_assoc, append-nil)

pub joined8 : (a b c d e f g h : List ℕ) → a ++ (b ++ (c ++ (d ++ (e ++ (f ++ (g ++ (h ++ []))))))) ≡ a ++ b ++ c ++ d ++ e ++ f ++ g ++ h
joined8 a b c d e f g h = simp (append_assoc, append-nil)

-- ---- numbers

pub record IsWide (w : Width) (limit : ℕ) : Type 0 where
  pub len : (n : ℕ) → length (to_be_bytes w n) ≡ byte_len w
  pub back : (bytes : List ℕ) → length bytes ≡ byte_len w → AreBytes bytes → to_be_bytes w (from_be_bytes w bytes) ≡ bytes
  pub again : (n : ℕ) → n < limit → from_be_bytes w (to_be_bytes w n) ≡ n
  pub below : (bytes : List ℕ) → AreBytes bytes → from_be_bytes w bytes < limit

pub wide16 : IsWide w16 (2 ^ 16)
wide16 = record {
  len = λ n. refl;
  back = λ bytes len fits. be_bytes_2 bytes _ len fits refl;
  again = λ n lt. from_be_bytes-to_be_bytes_2 n lt;
  below = λ bytes fits. omega (arith, fits 0, fits 1);
}

pub wide32 : IsWide w32 (2 ^ 32)
wide32 = record {
  len = λ n. refl;
  back = λ bytes len fits. be_bytes_4 bytes _ len fits refl;
  again = λ n lt. from_be_bytes-to_be_bytes_4 n lt;
  below = λ bytes fits. omega (arith, fits 0, fits 1, fits 2, fits 3);
}

pub wide64 : IsWide w64 (2 ^ 64)
wide64 = record {
  len = λ n. refl;
  back = λ bytes len fits. be_bytes_8 bytes _ len fits refl;
  again = λ n lt. from_be_bytes-to_be_bytes_8 n lt;
  below = λ bytes fits. omega (arith, fits 0, fits 1, fits 2, fits 3, fits 4, fits 5, fits 6, fits 7);
}

pub number_law : (w : Width) (limit : ℕ) → IsWide w limit → Spells (number_at w) (to_be_bytes w) (λ n. n < limit)
number_law w limit wide = record {
  takes = λ bytes n rest fits e.
      let g = enough_ok (ltb (length bytes) (byte_len w)) (fault_at I1 bytes) (from_be_bytes w (take (byte_len w) bytes), drop (byte_len w) bytes) (n, rest) e in
      let long : byte_len w ≤ length bytes = ltb-false _ _ g.0 in
      let front : to_be_bytes w (from_be_bytes w (take (byte_len w) bytes)) ≡ take (byte_len w) bytes =
      wide.back (take (byte_len w) bytes) (omega (arith, length-take (byte_len w) bytes)) (AreBytes-take (byte_len w) bytes fits) in
      subst (λ (p : ℕ × List ℕ). Takes bytes (to_be_bytes w p.0) p.1 × (p.0 < limit)) g.1 (
        record { parts = rw front (sym (take-append-drop (byte_len w) bytes)); rest_fits = AreBytes-drop (byte_len w) bytes fits },
        wide.below (take (byte_len w) bytes) (AreBytes-take (byte_len w) bytes fits),
      );
  again = λ n rest lt.
      let len = wide.len n in
      let long : ltb (length (to_be_bytes w n ++ rest)) (byte_len w) ≡ false = le-ltb _ _ (omega (arith, length-append (to_be_bytes w n) rest)) in
      rw (long, take_at (to_be_bytes w n) rest (byte_len w) len, drop_at (to_be_bytes w n) rest (byte_len w) len, wide.again n lt) refl;
}

pub byte_takes : (bytes : List ℕ) (n : ℕ) (rest : List ℕ) → AreBytes bytes → byte_at bytes ≡ Ok (n, rest) → Takes bytes (one n) rest × (n < 256)
byte_takes [] n rest fits e = absurd cc
byte_takes (b ∷ bytes) n rest fits e =
    subst (λ (p : ℕ × List ℕ). Takes (b ∷ bytes) (one p.0) p.1 × (p.0 < 256)) (ok_is (b, bytes) (n, rest) e)
    (record { parts = refl; rest_fits = AreBytes-rest b bytes fits }, fits 0)

pub byte_law : Spells byte_at one (λ n. n < 256)
byte_law = record { takes = byte_takes; again = λ n rest lt. refl }

-- a field whose value passes a test
abbrev pub Tested : {A : Type 0} → (A → Bool) → (A → Type 0) → A → Type 0
Tested test Good x = Good x × (test x ≡ true)

abbrev pub tested_reader : {A : Type 0} → (List ℕ → Read A) → (A → Bool) → ImageRule → List ℕ → Read A
tested_reader read test rule bytes = read bytes >>= λ x. kept (test x.0) rule bytes x

pub tested_law : {A : Type 0} (read : List ℕ → Read A) (spell : A → List ℕ) (Good : A → Type 0) (test : A → Bool) (rule : ImageRule)
    → Spells read spell Good → Spells (tested_reader read test rule) spell (Tested test Good)
tested_law {A} read spell Good test rule law = record {
  takes = λ bytes x rest fits e.
      let a = bind_ok (read bytes) (λ y. kept (test y.0) rule bytes y) (x, rest) e in
      let g = kept_ok (test a.0.0) rule bytes a.0 (x, rest) a.2 in
      let t = law.takes bytes a.0.0 a.0.1 fits a.1 in
      subst (λ (p : A × List ℕ). Takes bytes (spell p.0) p.1 × Tested test Good p.0) g.1 (t.0, (t.1, g.0));
  again = λ x rest good.
      ap (λ (r : Read A). r >>= λ y. kept (test y.0) rule (spell x ++ rest) y) (law.again x rest good.0)
      ∙ kept_again (test x) rule (spell x ++ rest) (x, rest) good.1;
}

pub tested_byte_law : (test : ℕ → Bool) (rule : ImageRule) → Spells (tested_byte_at test rule) one (Tested test (λ n. n < 256))
unfolding tested_byte_at
tested_byte_law test rule = tested_law byte_at one (λ n. n < 256) test rule byte_law

pub tested_number_law : (w : Width) (limit : ℕ) → IsWide w limit → (test : ℕ → Bool) (rule : ImageRule) → Spells (tested_at w test rule) (to_be_bytes w) (Tested test (λ n. n < limit))
unfolding tested_at
tested_number_law w limit wide test rule = tested_law (number_at w) (to_be_bytes w) (λ n. n < limit) test rule (number_law w limit wide)

-- ---- tables

-- each entry is good beside the earlier ones
abbrev pub Each : {X : Type 0} → (List X → X → Type 0) → List X → List X → Type 0
Each Good earlier [] = Unit {0}
Each Good earlier (x ∷ xs) = Good earlier x × Each Good (earlier ++ x ∷ []) xs

-- so many entries, each good beside the earlier ones
abbrev pub GoodEntries : {X : Type 0} → (List X → X → Type 0) → ℕ → List X → Type 0
GoodEntries Good k xs = (length xs ≡ k) × Each Good [] xs

module _ {X : Type 0} (read_one : List X → List ℕ → Read X) (spell : X → List ℕ) (Good : List X → X → Type 0) (law : (earlier : List X) → Spells (read_one earlier) spell (Good earlier)) where
  -- what was read behind the earlier entries
  pub record TookEntries (earlier : List X) (k : ℕ) (bytes : List ℕ) (all : List X) (rest : List ℕ) : Type 0 where
    pub more : List X
    pub all_is : all ≡ earlier ++ more
    pub count : length more ≡ k
    pub takes : Takes bytes (flat_map spell more) rest
    pub each : Each Good earlier more

  entries_take : (k : ℕ) (earlier : List X) (bytes : List ℕ) (all : List X) (rest : List ℕ) → AreBytes bytes → entries_at read_one earlier k bytes ≡ Ok (all, rest) → TookEntries earlier k bytes all rest
  unfolding entries_at
  entries_take zero earlier bytes all rest fits e =
      subst (λ (p : List X × List ℕ). TookEntries earlier 0 bytes p.0 p.1) (ok_is (earlier, bytes) (all, rest) e)
      (record { more = []; all_is = sym (append-nil earlier); count = refl; takes = record { parts = refl; rest_fits = fits }; each = tt })
  entries_take (suc k) earlier bytes all rest fits e =
      let a = bind_ok (read_one earlier bytes) (λ x. entries_at read_one (earlier ++ x.0 ∷ []) k x.1) (all, rest) e in
      let t = (law earlier).takes bytes a.0.0 a.0.1 fits a.1 in
      let u = entries_take k (earlier ++ a.0.0 ∷ []) a.0.1 all rest t.0.rest_fits a.2 in
      record {
        more = a.0.0 ∷ u.more;
        all_is = u.all_is ∙ append_assoc earlier (a.0.0 ∷ []) u.more;
        count = ap suc u.count;
        takes = Takes-then bytes (spell a.0.0) a.0.1 (flat_map spell u.more) rest t.0 u.takes;
        each = (t.1, u.each);
      }

  entries_again : (more : List X) (earlier : List X) (rest : List ℕ) → Each Good earlier more → entries_at read_one earlier (length more) (flat_map spell more ++ rest) ≡ Ok (earlier ++ more, rest)
  unfolding entries_at
  entries_again [] earlier rest good = ap (λ (e : List X). done_with (e, rest)) (sym (append-nil earlier))
  entries_again (x ∷ xs) earlier rest good =
      ap (entries_at read_one earlier (suc (length xs))) (append_assoc (spell x) (flat_map spell xs) rest)
      ∙ ap (λ (r : Read X). r >>= λ y. entries_at read_one (earlier ++ y.0 ∷ []) (length xs) y.1) ((law earlier).again x (flat_map spell xs ++ rest) good.0)
      ∙ entries_again xs (earlier ++ x ∷ []) rest good.1
      ∙ ap (λ (e : List X). done_with (e, rest)) (append_assoc earlier (x ∷ []) xs)

  pub entries_law : (k : ℕ) → Spells (entries_at read_one [] k) (flat_map spell) (GoodEntries Good k)
  entries_law k = record {
    takes = λ bytes all rest fits e.
        let t = entries_take k [] bytes all rest fits e in
        subst (λ (xs : List X). Takes bytes (flat_map spell xs) rest × GoodEntries Good k xs) (sym t.all_is) (t.takes, (t.count, t.each));
    again = λ xs rest good.
        ap (λ (n : ℕ). entries_at read_one [] n (flat_map spell xs ++ rest)) (sym good.0) ∙ entries_again xs [] rest good.1;
  }
