-- Readers of fields and their spellings.
use Rattle.std.proofs.Common.{◌≡◌, ℕ, zero, suc, ◌+◌, ◌^◌, ◌<◌, ◌≤◌, Bool, true, false, not, ◌&&◌, eqb, ltb, List, [], ◌∷◌, ◌++◌, length, take, drop, Ok, refl, sym, ap, subst, ◌∙◌, arith}
use Rattle.std.specs.{Prelude.{nat_lt, nat_le}, Int.{w16}, List.{list_any}, Str.{bytes_eq}}
use Rattle.std.proofs.lemmas.{Bool.{ltb-true, ltb-false, leb-true, lt-ltb, le-ltb, le-leb, and_parts, and_from}, Slice.Eq.{bytes_eq-Decides}}
use Rattle.std.proofs.lemmas.List.{take_at, drop_at, take-append-drop, length-append, length-take}
use Rattle.osek_values.specs.{Names.{is_word, is_name}, Numbers.{block_no}}
use Rattle.oil_system.specs.declared.objects.Schedule.{Schedule, TheVariants.{Non, Full}}
use Rattle.osek_standard.specs.Validity.{meet}
use Rattle.image_fields.specs.declared.{fault.ImageRule.TheVariants.{I1, I3, I4, I5}, parts.Range.{Range}}
use Rattle.image_codec.specs.Spelling.{one, two, name_bytes, range_bytes, schedule_number, flag_number}
use Rattle.image_fields.specs.Reading.{Read, ◌>>=◌, kept, tested_byte_at, tested_at, byte_below_at, text_at, name_at, count_at, range_at, flag_at}
use Rattle.image_fields.specs.TableReading.{schedule_of, schedule_at}
use Rattle.image_fields.proofs.NameReading.{is_fresh}
use Rattle.image_codec.proofs.Spells.{AreBytes-drop, Takes, Takes-then, Spells, nothing_more, and_then, said, wide16, Tested, tested_law, tested_byte_law, tested_number_law}
use Rattle.image_fields.proofs.Steps.{bind_ok, kept_ok, kept_again, enough_ok}

pub bytes_eq_is : (xs ys : List ℕ) → bytes_eq xs ys ≡ true → xs ≡ ys
bytes_eq_is xs ys e = (bytes_eq-Decides xs ys).0 e

-- ---- names

abbrev is_name_len : ℕ → Bool
is_name_len n = nat_lt 0 n && nat_le n 64

name_len : (n : List ℕ) → is_name n ≡ true → (0 < length n) × (length n ≤ 64)
name_len [] e = absurd cc
name_len (c ∷ cs) e = (omega arith, leb-true _ _ (and_parts (is_word (c ∷ cs)) (nat_le (length (c ∷ cs)) 64) e).1)

pub name_law : (earlier : List (List ℕ)) → Spells (name_at earlier) name_bytes (λ n. is_fresh earlier n ≡ true)
unfolding name_at
name_law earlier = record {
  takes = λ bytes x rest fits e.
      let a = bind_ok (tested_byte_at is_name_len I4 bytes) (λ len. text_at len.0 (length bytes) len.1 >>= λ n. kept (is_fresh earlier n.0) I4 bytes n) (x, rest) e in
      let t = (tested_byte_law is_name_len I4).takes bytes a.0.0 a.0.1 fits a.1 in
      let len = a.0.0 in
      let after = a.0.1 in
      let b = bind_ok (text_at len (length bytes) after) (λ n. kept (is_fresh earlier n.0) I4 bytes n) (x, rest) a.2 in
      let g = enough_ok (ltb (length after) len) (record { rule = I1; left = length bytes }) (take len after, drop len after) b.0 b.1 in
      let h = kept_ok (is_fresh earlier b.0.0) I4 bytes b.0 (x, rest) b.2 in
      let long : len ≤ length after = ltb-false _ _ g.0 in
      let len_is : length (take len after) ≡ len = omega (arith, length-take len after) in
      let second : Takes after (take len after) (drop len after) = record { parts = sym (take-append-drop len after); rest_fits = AreBytes-drop len after t.0.rest_fits } in
      let both : Takes bytes (one len ++ take len after) (drop len after) = Takes-then bytes (one len) after (take len after) (drop len after) t.0 second in
      let whole : Takes bytes (name_bytes (take len after)) (drop len after) = subst (λ (k : ℕ). Takes bytes (one k ++ take len after) (drop len after)) (sym len_is) both in
      let fresh : is_fresh earlier (take len after) ≡ true = ap (λ (p : List ℕ × List ℕ). is_fresh earlier p.0) g.1 ∙ h.0 in
      subst (λ (p : List ℕ × List ℕ). Takes bytes (name_bytes p.0) p.1 × (is_fresh earlier p.0 ≡ true)) (g.1 ∙ h.1) (whole, fresh);
  again = λ x rest good.
      let bytes = name_bytes x ++ rest in
      let bounds = name_len x (and_parts (is_name x) (not (list_any (λ m. bytes_eq m x) earlier)) good).0 in
      let some : nat_lt 0 (length x) ≡ true = lt-ltb _ _ bounds.0 in
      let few : nat_le (length x) 64 ≡ true = le-leb _ _ bounds.1 in
      let len_good : is_name_len (length x) ≡ true = and_from _ _ some few in
      let long : ltb (length (x ++ rest)) (length x) ≡ false = le-ltb _ _ (omega (arith, length-append x rest)) in
      ap (λ (r : Read ℕ). r >>= λ len. text_at len.0 (length bytes) len.1 >>= λ n. kept (is_fresh earlier n.0) I4 bytes n) ((tested_byte_law is_name_len I4).again (length x) (x ++ rest) (omega arith, len_good))
      ∙ rw (long, take_at x rest (length x) refl, drop_at x rest (length x) refl) (kept_again (is_fresh earlier x) I4 bytes (x, rest) good);
}

-- ---- owners

abbrev pub is_inside : ℕ → ℕ → ℕ → Bool
is_inside blocks first n = nat_lt 0 n && nat_le (first + n) blocks

abbrev pub is_apart : List (ℕ × ℕ) → ℕ → ℕ → Bool
is_apart earlier first n = not (list_any (λ o. meet o (first, n)) earlier)

abbrev GoodCount : ℕ → List (ℕ × ℕ) → ℕ → ℕ → Type 0
GoodCount blocks earlier first = Tested (is_apart earlier first) (Tested (is_inside blocks first) (λ n. n < 2 ^ 16))

count_law : (blocks : ℕ) (earlier : List (ℕ × ℕ)) (first : ℕ) → Spells (count_at blocks earlier first) two (GoodCount blocks earlier first)
unfolding count_at
count_law blocks earlier first =
    tested_law (tested_at w16 (is_inside blocks first) I3) two (Tested (is_inside blocks first) (λ n. n < 2 ^ 16)) (is_apart earlier first) I5
    (tested_number_law w16 (2 ^ 16) wide16 (is_inside blocks first) I3)

abbrev a_range : ℕ → ℕ → Range
a_range first count = record { first = block_no first; count = count }

pub record GoodRange (blocks : ℕ) (earlier : List (ℕ × ℕ)) (x : Range) : Type 0 where
  pub below : nat_lt x.first.0 blocks ≡ true
  pub first_fits : x.first.0 < 2 ^ 16
  pub inside : is_inside blocks x.first.0 x.count ≡ true
  pub count_fits : x.count < 2 ^ 16
  pub apart : is_apart earlier x.first.0 x.count ≡ true

pub range_law : (blocks : ℕ) (earlier : List (ℕ × ℕ)) → Spells (range_at blocks earlier) (λ (x : Range). range_bytes x.first x.count) (GoodRange blocks earlier)
unfolding range_at
range_law blocks earlier =
    said (range_at blocks earlier) (λ (x : Range). two x.first.0 ++ (two x.count ++ [])) _ (λ (x : Range). range_bytes x.first x.count) (GoodRange blocks earlier)
    (and_then (tested_at w16 (λ n. nat_lt n blocks) I3) two (Tested (λ n. nat_lt n blocks) (λ n. n < 2 ^ 16)) (λ (x : Range). x.first.0)
    (λ first rest. count_at blocks earlier first rest >>= λ count. Ok (a_range first count.0, count.1)) (λ (x : Range). two x.count ++ []) _
    (tested_number_law w16 (2 ^ 16) wide16 (λ n. nat_lt n blocks) I3)
    (λ first _. and_then (count_at blocks earlier first) two (GoodCount blocks earlier first) (λ (x : Range). x.count)
    (λ count rest. Ok (a_range first count, rest)) (λ _. []) (λ count x. x ≡ a_range first count)
    (count_law blocks earlier first) (λ count _. nothing_more (a_range first count)) (λ count x _ is. ap (λ (r : Range). r.count) is))
    (λ first x _ good. ap (λ (r : Range). r.first.0) good.1))
    (λ x. refl)
    (λ x good. record { below = good.0.1; first_fits = good.0.0; inside = good.1.0.0.1; count_fits = good.1.0.0.0; apart = good.1.0.1 })
    (λ x good. ((good.first_fits, good.below), (((good.count_fits, good.inside), good.apart), refl)))

-- ---- a schedule, and a flag

schedule_back : (n : ℕ) → n < 2 → schedule_number (schedule_of n) ≡ n
schedule_back zero lt = refl
schedule_back (suc zero) lt = refl
schedule_back (suc (suc n)) lt = absurd (omega arith)

schedule_again : (s : Schedule) → schedule_of (schedule_number s) ≡ s
schedule_again Non = refl
schedule_again Full = refl

schedule_below : (s : Schedule) → schedule_number s < 2
schedule_below Non = omega arith
schedule_below Full = omega arith

abbrev is_below : ℕ → ℕ → Bool
is_below limit n = nat_lt n limit

pub schedule_law : Spells schedule_at (λ s. one (schedule_number s)) (λ _. Unit {0})
unfolding schedule_at
schedule_law =
    said schedule_at (λ s. one (schedule_number s) ++ []) _ (λ s. one (schedule_number s)) (λ _. Unit {0})
    (and_then (byte_below_at 2) one (Tested (is_below 2) (λ n. n < 256)) schedule_number
    (λ n rest. Ok (schedule_of n, rest)) (λ _. []) (λ n s. s ≡ schedule_of n)
    (tested_byte_law (is_below 2) I3) (λ n _. nothing_more (schedule_of n))
    (λ n s good is. ap schedule_number is ∙ schedule_back n (ltb-true _ _ good.1)))
    (λ s. refl)
    (λ s _. tt)
    (λ s _. ((omega (arith, schedule_below s), lt-ltb _ _ (schedule_below s)), sym (schedule_again s)))

flag_back : (n : ℕ) → n < 2 → flag_number (eqb n 1) ≡ n
flag_back zero lt = refl
flag_back (suc zero) lt = refl
flag_back (suc (suc n)) lt = absurd (omega arith)

flag_again : (b : Bool) → eqb (flag_number b) 1 ≡ b
flag_again true = refl
flag_again false = refl

flag_below : (b : Bool) → flag_number b < 2
flag_below true = omega arith
flag_below false = omega arith

pub flag_law : Spells flag_at (λ b. one (flag_number b)) (λ _. Unit {0})
unfolding flag_at
flag_law =
    said flag_at (λ b. one (flag_number b) ++ []) _ (λ b. one (flag_number b)) (λ _. Unit {0})
    (and_then (byte_below_at 2) one (Tested (is_below 2) (λ n. n < 256)) flag_number
    (λ n rest. Ok (eqb n 1, rest)) (λ _. []) (λ n b. b ≡ eqb n 1)
    (tested_byte_law (is_below 2) I3) (λ n _. nothing_more (eqb n 1))
    (λ n b good is. ap flag_number is ∙ flag_back n (ltb-true _ _ good.1)))
    (λ b. refl)
    (λ b _. tt)
    (λ b _. ((omega (arith, flag_below b), lt-ltb _ _ (flag_below b)), sym (flag_again b)))
