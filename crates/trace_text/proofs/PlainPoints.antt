-- A point that is read at one look, from the digits at its front.
use Rattle.std.proofs.Common.{◌≡◌, ℕ, ◌+◌, ◌-◌, ◌*◌, ◌<◌, ◌≤◌, ◌^◌, Bool, true, false, nat_le, nat_lt, subst, if◌then◌else◌, Option, Some, List, [], ◌++◌}
use Rattle.std.proofs.Common.{length, take, drop, get_or, sym, ◌∙◌, ap, arith, append-nil}
use Rattle.std.specs.{Char.{is_ascii_digit, digit_value}, Fmt.{decimal}, Int.{IsInRange}, List.{list_all, position}, Str.Parse.{digits_value}}
use Rattle.std.proofs.lemmas.{Bool.{and_from, and_parts, le-ltb, leb-true, lt-ltb, ltb-true}, Int.Digits.{digits_value_more}, Fmt.{decimal-digits_value}}
use Rattle.std.proofs.lemmas.List.{get_or-take, length-take, take-append-drop, Folds.{list_all_more}, Quantifiers.{position-Some}}
use Rattle.std.proofs.lemmas.{Str.{digit_value_digit}, Str.Parse.{digits_value_short}}
use Rattle.osek_values.specs.declared.numbers.{BlockNo.{BlockNo}, TaskNo.{TaskNo}}
use Rattle.osek_standard.specs.declared.{app.App.{App}, objects.{Counter.{Counter}, Isr.{Isr}}}
use Rattle.osek_standard.specs.{Apps.{is_counter, no_counter, no_isr, the_counter, the_isr}, Points.{IsRoutineBlock}, Validity.{IsAmong, is_within}, Well.{IsOfRoutine}}
use Rattle.trace_text.proofs.{PointForms.{own}, PointsApart.{IsKnown}}

-- one digit more
pub one_more : (text : List ℕ) (i value c : ℕ) → i < length text → i ≤ 3 → get_or text i 0 ≡ c → is_ascii_digit c ≡ true → IsInRange 48 57 c →
    list_all is_ascii_digit (take i text) ≡ true → value ≡ digits_value 10 (take i text) → value * 10 + (c - 48) ≡ digits_value 10 (take (i + 1) text)
one_more text i value c within few at digit range digits is =
    let more = digits_value_more 10 text i within in
    let one = digit_value_digit c range in
    let same = ap digit_value at in
    omega (arith, more, one, same, is)

pub digits_more : (text : List ℕ) (i c : ℕ) → i < length text → get_or text i 0 ≡ c → is_ascii_digit c ≡ true → list_all is_ascii_digit (take i text) ≡ true →
    list_all is_ascii_digit (take (i + 1) text) ≡ true
digits_more text i c within at digit digits = list_all_more is_ascii_digit text i 0 within ∙ and_from _ _ digits (ap is_ascii_digit at ∙ digit)

-- few digits are a small number
pub small : (text : List ℕ) (i value : ℕ) → i < length text → i ≤ 3 → list_all is_ascii_digit (take i text) ≡ true → value ≡ digits_value 10 (take i text) →
    value < 1000
small text i value within few digits is =
    let low = digits_value_short own (take i text) 3 digits (omega (arith, length-take i text, few)) in
    omega (arith, low, is)

-- a number without leading zeros is written so
pub written : (text : List ℕ) (n value : ℕ) → n ≤ length text → 0 < n → (get_or text 0 0 ≡ 48 → n ≡ 1) → value < 2 ^ 64 →
    list_all is_ascii_digit (take n text) ≡ true → value ≡ digits_value 10 (take n text) →
    decimal value ≡ take n text
written text n value within some plain fits digits is =
    let size : length (take n text) ≡ n = omega (arith, length-take n text, within) in
    let first : get_or (take n text) 0 0 ≡ get_or text 0 0 = get_or-take n text 0 0 some in
    ap decimal is ∙ decimal-digits_value own (take n text) digits (omega (arith, size, some)) (λ e. size ∙ plain (sym first ∙ e)) (omega (arith, is, fits))

-- digits and what stands behind them
pub with_rest : (text rest shown : List ℕ) (n : ℕ) → drop n text ≡ rest → shown ≡ take n text → shown ++ rest ≡ text
with_rest text rest shown n behind is = ap (λ (l : List ℕ). l ++ rest) is ∙ ap (λ (l : List ℕ). take n text ++ l) (sym behind) ∙ take-append-drop n text

pub alone : (text shown : List ℕ) (n : ℕ) → drop n text ≡ [] → shown ≡ take n text → shown ≡ text
alone text shown n behind is = sym (append-nil shown) ∙ with_rest text [] shown n behind is

among : (b first count : ℕ) → is_within b (first, count) ≡ true → IsAmong b first count
among b first count e = let parts = and_parts (nat_le first b) (nat_lt b (first + count)) e in (leb-true _ _ parts.0, ltb-true _ _ parts.1)

module _ (app : App) where
  -- an ISR's blocks are a routine's
  isr_own : (i b : ℕ) → is_within b ((the_isr app i).first.0, (the_isr app i).count) ≡ true → IsOfRoutine app (length app.counters + i) b
  isr_own i b e =
      let n = length app.counters in
      let k = n + i in
      let own = among b (the_isr app i).first.0 (the_isr app i).count e in
      let other : is_counter app k ≡ false = le-ltb k n (omega arith) in
      let place : i ≡ k - n = omega arith in
      subst (λ (o : Bool). IsAmong b (if o then (the_counter app k).first else (the_isr app (k - n)).first).0
      (if o then (the_counter app k).count else (the_isr app (k - n)).count)) (sym other)
      (subst (λ (j : ℕ). IsAmong b (the_isr app j).first.0 (the_isr app j).count) place own)

  pub isr_block : (i : ℕ) (b : BlockNo) (x : Option TaskNo) → position (λ (y : Isr). is_within b.0 (y.first.0, y.count)) app.isrs ≡ Some i → IsKnown app x →
      IsRoutineBlock app b x
  isr_block i b x e known =
      let found = position-Some (λ (y : Isr). is_within b.0 (y.first.0, y.count)) app.isrs i no_isr e in
      record { source = length app.counters + i; known = omega (arith, found.0); own = isr_own i b.0 found.1; task = known }

  -- and so are those of a counter's tick routine
  counter_own : (i b : ℕ) → i < length app.counters → is_within b ((the_counter app i).first.0, (the_counter app i).count) ≡ true → IsOfRoutine app i b
  counter_own i b known e =
      let its : is_counter app i ≡ true = lt-ltb i (length app.counters) known in
      subst (λ (o : Bool). IsAmong b (if o then (the_counter app i).first else (the_isr app (i - length app.counters)).first).0
      (if o then (the_counter app i).count else (the_isr app (i - length app.counters)).count)) (sym its) (among b (the_counter app i).first.0 (the_counter app i).count e)

  pub counter_block : (i : ℕ) (b : BlockNo) (x : Option TaskNo) → position (λ (y : Counter). is_within b.0 (y.first.0, y.count)) app.counters ≡ Some i →
      IsKnown app x → IsRoutineBlock app b x
  counter_block i b x e known =
      let found = position-Some (λ (y : Counter). is_within b.0 (y.first.0, y.count)) app.counters i no_counter e in
      record { source = i; known = omega (arith, found.0); own = counter_own i b.0 found.0 found.1; task = known }
