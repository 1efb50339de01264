-- The code of tick routines: where the alarms of a counter stand in it.
use Rattle.std.proofs.Common.{◌≡◌, ℕ, ◌+◌, ◌-◌, ◌<◌, ◌≤◌, Bool, true, false, cond, nat_eq, nat_lt, IsTrue, List, [], ◌∷◌, zero, suc, length, map, refl, sym, subst, ap, ◌∙◌, arith}
use Rattle.std.proofs.lemmas.Bool.{and_parts, eq-eqb, eqb-true, false≢true, Decides.{nat_tests}}
use Rattle.std.specs.{Prelude.{slice_index_or}, List.{enumerate_from, filter}}
use Rattle.osek_values.specs.{Numbers.{alarm_no}, declared.numbers.{AlarmNo.{AlarmNo}}}
use Rattle.oil_system.specs.declared.objects.Alarm.{Alarm}
use Rattle.osek_standard.specs.declared.{app.App.{App}, block.Kind.{Kind}}
use Rattle.osek_standard.specs.{Apps.{is_counter, no_alarm, tables, the_isr, the_block, the_counter}, Validity.{IsAmong, IsTickCode, due_of, tick_may}, Well.{IsOfRoutine}}
use Rattle.osek_standard.specs.declared.block.Kind.TheVariants as kind
use Rattle.kernel_guarantees.specs.{Alarms.{counter_of}}
use Rattle.kernel_guarantees.proofs.{AlarmRuns.{counter_known}}

abbrev due_from : ℕ → List Alarm → ℕ → List ℕ
due_from n alarms c = map (λ (p : ℕ × Alarm). p.0) (filter (λ (p : ℕ × Alarm). nat_eq p.1.counter.0 c) (enumerate_from n alarms))

-- an alarm of the counter has a place among them
record HasPlace (due : List ℕ) (n : ℕ) : Type 0 where
  place : ℕ
  known : place < length due
  is : slice_index_or due place 256 ≡ n

later_place : (due : Bool) (n m : ℕ) (x : Alarm) (others : List (ℕ × Alarm)) → HasPlace (map (λ (p : ℕ × Alarm). p.0) others) m → HasPlace (map (λ (p : ℕ × Alarm). p.0) (cond due ((n, x) ∷ others) others)) m
later_place true n m x others h = record { place = suc h.place; known = omega (arith, h.known); is = h.is }
later_place false n m x others h = h

first_place : (n : ℕ) (x : Alarm) (others : List (ℕ × Alarm)) → HasPlace (map (λ (p : ℕ × Alarm). p.0) ((n, x) ∷ others)) (n + 0)
first_place n x others = record { place = 0; known = omega arith; is = omega arith }

place_from : (n : ℕ) (alarms : List Alarm) (c i : ℕ) (d : Alarm) → i < length alarms → (slice_index_or alarms i d).counter.0 ≡ c → HasPlace (due_from n alarms c) (n + i)
place_from n [] c i d low is = absurd (omega (arith, low))
place_from n (x ∷ xs) c zero d low is =
    let others : List (ℕ × Alarm) = filter (λ (p : ℕ × Alarm). nat_eq p.1.counter.0 c) (enumerate_from (n + 1) xs) in
    subst (λ (b : Bool). HasPlace (map (λ (p : ℕ × Alarm). p.0) (cond b ((n, x) ∷ others) others)) (n + 0)) (sym (eq-eqb x.counter.0 c is)) (first_place n x others)
place_from n (x ∷ xs) c (suc i) d low is =
    let h : HasPlace (due_from (n + 1) xs c) (n + suc i) = subst (HasPlace (due_from (n + 1) xs c)) (omega arith) (place_from (n + 1) xs c i d (omega (arith, low)) is) in
    later_place (nat_eq x.counter.0 c) n (n + suc i) x (filter (λ (p : ℕ × Alarm). nat_eq p.1.counter.0 c) (enumerate_from (n + 1) xs)) h

-- what stands in a tick routine after CountUp and before its end
between : (due : List ℕ) (p : ℕ) (k : Kind) → IsTrue (tick_may due p k) → 0 < p → p < length due + 1 → (x : AlarmNo) × (k ≡ kind.Expire x) × (slice_index_or due (p - 1) 256 ≡ x.0)
between due p kind.CountUp h some low = absurd (let e : p ≡ 0 = eqb-true p 0 h in omega (arith, e, some))
between due p (kind.Expire x) h some low = (x, refl, eqb-true (slice_index_or due (p - 1) 256) x.0 (and_parts (nat_lt 0 p) (nat_eq (slice_index_or due (p - 1) 256) x.0) h).1)
between due p kind.IsrEnd h some low = absurd (let e : p ≡ length due + 1 = eqb-true p (length due + 1) h in omega (arith, e, low))
between due p _ h some low = absurd (false≢true h)

counting_first : (due : List ℕ) (p : ℕ) (k : Kind) → IsTrue (tick_may due p k) → k ≡ kind.CountUp → p ≡ 0
counting_first due p k h e = eqb-true p 0 (subst (λ (x : Kind). IsTrue (tick_may due p x)) e h)

module _ (app : App) (a : ℕ) (known : a < length app.alarms) where
  abbrev pub c : ℕ
  c = counter_of app a

  abbrev due : List ℕ
  due = due_of app.alarms c

  abbrev pub first : ℕ
  first = (the_counter app c).first.0

  abbrev count : ℕ
  count = (the_counter app c).count

  code : IsTickCode (tables app) due first count
  code = app.valid.tick_code c (counter_known app a known)

  where_due : HasPlace due a
  where_due = subst (HasPlace due) (omega arith) (place_from 0 app.alarms c a no_alarm known refl)

  -- the block at which it expires
  pub expiry : ℕ
  expiry = first + 1 + where_due.place

  pub after_count : first + 1 ≤ expiry
  unfolding expiry
  after_count = omega arith

  below : (m n : ℕ) → m < n → nat_lt m n ≡ true
  below m n h = grind (arith, nat_tests)

  pub is_tick : is_counter app c ≡ true
  is_tick = below c (length app.counters) (counter_known app a known)

  -- a block of its routine is one of the counter's
  pub own_tick : (b : ℕ) → IsOfRoutine app c b → IsAmong b first count
  own_tick b h = subst (λ (d : Bool). IsAmong b (cond d (the_counter app c).first (the_isr app (c - length app.counters)).first).0 (cond d (the_counter app c).count (the_isr app (c - length app.counters)).count)) is_tick h

  -- a block from the one after CountUp up to that of the alarm
  pub record IsBefore (b : ℕ) : Type 0 where
    pub alarm : AlarmNo
    pub expires : (the_block app b).kind ≡ kind.Expire alarm
    pub goes_on : (the_block app b).next.0 ≡ b + 1
    pub at_last : b ≡ expiry → alarm ≡ alarm_no a

  pub before_expiry : (b : ℕ) → IsAmong b first count → first < b → b ≤ expiry → IsBefore b
  unfolding expiry
  before_expiry b among some low =
      let k = between due (b - first) (the_block app b).kind (code.each b among) (omega (arith, some)) (omega (arith, low, some, where_due.known)) in
      record {
        alarm = k.0;
        expires = k.1;
        goes_on = code.next b among (omega (arith, low, where_due.known, code.size));
        at_last = λ e.
            let p : b - first - 1 ≡ where_due.place = omega (arith, e, some) in
            ap alarm_no (sym k.2 ∙ ap (λ (i : ℕ). slice_index_or due i 256) p ∙ where_due.is);
      }

  -- CountUp is its first block
  pub counts_first : (b : ℕ) → IsAmong b first count → (the_block app b).kind ≡ kind.CountUp → b ≡ first
  counts_first b among e = let p = counting_first due (b - first) (the_block app b).kind (code.each b among) e in omega (arith, p, among.0)

  pub goes_on_first : (b : ℕ) → IsAmong b first count → b ≡ first → (the_block app b).next.0 ≡ b + 1
  goes_on_first b among e = code.next b among (omega (arith, e, code.size, where_due.known))
