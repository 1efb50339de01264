-- Each block of a routine is of one source.
use Rattle.std.proofs.Common.{◌≡◌, ℕ, ◌+◌, ◌-◌, ◌<◌, ◌≤◌, Bool, true, false, List, ◌++◌, length, map, get_or, refl, sym, subst, ◌∙◌, inl, inr, arith, nat_eq, nat_lt}
use Rattle.std.specs.{Prelude.{if◌then◌else◌}, List.{IsDistinct}}
use Rattle.std.proofs.lemmas.{Bool.{cases_Bool, cases_order, lt-ltb, and_from, true≢false, eq-eqb, Decides.{nat_tests}}, List.{get_or-map, length-map}, Map.Keys.{apart_from_distinct}}
use Rattle.osek_standard.specs.declared.app.App.{App}
use Rattle.osek_standard.specs.{Validity.{IsAmong, meet}, Apps.{the_isr, the_counter, source_count, no_isr, no_counter}, Well.{IsOfRoutine}}
use Rattle.osek_standard.proofs.{Distinct.{distinct_across, distinct_left, distinct_right}, OwnerLaws.{of_task, of_isr, of_counter, blocks_of, blocks_apart, blocks_of_tasks, owned}}

-- two ranges that have a number meet
meeting : (o p : ℕ × ℕ) (b : ℕ) → IsAmong b o.0 o.1 → IsAmong b p.0 p.1 → meet o p ≡ true
meeting o p b own other =
    and_from (nat_lt o.0 (p.0 + p.1)) (nat_lt p.0 (o.0 + o.1)) (lt-ltb o.0 (p.0 + p.1) (omega (arith, own.0, other.1))) (lt-ltb p.0 (o.0 + o.1) (omega (arith, other.0, own.1)))

-- entries whose ranges don't meet have no block in common
module _ {X : Type 0} (own : X → ℕ × ℕ) (xs : List X) (none : X) (apart : IsDistinct meet (map own xs)) where
  abbrev Has : ℕ → ℕ → Type 0
  Has i b = IsAmong b (own (get_or xs i none)).0 (own (get_or xs i none)).1

  not_both : (i j b : ℕ) → i < j → j < length xs → Has i b → Has j b → ⊥
  not_both i j b lt known has other =
      let e = apart_from_distinct meet (map own xs) i j (0, 0) apart lt (omega (arith, length-map xs own, known)) in
      let first : meet (own (get_or xs i none)) (get_or (map own xs) j (0, 0)) ≡ false
      = subst (λ o. meet o (get_or (map own xs) j (0, 0)) ≡ false) (get_or-map own xs i none (0, 0) (omega (arith, lt, known))) e in
      let none_meets : meet (own (get_or xs i none)) (own (get_or xs j none)) ≡ false
      = subst (λ o. meet (own (get_or xs i none)) o ≡ false) (get_or-map own xs j none (0, 0) known) first in
      absurd (true≢false (sym (meeting (own (get_or xs i none)) (own (get_or xs j none)) b has other) ∙ none_meets))

  one_owner : (i j b : ℕ) → i < length xs → j < length xs → Has i b → Has j b → i ≡ j
  one_owner i j b known unknown has other = elim (cases_order i j) [
    | inl same ↦ same
    | inr (inl below) ↦ absurd (not_both i j b below unknown has other)
    | inr (inr above) ↦ absurd (not_both j i b above known other has)
  ]

module _ (app : App) where
  abbrev counters : ℕ
  counters = length app.counters

  isrs_apart : IsDistinct meet (map of_isr app.isrs)
  isrs_apart = distinct_right meet (map of_task app.tasks) (map of_isr app.isrs) (distinct_left meet (map of_task app.tasks ++ map of_isr app.isrs) (map of_counter app.counters) app.valid.apart)

  counters_apart : IsDistinct meet (map of_counter app.counters)
  counters_apart = distinct_right meet (map of_task app.tasks ++ map of_isr app.isrs) (map of_counter app.counters) app.valid.apart

  abbrev OfIsr : ℕ → ℕ → Type 0
  OfIsr i b = IsAmong b (of_isr (the_isr app i)).0 (of_isr (the_isr app i)).1

  abbrev OfCounter : ℕ → ℕ → Type 0
  OfCounter k b = IsAmong b (of_counter (the_counter app k)).0 (of_counter (the_counter app k)).1

  -- no block is an ISR's and a counter's
  of_both : (i k b : ℕ) → i < length app.isrs → k < counters → OfIsr i b → OfCounter k b → ⊥
  of_both i k b isr counter own other =
      let routines = distinct_right nat_eq (blocks_of_tasks app) (blocks_of (map of_isr app.isrs) ++ blocks_of (map of_counter app.counters)) (blocks_apart app) in
      let differ : nat_eq b b ≡ false = distinct_across nat_eq (blocks_of (map of_isr app.isrs)) (blocks_of (map of_counter app.counters)) routines b b
      (owned of_isr app.isrs i no_isr b isr own) (owned of_counter app.counters k no_counter b counter other) in
      absurd (true≢false (sym (eq-eqb b b refl) ∙ differ))

  -- a routine's blocks are those of its counter or its ISR
  abbrev OfSource : Bool → ℕ → ℕ → Type 0
  OfSource c k b = IsAmong b (if c then (the_counter app k).first else (the_isr app (k - counters)).first).0 (if c then (the_counter app k).count else (the_isr app (k - counters)).count)

  of_counter_at : (k b : ℕ) → nat_lt k counters ≡ true → IsOfRoutine app k b → OfCounter k b
  of_counter_at k b e own = subst (λ (c : Bool). OfSource c k b) e own

  of_isr_at : (k b : ℕ) → nat_lt k counters ≡ false → IsOfRoutine app k b → OfIsr (k - counters) b
  of_isr_at k b e own = subst (λ (c : Bool). OfSource c k b) e own

  -- the sources whose routines own a block are one
  pub routine_once : (k l b : ℕ) → k < source_count app → l < source_count app → IsOfRoutine app k b → IsOfRoutine app l b → k ≡ l
  routine_once k l b known unknown own other = elim (cases_Bool (nat_lt k counters)) [
    | inl e ↦
        (let below : k < counters = grind (arith, nat_tests) in
        elim (cases_Bool (nat_lt l counters)) [
          | inl f ↦ (let too : l < counters = grind (arith, nat_tests) in one_owner of_counter app.counters no_counter counters_apart k l b below too (of_counter_at k b e own) (of_counter_at l b f other))
          | inr f ↦ (let isr : l - counters < length app.isrs = grind (arith, nat_tests) in absurd (of_both (l - counters) k b isr below (of_isr_at l b f other) (of_counter_at k b e own)))
        ])
    | inr e ↦
        (let isr : k - counters < length app.isrs = grind (arith, nat_tests) in
        elim (cases_Bool (nat_lt l counters)) [
          | inl f ↦ (let below : l < counters = grind (arith, nat_tests) in absurd (of_both (k - counters) l b isr below (of_isr_at k b e own) (of_counter_at l b f other)))
          | inr f ↦
              (let too : l - counters < length app.isrs = grind (arith, nat_tests) in
              let same = one_owner of_isr app.isrs no_isr isrs_apart (k - counters) (l - counters) b isr too (of_isr_at k b e own) (of_isr_at l b f other) in
              let above : counters ≤ k = grind (arith, nat_tests) in
              let over : counters ≤ l = grind (arith, nat_tests) in
              omega (arith, same, above, over))
        ])
  ]
