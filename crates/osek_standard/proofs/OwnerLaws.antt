-- Each block has one owner: the blocks of tasks and of routines, in order of their owners.
use Rattle.std.proofs.Common.{◌≡◌, ℕ, zero, suc, ◌+◌, ◌-◌, ◌<◌, ◌≤◌, Bool, true, false, List, [], ◌∷◌, ◌++◌, length, map, get_or, sym, subst, ap, ◌∙◌, inl, inr, arith, nat_eq, nat_lt, append_assoc, refl, length-append}
use Rattle.std.specs.{Prelude.{slice_index_or, if◌then◌else◌, IfSome}, List.{IsDistinct, flat_map, range_with_len, sum_by}, declared.option.Option.{Option}}
use Rattle.std.proofs.lemmas.{Bool.{cases_Bool, cases_order, lt-ltb, ne_eqb, and_from, true≢false, Decides.{nat_tests}}, Grind.{flat_map-append}, List.{length-map, get_or-map}}
use Rattle.std.proofs.lemmas.{List.{FromFn.{length-range_with_len}, Sums.{sum_by-cons}}, Map.Keys.{apart_from_distinct}}
use Rattle.osek_values.specs.declared.numbers.{BlockNo.{BlockNo}, TaskNo.{TaskNo}}
use Rattle.osek_standard.specs.{declared.{app.App.{App}, objects.{Task.{Task}, Isr.{Isr}, Counter.{Counter}}}, Validity.{IsAmong, meet, owners}}
use Rattle.osek_standard.specs.{Apps.{the_task, the_isr, the_counter, source_count, no_task, no_isr, no_counter}, Well.{IsOwn, IsOfRoutine}, Points.{IsTaskBlock, IsRoutineBlock}}
use Rattle.osek_standard.proofs.{Members.{Among, among_cases, among_left, among_range, among_right, range_among}, Distinct.{distinct_flat_map, distinct_left, distinct_range}}

abbrev pub of_task : Task → ℕ × ℕ
of_task x = (x.first.0, x.count)

abbrev pub of_isr : Isr → ℕ × ℕ
of_isr x = (x.first.0, x.count)

abbrev pub of_counter : Counter → ℕ × ℕ
of_counter x = (x.first.0, x.count)

abbrev pub blocks_within : ℕ × ℕ → List ℕ
blocks_within o = range_with_len o.0 o.1

-- the blocks of each owner
abbrev pub blocks_of : List (ℕ × ℕ) → List ℕ
blocks_of os = flat_map blocks_within os

-- two ranges that have a number meet
meeting : (f c g d b : ℕ) → f ≤ b → b < f + c → g ≤ b → b < g + d → meet (f, c) (g, d) ≡ true
meeting f c g d b h i j k = and_from (nat_lt f (g + d)) (nat_lt g (f + c)) (lt-ltb f (g + d) (omega (arith, h, k))) (lt-ltb g (f + c) (omega (arith, j, i)))

-- owners that don't meet have no block in common
apart_blocks : (o p : ℕ × ℕ) → meet o p ≡ false → (x y : ℕ) → Among x (blocks_within o) → Among y (blocks_within p) → nat_eq x y ≡ false
apart_blocks o p e x y m n =
    let a = range_among o.0 o.1 x m in
    let b = range_among p.0 p.1 y n in
    ne_eqb x y (λ same. true≢false (sym (meeting o.0 o.1 p.0 p.1 x a.0 a.1 (omega (arith, same, b.0)) (omega (arith, same, b.1))) ∙ e))

once_owned : (os : List (ℕ × ℕ)) → IsDistinct meet os → IsDistinct nat_eq (blocks_of os)
once_owned os d = distinct_flat_map blocks_within meet nat_eq (λ o. distinct_range o.0 o.1) apart_blocks os d

-- a place in a table whose entry has block b
pub record HasOwner {X : Type 0} (own : X → ℕ × ℕ) (xs : List X) (none : X) (b : ℕ) : Type 0 where
  pub place : ℕ
  pub known : place < length xs
  pub has : IsAmong b (own (slice_index_or xs place none)).0 (own (slice_index_or xs place none)).1

module _ {X : Type 0} (own : X → ℕ × ℕ) where
  pub owned : (xs : List X) (k : ℕ) (none : X) (b : ℕ) → k < length xs → IsAmong b (own (slice_index_or xs k none)).0 (own (slice_index_or xs k none)).1 → Among b (blocks_of (map own xs))
  owned [] k none b lt has = absurd (omega (arith, lt))
  owned (x ∷ xs) zero none b lt has = among_left b (blocks_within (own x)) (blocks_of (map own xs)) (among_range (own x).0 (own x).1 b has.0 has.1)
  owned (x ∷ xs) (suc k) none b lt has = among_right b (blocks_within (own x)) (blocks_of (map own xs)) (owned xs k none b (omega (arith, lt)) has)

  pub owner_at : (xs : List X) (none : X) (b : ℕ) → Among b (blocks_of (map own xs)) → HasOwner own xs none b
  owner_at [] none b m = absurd m
  owner_at (x ∷ xs) none b m = elim (among_cases b (blocks_within (own x)) (blocks_of (map own xs)) m) [
    | inl l ↦ record { place = 0; known = omega arith; has = range_among (own x).0 (own x).1 b l }
    | inr r ↦ (let h = owner_at xs none b r in record { place = suc h.place; known = omega (arith, h.known); has = h.has })
  ]

  pub length_owned : (xs : List X) → length (blocks_of (map own xs)) ≡ sum_by (λ (x : X). (own x).1) xs
  length_owned [] = refl
  length_owned (x ∷ xs) =
      length-append (blocks_within (own x)) (blocks_of (map own xs))
      ∙ ap (λ (n : ℕ). n + length (blocks_of (map own xs))) (length-range_with_len (own x).0 (own x).1)
      ∙ ap (λ (n : ℕ). (own x).1 + n) (length_owned xs)
      ∙ sym (sum_by-cons (λ (y : X). (own y).1) x xs)

module _ (app : App) where
  abbrev pub blocks_of_tasks : List ℕ
  blocks_of_tasks = blocks_of (map of_task app.tasks)

  abbrev pub blocks_of_routines : List ℕ
  blocks_of_routines = blocks_of (map of_isr app.isrs) ++ blocks_of (map of_counter app.counters)

  pub owners_joined : blocks_of (owners app.tasks app.isrs app.counters) ≡ blocks_of_tasks ++ blocks_of_routines
  owners_joined =
      let xs : List (ℕ × ℕ) = map of_task app.tasks in
      let ys : List (ℕ × ℕ) = map of_isr app.isrs in
      let zs : List (ℕ × ℕ) = map of_counter app.counters in
      flat_map-append blocks_within (xs ++ ys) zs ∙ ap (λ (bs : List ℕ). bs ++ blocks_of zs) (flat_map-append blocks_within xs ys) ∙ append_assoc (blocks_of xs) (blocks_of ys) (blocks_of zs)

  -- each block once
  pub blocks_apart : IsDistinct nat_eq (blocks_of_tasks ++ blocks_of_routines)
  blocks_apart = subst (IsDistinct nat_eq) owners_joined (once_owned (owners app.tasks app.isrs app.counters) app.valid.apart)

  -- a routine's blocks are those of its counter or its ISR
  abbrev IsOfSource : Bool → ℕ → ℕ → Type 0
  IsOfSource c k b = IsAmong b (if c then (the_counter app k).first else (the_isr app (k - length app.counters)).first).0 (if c then (the_counter app k).count else (the_isr app (k - length app.counters)).count)

  pub of_routine : (k b : ℕ) → k < source_count app → IsOfRoutine app k b → Among b blocks_of_routines
  of_routine k b known own = elim (cases_Bool (nat_lt k (length app.counters))) [
    | inl e ↦ (let below : k < length app.counters = grind (arith, nat_tests) in
        among_right b (blocks_of (map of_isr app.isrs)) (blocks_of (map of_counter app.counters)) (owned of_counter app.counters k no_counter b below (subst (λ (c : Bool). IsOfSource c k b) e own)))
    | inr e ↦ (let below : k - length app.counters < length app.isrs = grind (arith, nat_tests) in
        among_left b (blocks_of (map of_isr app.isrs)) (blocks_of (map of_counter app.counters)) (owned of_isr app.isrs (k - length app.counters) no_isr b below (subst (λ (c : Bool). IsOfSource c k b) e own)))
  ]

  of_counter_source : (b : BlockNo) (over : Option TaskNo) → IfSome over (λ (t : TaskNo). t.0 < length app.tasks) → HasOwner of_counter app.counters no_counter b.0 → IsRoutineBlock app b over
  of_counter_source b over task h = record {
    source = h.place;
    known = omega (arith, h.known);
    own = subst (λ (c : Bool). IsOfSource c h.place b.0) (sym (lt-ltb h.place (length app.counters) h.known)) h.has;
    task = task;
  }

  of_isr_source : (b : BlockNo) (over : Option TaskNo) → IfSome over (λ (t : TaskNo). t.0 < length app.tasks) → HasOwner of_isr app.isrs no_isr b.0 → IsRoutineBlock app b over
  of_isr_source b over task h =
      let n : ℕ = length app.counters in
      let same : n + h.place - n ≡ h.place = omega arith in
      let above : nat_lt (n + h.place) n ≡ false = grind (arith, nat_tests) in
      record {
        source = n + h.place;
        known = omega (arith, h.known);
        own = subst (λ (c : Bool). IsOfSource c (n + h.place) b.0) (sym above)
            (subst (λ (i : ℕ). IsAmong b.0 (the_isr app i).first.0 (the_isr app i).count) (sym same) h.has);
        task = task;
      }

  pub routine_at : (b : BlockNo) (over : Option TaskNo) → IfSome over (λ (t : TaskNo). t.0 < length app.tasks) → Among b.0 blocks_of_routines → IsRoutineBlock app b over
  routine_at b over task m = elim (among_cases b.0 (blocks_of (map of_isr app.isrs)) (blocks_of (map of_counter app.counters)) m) [
    | inl l ↦ of_isr_source b over task (owner_at of_isr app.isrs no_isr b.0 l)
    | inr r ↦ of_counter_source b over task (owner_at of_counter app.counters no_counter b.0 r)
  ]

  pub task_at : (b : BlockNo) → Among b.0 blocks_of_tasks → IsTaskBlock app b
  task_at b m = let h = owner_at of_task app.tasks no_task b.0 m in record { task = h.place; known = h.known; own = h.has }

  tasks_apart : IsDistinct meet (map of_task app.tasks)
  tasks_apart =
      let xs : List (ℕ × ℕ) = map of_task app.tasks in
      let ys : List (ℕ × ℕ) = map of_isr app.isrs in
      distinct_left meet xs ys (distinct_left meet (xs ++ ys) (map of_counter app.counters) app.valid.apart)

  range_of : ℕ → ℕ × ℕ
  range_of t = of_task (the_task app t)

  range_at : (t : ℕ) → t < length app.tasks → get_or (map of_task app.tasks) t (0, 0) ≡ range_of t
  unfolding range_of
  range_at t lt = get_or-map of_task app.tasks t no_task (0, 0) lt

  not_both : (t u b : ℕ) → t < u → u < length app.tasks → IsOwn app t b → IsOwn app u b → ⊥
  unfolding range_of
  not_both t u b lt known own other =
      let xs : List (ℕ × ℕ) = map of_task app.tasks in
      let e = apart_from_distinct meet xs t u (0, 0) tasks_apart lt (omega (arith, length-map app.tasks of_task, known)) in
      let apart : meet (range_of t) (range_of u) ≡ false
      = subst (λ o. meet o (range_of u) ≡ false) (range_at t (omega (arith, lt, known))) (subst (λ o. meet (get_or xs t (0, 0)) o ≡ false) (range_at u known) e) in
      let meets : meet (range_of t) (range_of u) ≡ true = meeting (the_task app t).first.0 (the_task app t).count (the_task app u).first.0 (the_task app u).count b own.0 own.1 other.0 other.1 in
      absurd (true≢false (sym meets ∙ apart))

  -- the tasks that own a block are one
  pub own_once : (t u b : ℕ) → t < length app.tasks → u < length app.tasks → IsOwn app t b → IsOwn app u b → t ≡ u
  own_once t u b known unknown own other = elim (cases_order t u) [
    | inl same ↦ same
    | inr (inl below) ↦ absurd (not_both t u b below unknown own other)
    | inr (inr above) ↦ absurd (not_both u t b above known other own)
  ]
