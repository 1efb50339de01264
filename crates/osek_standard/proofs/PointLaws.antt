-- Points in their order: their numbers ascend, they are the points of an application, and so many as its count says.
use Rattle.std.proofs.Common.{◌≡◌, ◌≢◌, ℕ, zero, suc, ◌+◌, ◌*◌, ◌<◌, ◌≤◌, Bool, true, false, cond, Less, List, [], ◌∷◌, ◌++◌, length, map, filter, sym, subst, ap, ◌∙◌, ◌⊎◌, inl, inr, arith, nat_eq, nat_lt, refl, Some, None, length-append}
use Rattle.std.specs.{Prelude.{IfSome, nat_le, not, ◌||◌}, Cmp.{nat_cmp_is}, List.{IsDistinct, flat_map, list_any, range_with_len, sum_by, Sorted.{IsStrictlySortedBy}}}
use Rattle.std.specs.{Ordering.{nat_cmp}, declared.option.Option.{Option}}
use Rattle.std.proofs.{Math.{Bool.{or-true}, Nat.{add-mul, zero-mul}}, lemmas.Bool.{and_from, and_parts, cases_Bool, eq-eqb, eqb-false, le-leb, lt-ltb, ne_eqb, or_cases}}
use Rattle.std.proofs.lemmas.{Bool.Decides.{nat_tests}, List.{length-map, FromFn.{length-range_with_len}}}
use Rattle.osek_values.specs.{declared.numbers.{BlockNo.{BlockNo}, TaskNo.{TaskNo}}, Numbers.{block_no, task_no}}
use Rattle.osek_values.proofs.Lists.{any_of_map}
use Rattle.osek_standard.specs.declared.{app.App.{App}, objects.Isr.{Isr}, point.Point.{Point}}
use Rattle.osek_standard.specs.declared.point.Point.TheVariants as point
use Rattle.osek_standard.specs.{Apps.{is_task_block, no_task}, Counts.{points, task_blocks, routine_blocks}}
use Rattle.osek_standard.specs.Points.{ArePoints, IsPoint, StandsAt, block_points, over_number, point_number, points_by, points_in_order, routine_points, same_number}
use Rattle.osek_standard.specs.Validity.{is_within, owners}
use Rattle.osek_standard.proofs.Members.{Among, among_cases, among_contained, among_flat_map, among_left, among_map, among_passing, among_range, among_right, contained_among, each_among, flat_map_among, map_among, passing_among, range_among}
use Rattle.osek_standard.proofs.Distinct.{distinct_across, distinct_first, distinct_left, distinct_once, distinct_passing, distinct_range, distinct_right, same_length}
use Rattle.osek_standard.proofs.OwnerLaws.{blocks_apart, blocks_of, blocks_of_routines, blocks_of_tasks, blocks_within, length_owned, of_counter, of_isr, of_routine, of_task, owned, owners_joined, routine_at, task_at}
use Rattle.osek_standard.proofs.WellLaws.{own_known, routine_known}

same_if : (p q : Point) → point_number p ≡ point_number q → same_number p q ≡ true
same_if p q e = eq-eqb (point_number p) (point_number q) e

apart_if : (p q : Point) → (point_number p ≡ point_number q → ⊥) → same_number p q ≡ false
apart_if p q h = ne_eqb (point_number p) (point_number q) h

-- ---- lists of points whose numbers ascend, from one number on and below another

abbrev Ascends : ℕ → List Point → ℕ → Type 0
Ascends low [] high = low ≤ high
Ascends low (p ∷ ps) high = (low ≤ point_number p) × Ascends (point_number p + 1) ps high

ascends_from : (low other high : ℕ) (ps : List Point) → low ≤ other → Ascends other ps high → Ascends low ps high
ascends_from low other high [] le h = omega (arith, le, h)
ascends_from low other high (p ∷ ps) le h = (omega (arith, le, h.0), h.1)

ascends_joined : (low other high : ℕ) (ps qs : List Point) → Ascends low ps other → Ascends other qs high → Ascends low (ps ++ qs) high
ascends_joined low other high [] qs h k = ascends_from low other high qs h k
ascends_joined low other high (p ∷ ps) qs h k = (h.0, ascends_joined (point_number p + 1) other high ps qs h.1 k)

at_least : (low high : ℕ) (ps : List Point) → Ascends low ps high → (q : Point) → Among q ps → low ≤ point_number q
at_least low high [] h q m = absurd m
at_least low high (p ∷ ps) h q (inl e) = let same : point_number q ≡ point_number p = ap (λ (x : Point). point_number x) e in omega (arith, same, h.0)
at_least low high (p ∷ ps) h q (inr m) = omega (arith, h.0, at_least (point_number p + 1) high ps h.1 q m)

each_once : (low high : ℕ) (ps : List Point) → Ascends low ps high → IsDistinct same_number ps
unfolding IsDistinct
each_once low high [] h = tt
each_once low high (p ∷ ps) h =
    distinct_first same_number p ps (λ q m. apart_if p q (λ e. absurd (omega (arith, e, at_least (point_number p + 1) high ps h.1 q m))))
    (each_once (point_number p + 1) high ps h.1)

numbers_ascend : (low high : ℕ) (ps : List Point) → Ascends low ps high → IsStrictlySortedBy nat_cmp (map point_number ps)
unfolding IsStrictlySortedBy
numbers_ascend low high [] h = tt
numbers_ascend low high (p ∷ ps) h = (
  each_among (λ (n : ℕ). nat_cmp (point_number p) n ≡ Less) (map point_number ps)
      (λ n m. let at = map_among point_number n ps m in sym (nat_cmp_is (point_number p) n Less (omega (arith, at.2, at_least (point_number p + 1) high ps h.1 at.0 at.1)))),
  numbers_ascend (point_number p + 1) high ps h.1,
)

-- a block has room for its points
overs_ascend : (b t n : ℕ) → t + n ≤ 256 → Ascends (2 + 257 * b + (1 + t)) (map (λ u. point.Routine (block_no b) (Some (task_no u))) (range_with_len t n)) (2 + 257 * (b + 1))
overs_ascend b t zero few = omega (arith, few)
overs_ascend b t (suc n) few = (
  omega arith,
  ascends_from (2 + 257 * b + (1 + t) + 1) (2 + 257 * b + (1 + (t + 1))) (2 + 257 * (b + 1)) (map (λ u. point.Routine (block_no b) (Some (task_no u))) (range_with_len (t + 1) n))
      (omega arith) (overs_ascend b (t + 1) n (omega (arith, few))),
)

points_by_ascend : (c : Bool) (n b : ℕ) → n ≤ 256 → Ascends (2 + 257 * b) (points_by c n b) (2 + 257 * (b + 1))
points_by_ascend true n b few = (omega arith, omega arith)
points_by_ascend false n b few = (
  omega arith,
  ascends_from (2 + 257 * b + 0 + 1) (2 + 257 * b + (1 + 0)) (2 + 257 * (b + 1)) (map (λ u. point.Routine (block_no b) (Some (task_no u))) (range_with_len 0 n))
      (omega arith) (overs_ascend b 0 n (omega (arith, few))),
)

-- a range is in a pair's list exactly where the pair has it
within_range : (o : ℕ × ℕ) (b : ℕ) → is_within b o ≡ true → Among b (blocks_within o)
within_range o b e = let h = and_parts (nat_le o.0 b) (nat_lt b (o.0 + o.1)) e in among_range o.0 o.1 b (grind (arith, nat_tests)) (grind (arith, nat_tests))

range_within : (o : ℕ × ℕ) (b : ℕ) → Among b (blocks_within o) → is_within b o ≡ true
range_within o b m = let h = range_among o.0 o.1 b m in and_from (nat_le o.0 b) (nat_lt b (o.0 + o.1)) (le-leb o.0 b h.0) (lt-ltb b (o.0 + o.1) h.1)

any_among : (os : List (ℕ × ℕ)) (b : ℕ) → list_any (is_within b) os ≡ true → Among b (blocks_of os)
any_among [] b e = absurd (cc)
any_among (o ∷ os) b e = elim (or_cases (is_within b o) (list_any (is_within b) os) e) [
  | inl h ↦ among_left b (blocks_within o) (blocks_of os) (within_range o b h)
  | inr h ↦ among_right b (blocks_within o) (blocks_of os) (any_among os b h)
]

among_any : (os : List (ℕ × ℕ)) (b : ℕ) → Among b (blocks_of os) → list_any (is_within b) os ≡ true
among_any [] b m = absurd m
among_any (o ∷ os) b m = elim (among_cases b (blocks_within o) (blocks_of os) m) [
  | inl l ↦ ap (λ (c : Bool). c || list_any (is_within b) os) (range_within o b l)
  | inr r ↦ ap (λ (c : Bool). is_within b o || c) (among_any os b r) ∙ or-true (is_within b o)
]

-- ---- all points

module _ (app : App) where
  abbrev n : ℕ
  n = length app.tasks

  few : n ≤ 256
  few = let most : n ≤ 16 = app.valid.few_tasks in omega (arith, most)

  blocks_ascend : (b m : ℕ) → Ascends (2 + 257 * b) (flat_map (block_points app) (range_with_len b m)) (2 + 257 * (b + m))
  blocks_ascend b zero = omega arith
  blocks_ascend b (suc m) =
      let rest = flat_map (block_points app) (range_with_len (b + 1) m) in
      let same : b + 1 + m ≡ b + suc m = omega arith in
      ascends_joined (2 + 257 * b) (2 + 257 * (b + 1)) (2 + 257 * (b + suc m)) (block_points app b) rest (points_by_ascend (is_task_block app b) n b few)
      (subst (λ (e : ℕ). Ascends (2 + 257 * (b + 1)) rest (2 + 257 * e)) same (blocks_ascend (b + 1) m))

  all_ascend : Ascends 0 (points_in_order app) (2 + 257 * (0 + length app.blocks))
  unfolding points_in_order
  all_ascend = (omega arith, (omega arith, blocks_ascend 0 (length app.blocks)))

  pub points_ascend : IsStrictlySortedBy nat_cmp (map point_number (points_in_order app))
  points_ascend = numbers_ascend 0 (2 + 257 * (0 + length app.blocks)) (points_in_order app) all_ascend

  -- a block is a task's or a routine's, and not both
  task_has : (b : ℕ) → is_task_block app b ≡ true → Among b (blocks_of_tasks app)
  task_has b e = any_among (map of_task app.tasks) b (any_of_map (is_within b) of_task app.tasks ∙ e)

  has_task : (b : ℕ) → Among b (blocks_of_tasks app) → is_task_block app b ≡ true
  has_task b m = sym (any_of_map (is_within b) of_task app.tasks) ∙ among_any (map of_task app.tasks) b m

  has_none : (b : ℕ) → Among b (blocks_of_routines app) → is_task_block app b ≡ false
  has_none b m = elim (cases_Bool (is_task_block app b)) [
    | inl e ↦ absurd (eqb-false b b (distinct_across nat_eq (blocks_of_tasks app) (blocks_of_routines app) (blocks_apart app) b b (task_has b e) m) refl)
    | inr e ↦ e
  ]

  some_owner : (b : ℕ) → b < length app.blocks → Among b (blocks_of_tasks app) ⊎ Among b (blocks_of_routines app)
  some_owner b known = among_cases b (blocks_of_tasks app) (blocks_of_routines app)
      (subst (Among b) (owners_joined app) (any_among (owners app.tasks app.isrs app.counters) b (app.valid.owned b known)))

  task_known : (b : ℕ) → Among b (blocks_of_tasks app) → b < length app.blocks
  task_known b m = let h = task_at app (block_no b) m in own_known app h.task b h.known h.own

  other_known : (b : ℕ) → Among b (blocks_of_routines app) → b < length app.blocks
  other_known b m = let h = routine_at app (block_no b) None tt m in routine_known app h.source b h.known h.own

  at_block_among : (b : ℕ) (p : Point) (c : Bool) → b < length app.blocks → is_task_block app b ≡ c → Among p (points_by c n b) → Among p (points_in_order app)
  unfolding points_in_order
  at_block_among b p c known is m = inr (inr (among_flat_map (block_points app) b p (range_with_len 0 (length app.blocks)) (among_range 0 (length app.blocks) b (omega arith) (omega (arith, known)))
      (subst (λ (d : Bool). Among p (points_by d n b)) (sym is) m)))

  over_among : (b : ℕ) (over : Option TaskNo) → IfSome over (λ (t : TaskNo). t.0 < n) → Among (point.Routine (block_no b) over) (routine_points n b)
  over_among b None h = inl refl
  over_among b (Some t) h = inr (among_map (λ u. point.Routine (block_no b) (Some (task_no u))) t.0 (range_with_len 0 n) (among_range 0 n t.0 (omega arith) (omega (arith, h))))

  point_among : (p : Point) → IsPoint app p → Among p (points_in_order app)
  unfolding points_in_order
  point_among point.Halted h = inl refl
  point_among point.Idle h = inr (inl refl)
  point_among (point.Task b) h =
      let m = owned of_task app.tasks h.task no_task b.0 h.known h.own in
      at_block_among b.0 (point.Task b) true (task_known b.0 m) (has_task b.0 m) (inl refl)
  point_among (point.Routine b over) h =
      let m = of_routine app h.source b.0 h.known h.own in
      at_block_among b.0 (point.Routine b over) false (other_known b.0 m) (has_none b.0 m) (over_among b.0 over h.task)

  task_is_point : (b : ℕ) (p : Point) → Among b (blocks_of_tasks app) → Among p (points_by true n b) → IsPoint app p
  task_is_point b p m (inl e) = subst (IsPoint app) (sym e) (task_at app (block_no b) m)
  task_is_point b p m (inr k) = absurd k

  routine_is_point : (b : ℕ) (p : Point) → Among b (blocks_of_routines app) → Among p (points_by false n b) → IsPoint app p
  routine_is_point b p m (inl e) = subst (IsPoint app) (sym e) (routine_at app (block_no b) None tt m)
  routine_is_point b p m (inr k) =
      let h = map_among (λ u. point.Routine (block_no b) (Some (task_no u))) p (range_with_len 0 n) k in
      subst (IsPoint app) (sym h.2) (routine_at app (block_no b) (Some (task_no h.0)) (omega (arith, (range_among 0 n h.0 h.1).1)) m)

  block_is_point : (b : ℕ) (p : Point) → b < length app.blocks → Among p (block_points app b) → IsPoint app p
  block_is_point b p known m = elim (some_owner b known) [
    | inl t ↦ task_is_point b p t (subst (λ (d : Bool). Among p (points_by d n b)) (has_task b t) m)
    | inr r ↦ routine_is_point b p r (subst (λ (d : Bool). Among p (points_by d n b)) (has_none b r) m)
  ]

  among_point : (p : Point) → Among p (points_in_order app) → IsPoint app p
  unfolding points_in_order
  among_point p (inl e) = subst (IsPoint app) (sym e) tt
  among_point p (inr (inl e)) = subst (IsPoint app) (sym e) tt
  among_point p (inr (inr m)) =
      let h = flat_map_among (block_points app) p (range_with_len 0 (length app.blocks)) m in
      block_is_point h.0 p (omega (arith, (range_among 0 (length app.blocks) h.0 h.1).1)) h.2

  once : IsDistinct same_number (points_in_order app)
  once = each_once 0 (2 + 257 * (0 + length app.blocks)) (points_in_order app) all_ascend

  pub are_points : ArePoints app (points_in_order app)
  are_points = record {
    each = λ p h. among_contained (points_in_order app) p (point_among p h);
    no_other = λ p c. among_point p (contained_among (points_in_order app) p c);
    once = once;
  }

  -- no two points have one number
  pub one_number : (p q : Point) → IsPoint app p → IsPoint app q → point_number p ≡ point_number q → p ≡ q
  one_number p q h k e = distinct_once same_number (points_in_order app) p q once (point_among p h) (point_among q k) (same_if p q e) (same_if q p (sym e))

  -- ---- how many

  abbrev is_other : ℕ → Bool
  is_other b = not (is_task_block app b)

  more : (m k : ℕ) → k ≡ m + 1 → k * (n + 1) ≡ m * (n + 1) + (n + 1)
  more m k e = ap (λ (l : ℕ). l * (n + 1)) e ∙ omega (arith, add-mul m 1 (n + 1))

  size : (xs : List ℕ) → length (flat_map (block_points app) xs) ≡ length (filter (is_task_block app) xs) + length (filter is_other xs) * (n + 1)
  size [] = omega (arith, zero-mul (n + 1))
  size (b ∷ xs) =
      let f = filter (is_task_block app) xs in
      let g = filter is_other xs in
      length-append (block_points app b) (flat_map (block_points app) xs)
      ∙ (elim (is_task_block app b) as (λ c. length (points_by c n b) + length (flat_map (block_points app) xs) ≡ length (cond c (b ∷ f) f) + length (cond (not c) (b ∷ g) g) * (n + 1)) [
        | true ↦ omega (arith, size xs)
        | false ↦ omega (arith, size xs, more (length g) (length (b ∷ g)) (omega arith), length-map (range_with_len 0 n) (λ u. point.Routine (block_no b) (Some (task_no u))), length-range_with_len 0 n)
      ])

  tasks_size : length (filter (is_task_block app) (range_with_len 0 (length app.blocks))) ≡ task_blocks app
  tasks_size =
      let xs = filter (is_task_block app) (range_with_len 0 (length app.blocks)) in
      same_length xs (blocks_of_tasks app)
      (distinct_passing (is_task_block app) (range_with_len 0 (length app.blocks)) (distinct_range 0 (length app.blocks)))
      (distinct_left nat_eq (blocks_of_tasks app) (blocks_of_routines app) (blocks_apart app))
      (λ b m. task_has b (passing_among (is_task_block app) (length app.blocks) b m).0)
      (λ b m. among_passing (is_task_block app) (length app.blocks) b (task_known b m) (has_task b m))
      ∙ length_owned of_task app.tasks

  other_passes : (b : ℕ) → is_task_block app b ≡ false → is_other b ≡ true
  other_passes b e = ap not e

  other_has : (b : ℕ) → b < length app.blocks → is_other b ≡ true → Among b (blocks_of_routines app)
  other_has b known passes = elim (some_owner b known) [
    | inl t ↦ (let e : is_task_block app b ≡ true = has_task b t in absurd (cc))
    | inr r ↦ r
  ]

  routines_size : length (filter is_other (range_with_len 0 (length app.blocks))) ≡ routine_blocks app
  routines_size =
      let isrs = blocks_of (map of_isr app.isrs) in
      let counters = blocks_of (map of_counter app.counters) in
      same_length (filter is_other (range_with_len 0 (length app.blocks))) (blocks_of_routines app)
      (distinct_passing is_other (range_with_len 0 (length app.blocks)) (distinct_range 0 (length app.blocks)))
      (distinct_right nat_eq (blocks_of_tasks app) (blocks_of_routines app) (blocks_apart app))
      (λ b m. let h = passing_among is_other (length app.blocks) b m in other_has b h.1 h.0)
      (λ b m. among_passing is_other (length app.blocks) b (other_known b m) (other_passes b (has_none b m)))
      ∙ length-append isrs counters ∙ ap (λ (m : ℕ). m + length counters) (length_owned of_isr app.isrs) ∙ ap (λ (m : ℕ). sum_by (λ (x : Isr). x.count) app.isrs + m) (length_owned of_counter app.counters)

  pub points_counted : length (points_in_order app) ≡ points app
  unfolding points_in_order
  points_counted =
      let blocks = flat_map (block_points app) (range_with_len 0 (length app.blocks)) in
      let two : length (point.Halted ∷ point.Idle ∷ blocks) ≡ length blocks + 2 = omega arith in
      let others = ap (λ (m : ℕ). m * (n + 1)) routines_size in
      omega (arith, two, size (range_with_len 0 (length app.blocks)), tasks_size, others)

-- ---- their order

pub after_halted : (p : Point) → p ≢ point.Halted → point_number point.Halted < point_number p
after_halted point.Halted other = absurd (other refl)
after_halted point.Idle other = omega arith
after_halted (point.Task b) other = omega arith
after_halted (point.Routine b over) other = omega arith

pub after_idle : (p : Point) → p ≢ point.Halted → p ≢ point.Idle → point_number point.Idle < point_number p
after_idle point.Halted other further = absurd (other refl)
after_idle point.Idle other further = absurd (further refl)
after_idle (point.Task b) other further = omega arith
after_idle (point.Routine b over) other further = omega arith

-- how far behind the first number of its block a point is
record IsBehind (b : ℕ) (p : Point) : Type 0 where
  offset : ℕ
  few : offset ≤ 256
  is : point_number p ≡ 2 + 257 * b + offset

over_few : (app : App) (over : Option TaskNo) → IfSome over (λ (t : TaskNo). t.0 < length app.tasks) → over_number over ≤ 256
over_few app None h = omega arith
over_few app (Some t) h = let most : length app.tasks ≤ 16 = app.valid.few_tasks in omega (arith, h, most)

at_block : (app : App) (p : Point) (b : BlockNo) → IsPoint app p → StandsAt p b → IsBehind b.0 p
at_block app point.Halted b h at = absurd at
at_block app point.Idle b h at = absurd at
at_block app (point.Task c) b h at =
    let same : c.0 ≡ b.0 = ap (λ (x : BlockNo). x.0) at in
    record { offset = 0; few = omega arith; is = omega (arith, same) }
at_block app (point.Routine c over) b h at =
    let same : c.0 ≡ b.0 = ap (λ (x : BlockNo). x.0) at in
    record { offset = over_number over; few = over_few app over h.task; is = omega (arith, same) }

pub by_block : (app : App) (p q : Point) (b c : BlockNo) → IsPoint app p → IsPoint app q → StandsAt p b → StandsAt q c → b.0 < c.0 → point_number p < point_number q
by_block app p q b c h k at there lt =
    let x = at_block app p b h at in
    let y = at_block app q c k there in
    omega (arith, x.few, x.is, y.is, lt)
