-- The height of an entry with an application's domains, and how high it is at most.
use Rattle.std.proofs.Common.{◌≡◌, ℕ, zero, suc, ◌+◌, ◌-◌, ◌*◌, ◌^◌, ◌<◌, ◌≤◌, Bool, true, false, cond, List, [], ◌∷◌, ◌++◌, length, map, filter, flat_map, get_or, refl, sym, ap, ap₂, ◌∙◌, arith, All, nat_lt}
use Rattle.std.specs.{Prelude.{not, is_some, if◌then◌else◌}, List.{range_with_len, sum_by, count_by}}
use Rattle.std.proofs.lemmas.{Bool.{lt-ltb, Decides.{nat_tests}}, List.{length-map, FromFn.{length-range_with_len}, Sums.{sum_by-cons, sum_by-append, sum_by-le, count_by-le-length}}, Nat.{ones-le}}
use Rattle.osek_values.proofs.BitCounts.{bits_counted}
use Rattle.osek_values.specs.{Numbers.{task_no, event_no, alarm_no, mask, res_no, source_no}, Bits.{has_bit}}
use Rattle.oil_system.specs.declared.objects.Resource.{Resource}
use Rattle.osek_standard.specs.{declared.{app.App.{App}, objects.{Task.{Task}, Isr.{Isr}, Counter.{Counter}}}, Validity.{is_internal}}
use Rattle.osek_standard.specs.Apps.{the_task, the_isr, the_counter, no_task, no_isr, no_counter, no_resource, source_count}
use Rattle.osek_standard.specs.Counts.{stacks, live_height, task_height, event_height, isr_height, tick_height, source_height, height, takable_count}
use Rattle.osek_standard.proofs.CountLaws.{few_stacks, few_live}
use Rattle.abstract_state.proofs.BitLaws.{has_bit_of_number, no_bit_past}
use Rattle.abstract_state.specs.declared.value.Component.{Component}
use Rattle.abstract_state.specs.declared.value.Component.TheVariants as component
use Rattle.abstract_state.specs.{declared.table.{ValueSet.{ValueSet}, PlainEntry.{PlainEntry}}, Components.{own_bits, events_of, components}}
use Rattle.abstract_state.specs.Domains.{domain_size, domain_of, resources_in, takable_resources, domains_of, domains, entry_height, HasMasks}

module _ {X Y : Type 0} (g : Y → ℕ) where
  -- sums over lists made of others
  pub sum_map : (f : X → Y) (xs : List X) → sum_by g (map f xs) ≡ sum_by (λ x. g (f x)) xs
  sum_map f [] = refl
  sum_map f (x ∷ xs) =
      sum_by-cons g (f x) (map f xs) ∙ ap (λ (n : ℕ). g (f x) + n) (sum_map f xs) ∙ sym (sum_by-cons (λ (y : X). g (f y)) x xs)

  sum_flat_map : (f : X → List Y) (xs : List X) → sum_by g (flat_map f xs) ≡ sum_by (λ x. sum_by g (f x)) xs
  sum_flat_map f [] = refl
  sum_flat_map f (x ∷ xs) =
      sum_by-append g (f x) (flat_map f xs) ∙ ap (λ (n : ℕ). sum_by g (f x) + n) (sum_flat_map f xs) ∙ sym (sum_by-cons (λ (y : X). sum_by g (f y)) x xs)

module _ {X : Type 0} where
  sum_constant : (n : ℕ) (xs : List X) → sum_by (λ x. n) xs ≡ n * length xs
  sum_constant n [] = omega arith
  sum_constant n (x ∷ xs) = sum_by-cons (λ (y : X). n) x xs ∙ omega (arith, sum_constant n xs)

  -- over the numbers of a list's elements
  sum_places : (h : X → ℕ) (d : X) (g : ℕ → ℕ) (a : ℕ) (xs : List X) → ((i : ℕ) → i < length xs → g (a + i) ≡ h (get_or xs i d)) → sum_by g (range_with_len a (length xs)) ≡ sum_by h xs
  sum_places h d g a [] each = refl
  sum_places h d g a (x ∷ xs) each =
      let here : g a ≡ h x = ap g (omega arith) ∙ each 0 (omega arith) in
      let rest : sum_by g (range_with_len (a + 1) (length xs)) ≡ sum_by h xs = sum_places h d g (a + 1) xs (λ i lt. ap g (omega arith) ∙ each (suc i) (omega (arith, lt))) in
      sum_by-cons g a (range_with_len (a + 1) (length xs)) ∙ ap₂ (λ (m n : ℕ). m + n) here rest ∙ sym (sum_by-cons h x xs)

-- a sum over a range is one over its two parts
sum_split : (g : ℕ → ℕ) (a m n : ℕ) → sum_by g (range_with_len a (m + n)) ≡ sum_by g (range_with_len a m) + sum_by g (range_with_len (a + m) n)
sum_split g a zero n =
    let few : zero + n ≡ n = omega arith in
    let from : a ≡ a + zero = omega arith in
    let none : sum_by g (range_with_len a zero) ≡ 0 = refl in
    let whole : sum_by g (range_with_len a (zero + n)) ≡ sum_by g (range_with_len a n) = ap (λ (k : ℕ). sum_by g (range_with_len a k)) few in
    let rest : sum_by g (range_with_len a n) ≡ sum_by g (range_with_len (a + zero) n) = ap (λ (k : ℕ). sum_by g (range_with_len k n)) from in
    omega (arith, none, whole, rest)
sum_split g a (suc m) n =
    let long : suc m + n ≡ suc (m + n) = omega arith in
    let from : a + 1 + m ≡ a + suc m = omega arith in
    let whole : sum_by g (range_with_len a (suc m + n)) ≡ sum_by g (range_with_len a (suc (m + n))) = ap (λ (k : ℕ). sum_by g (range_with_len a k)) long in
    let first : sum_by g (range_with_len a (suc (m + n))) ≡ g a + sum_by g (range_with_len (a + 1) (m + n)) = sum_by-cons g a (range_with_len (a + 1) (m + n)) in
    let front : sum_by g (range_with_len a (suc m)) ≡ g a + sum_by g (range_with_len (a + 1) m) = sum_by-cons g a (range_with_len (a + 1) m) in
    let place : sum_by g (range_with_len (a + 1 + m) n) ≡ sum_by g (range_with_len (a + suc m) n) = ap (λ (k : ℕ). sum_by g (range_with_len k n)) from in
    omega (arith, whole, first, front, place, sum_split g (a + 1) m n)

-- Numbers that pass a test, where it passes those of the elements of a list that pass another.
module _ (test : ℕ → Bool) where
  none_counted : (a w : ℕ) → ((i : ℕ) → i < w → test (a + i) ≡ false) → length (filter test (range_with_len a w)) ≡ 0
  none_counted a zero none = refl
  none_counted a (suc w) none =
      let here : test a ≡ false = ap test (omega arith) ∙ none 0 (omega arith) in
      ap (λ (b : Bool). length (cond b (a ∷ filter test (range_with_len (a + 1) w)) (filter test (range_with_len (a + 1) w)))) here
      ∙ none_counted (a + 1) w (λ i lt. ap test (omega arith) ∙ none (suc i) (omega (arith, lt)))

  one_counted : (b : Bool) (a : ℕ) (rest : List ℕ) → length (cond b (a ∷ rest) rest) ≡ (if b then 1 else 0) + length rest
  one_counted true a rest = omega arith
  one_counted false a rest = omega arith

  passing_counted : {X : Type 0} (p : X → Bool) (d : X) (a w : ℕ) (xs : List X) → length xs ≤ w → ((i : ℕ) → i < length xs → test (a + i) ≡ p (get_or xs i d))
      → ((i : ℕ) → length xs ≤ i → i < w → test (a + i) ≡ false) → length (filter test (range_with_len a w)) ≡ count_by p xs
  passing_counted p d a w [] few each none = none_counted a w (λ i lt. none i (omega arith) lt)
  passing_counted p d a zero (x ∷ xs) few each none = absurd (omega (arith, few))
  passing_counted p d a (suc w) (x ∷ xs) few each none =
      let rest = filter test (range_with_len (a + 1) w) in
      let here : test a ≡ p x = ap test (omega arith) ∙ each 0 (omega arith) in
      let more : length rest ≡ count_by p xs
      = passing_counted p d (a + 1) w xs (omega (arith, few)) (λ i lt. ap test (omega arith) ∙ each (suc i) (omega (arith, lt))) (λ i past lt. ap test (omega arith) ∙ none (suc i) (omega (arith, past)) (omega (arith, lt))) in
      one_counted (test a) a rest
      ∙ ap₂ (λ (b : Bool) (n : ℕ). (if b then 1 else 0) + n) here more
      ∙ sym (sum_by-cons (λ y. if p y then 1 else 0) x xs)

module _ (app : App) where
  -- the size of a component's domain
  abbrev size : Component → ℕ
  size x = domain_size (domain_of app x)

  -- the mask has as many as may stand on a stack
  pub takable_counted : length (resources_in (takable_resources app)) ≡ takable_count app
  takable_counted =
      let f : ℕ → Bool = λ k. not (is_internal app.resources k) in
      let n = length app.resources in
      let few = app.valid.few_resources in
      length-map (filter (has_bit (takable_resources app).0) (range_with_len 0 64)) res_no
      ∙ passing_counted (has_bit (takable_resources app).0) (λ (r : Resource). not r.internal) no_resource 0 64 app.resources (omega (arith, few))
      (λ i lt. ap (has_bit (takable_resources app).0) (omega arith) ∙ has_bit_of_number f n i lt)
      (λ i past lt. ap (has_bit (takable_resources app).0) (omega arith) ∙ no_bit_past f n i past)

  one_height : (i : ℕ) → i < length app.tasks → size (component.Task (task_no i)) ≡ task_height (stacks (takable_count app)) (the_task app i)
  one_height i lt =
      let x = the_task app i in
      ap (λ (n : ℕ). 1 + x.count + (if is_some x.internal then 2 * (x.count * stacks n * x.activation) else x.count * stacks n * x.activation)) takable_counted

  tasks_sum : sum_by size (map (λ t. component.Task (task_no t)) (range_with_len 0 (length app.tasks))) ≡ sum_by (task_height (stacks (takable_count app))) app.tasks
  tasks_sum =
      sum_map size (λ t. component.Task (task_no t)) (range_with_len 0 (length app.tasks))
      ∙ sum_places (task_height (stacks (takable_count app))) no_task (λ t. size (component.Task (task_no t))) 0 app.tasks
      (λ i lt. ap (λ (t : ℕ). size (component.Task (task_no t))) (omega arith) ∙ one_height i lt)

  alarms_sum : sum_by size (map (λ a. component.Alarm (alarm_no a)) (range_with_len 0 (length app.alarms))) ≡ 2 * length app.alarms
  alarms_sum =
      sum_map size (λ a. component.Alarm (alarm_no a)) (range_with_len 0 (length app.alarms))
      ∙ sum_constant 2 (range_with_len 0 (length app.alarms))
      ∙ ap (λ (n : ℕ). 2 * n) (length-range_with_len 0 (length app.alarms))

  events_of_sum : (t : ℕ) → (the_task app t).own.0 < 2 ^ 64 → sum_by size (events_of app t) ≡ event_height (the_task app t)
  events_of_sum t lt =
      sum_map size (λ k. component.Event (task_no t) (event_no k)) (own_bits app t)
      ∙ sum_constant 2 (own_bits app t)
      ∙ ap (λ (n : ℕ). 2 * n) (bits_counted (has_bit (the_task app t).own.0) 64 0 (the_task app t).own.0 lt (λ k less. ap (has_bit (the_task app t).own.0) (omega arith)))

  events_sum : HasMasks app → sum_by size (flat_map (events_of app) (range_with_len 0 (length app.tasks))) ≡ sum_by event_height app.tasks
  events_sum masks =
      sum_flat_map size (events_of app) (range_with_len 0 (length app.tasks))
      ∙ sum_places event_height no_task (λ t. sum_by size (events_of app t)) 0 app.tasks
      (λ i lt. ap (λ (t : ℕ). sum_by size (events_of app t)) (omega arith) ∙ events_of_sum i (masks i no_task lt))

  -- a tick routine takes no resource
  none_takable : length (resources_in (mask 0)) ≡ 0
  none_takable =
      length-map (filter (has_bit 0) (range_with_len 0 64)) res_no
      ∙ none_counted (has_bit 0) 0 64 (λ i lt. no_bit_past (λ k. true) 0 (0 + i) (omega arith))

  abbrev size_of_source : ℕ → ℕ
  size_of_source k = size (component.Source (source_no k))

  -- a source that is a counter, or not
  abbrev size_as : Bool → ℕ → ℕ
  size_as counter k =
      1 + (if counter then (the_counter app k).count else (the_isr app (k - length app.counters)).count) * stacks (length (resources_in (if counter then mask 0 else takable_resources app)))

  tick_size : (c : ℕ) → c < length app.counters → size_of_source c ≡ tick_height (the_counter app c)
  tick_size c lt =
      let once : (the_counter app c).count * 1 ≡ (the_counter app c).count = omega arith in
      ap (λ (counter : Bool). size_as counter c) (lt-ltb c (length app.counters) lt)
      ∙ ap (λ (m : ℕ). 1 + (the_counter app c).count * stacks m) none_takable
      ∙ ap (λ (m : ℕ). 1 + m) once

  isr_size : (i : ℕ) → size_of_source (length app.counters + i) ≡ isr_height (stacks (takable_count app)) (the_isr app i)
  isr_size i =
      let n : ℕ = length app.counters in
      let above : nat_lt (n + i) n ≡ false = grind (arith, nat_tests) in
      let same : n + i - n ≡ i = omega arith in
      ap (λ (counter : Bool). size_as counter (n + i)) above
      ∙ ap₂ (λ (j m : ℕ). 1 + (the_isr app j).count * stacks m) same takable_counted

  sources_sum : sum_by size (map (λ k. component.Source (source_no k)) (range_with_len 0 (source_count app))) ≡ source_height app
  sources_sum =
      let from : 0 + length app.counters ≡ length app.counters = omega arith in
      sum_map size (λ k. component.Source (source_no k)) (range_with_len 0 (source_count app))
      ∙ sum_split size_of_source 0 (length app.counters) (length app.isrs)
      ∙ ap₂ (λ (m n : ℕ). m + n)
      (sum_places tick_height no_counter size_of_source 0 app.counters (λ i lt. ap size_of_source (omega arith) ∙ tick_size i lt))
      (ap (λ (k : ℕ). sum_by size_of_source (range_with_len k (length app.isrs))) from
      ∙ sum_places (isr_height (stacks (takable_count app))) no_isr size_of_source (length app.counters) app.isrs (λ i lt. isr_size i))

  components_sum : HasMasks app → sum_by size (components app) ≡ height app
  components_sum masks =
      let xs = map (λ t. component.Task (task_no t)) (range_with_len 0 (length app.tasks)) in
      let ys = flat_map (events_of app) (range_with_len 0 (length app.tasks)) in
      let zs = map (λ a. component.Alarm (alarm_no a)) (range_with_len 0 (length app.alarms)) in
      let ws = map (λ k. component.Source (source_no k)) (range_with_len 0 (source_count app)) in
      let last = sum_by-append size ((xs ++ ys) ++ zs) ws in
      let ends = sum_by-append size (xs ++ ys) zs in
      let begins = sum_by-append size xs ys in
      omega (arith, last, ends, begins, tasks_sum, events_sum masks, alarms_sum, sources_sum)

  -- an entry with the application's domains has its height
  pub entry_height_is : HasMasks app → (entry : PlainEntry) → domains entry ≡ domains_of app → entry_height entry ≡ height app
  entry_height_is masks entry e =
      sym (sum_map domain_size (λ (set : ValueSet). set.domain) entry.sets)
      ∙ ap (sum_by domain_size) e
      ∙ sum_map domain_size (domain_of app) (components app)
      ∙ components_sum masks

  pub takable_few : takable_count app ≤ 8
  takable_few = omega (arith, count_by-le-length (λ (r : Resource). not r.internal) app.resources, app.valid.few_resources)

  height_at_most : (n : ℕ) (x : Task) (most : ℕ) → live_height n x ≤ most → task_height n x ≤ 1 + x.count + 2 * most
  height_at_most n x most h = by (is_some x.internal)
    where
      by : (b : Bool) → 1 + x.count + (if b then 2 * live_height n x else live_height n x) ≤ 1 + x.count + 2 * most
      by true = omega (arith, h)
      by false = omega (arith, h)

  -- a task's part, with at most 65,535 blocks, the stacks of 8 resources and 255 activations, inside or not
  task_few : All (λ (x : Task). task_height (stacks (takable_count app)) x ≤ 3663177848386) app.tasks
  task_few k d lt =
      let x = get_or app.tasks k d in
      let owner = app.valid.each_task k d lt in
      let blocks : x.count ≤ 65535 = omega (arith, owner.inside, app.valid.few_blocks) in
      let live = few_live x.count (stacks (takable_count app)) x.activation blocks (few_stacks (takable_count app) takable_few) (app.valid.activations k d lt).1 in
      omega (arith, blocks, height_at_most (stacks (takable_count app)) x 1831588891425 live.1)

  event_few : HasMasks app → All (λ (x : Task). event_height x ≤ 128) app.tasks
  event_few masks k d lt = omega (arith, ones-le 64 (get_or app.tasks k d).own.0 (masks k d lt))

  -- a tick routine's, and an ISR's with the stacks of 8 resources
  tick_few : All (λ (x : Counter). tick_height x ≤ 65536) app.counters
  tick_few k d lt = omega (arith, (app.valid.each_counter k d lt).1.inside, app.valid.few_blocks)

  isr_few : All (λ (x : Isr). isr_height (stacks (takable_count app)) x ≤ 7182701536) app.isrs
  isr_few k d lt =
      let x = get_or app.isrs k d in
      let blocks : x.count ≤ 65535 = omega (arith, (app.valid.each_isr k d lt).inside, app.valid.few_blocks) in
      let once = few_live x.count (stacks (takable_count app)) 0 blocks (few_stacks (takable_count app) takable_few) (omega arith) in
      omega (arith, once.0)

  pub height_most : HasMasks app → height app ≤ 58668307712832
  height_most masks =
      let tasks = sum_by-le (task_height (stacks (takable_count app))) 3663177848386 app.tasks task_few in
      let events = sum_by-le event_height 128 app.tasks (event_few masks) in
      let ticks = sum_by-le tick_height 65536 app.counters tick_few in
      let isrs = sum_by-le (isr_height (stacks (takable_count app))) 7182701536 app.isrs isr_few in
      omega (arith, tasks, events, ticks, isrs, app.valid.few_tasks, app.valid.few_alarms, app.valid.few_counters, app.valid.few_isrs)

  pub height_few : HasMasks app → height app < 2 ^ 64
  height_few masks = omega (arith, height_most masks)
