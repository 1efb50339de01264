-- The alarms of a counter, in order.
use Rattle.std.proofs.Common.{◌≡◌, ℕ, suc, ◌+◌, ◌-◌, ◌<◌, ◌≤◌, Bool, true, false, cond, eqb, List, [], ◌∷◌, length, get_or, drop, ◌&&◌, add-one, drop-cons, length-drop, refl, sym, ap, ◌∙◌, arith}
use Rattle.std.specs.List.{enumerate_from, list_all}
use Rattle.std.proofs.lemmas.{Bool.{eqb-true, eqb-false, and_parts}, List.{nil_from_length}}
use Rattle.oil_system.specs.declared.objects.Alarm.{Alarm}
use Rattle.osek_standard.proofs.DueAlarms.{due_from, due_here, due_later}

-- a test of each numbered entry, from a number on
module _ {X : Type 0} (test : ℕ × X → Bool) (xs : List X) where
  pub all_here : (n : ℕ) (d : X) → n < length xs → list_all test (enumerate_from n (drop n xs)) ≡ (test (n, get_or xs n d) && list_all test (enumerate_from (n + 1) (drop (n + 1) xs)))
  all_here n d lt =
      let front : drop n xs ≡ get_or xs n d ∷ drop (n + 1) xs = rw add-one (drop-cons xs n d lt) in
      ap (λ ys. list_all test (enumerate_from n ys)) front

  pub all_past : (n : ℕ) → length xs ≤ n → list_all test (enumerate_from n (drop n xs)) ≡ true
  all_past n le = ap (λ ys. list_all test (enumerate_from n ys)) (nil_from_length (drop n xs) (omega (arith, length-drop n xs)))

pub none_due : (alarms : List Alarm) (n c : ℕ) → length alarms ≤ n → due_from n (drop n alarms) c ≡ []
none_due alarms n c le = ap (λ xs. due_from n xs c) (nil_from_length (drop n alarms) (omega (arith, length-drop n alarms)))

-- a loop that tests each numbered entry in turn
module _ {X : Type 0} (test : ℕ × X → Bool) (xs : List X) (total : Bool) (n : ℕ) where
  pub all_stops : (x : X) → n < length xs → ((d : X) → get_or xs n d ≡ x) → test (n, x) ≡ false → list_all test (enumerate_from n (drop n xs)) ≡ total → false ≡ total
  all_stops x lt item fails so_far =
      let here = all_here test xs n x lt ∙ ap (λ y. test (n, y) && list_all test (enumerate_from (n + 1) (drop (n + 1) xs))) (item x) ∙ ap (λ b. b && list_all test (enumerate_from (n + 1) (drop (n + 1) xs))) fails in
      sym here ∙ so_far

  pub all_goes_on : (x : X) → n < length xs → ((d : X) → get_or xs n d ≡ x) → test (n, x) ≡ true → list_all test (enumerate_from n (drop n xs)) ≡ total
      → list_all test (enumerate_from (n + 1) (drop (n + 1) xs)) ≡ total
  all_goes_on x lt item passes so_far =
      let here = all_here test xs n x lt ∙ ap (λ y. test (n, y) && list_all test (enumerate_from (n + 1) (drop (n + 1) xs))) (item x) ∙ ap (λ b. b && list_all test (enumerate_from (n + 1) (drop (n + 1) xs))) passes in
      sym here ∙ so_far

  pub all_ends : length xs ≤ n → list_all test (enumerate_from n (drop n xs)) ≡ total → true ≡ total
  all_ends le so_far = sym (all_past test xs n le) ∙ so_far

-- a loop that looks for the alarm of a counter at a place
module _ (alarms : List Alarm) (n c left total : ℕ) where
  pub due_found : (d : Alarm) → n < length alarms → (eqb (get_or alarms n d).counter.0 c && eqb left 0) ≡ true
      → get_or (due_from n (drop n alarms) c) left 256 ≡ total → n ≡ total
  due_found d lt here so_far =
      let parts = and_parts (eqb (get_or alarms n d).counter.0 c) (eqb left 0) here in
      let none : left ≡ 0 = eqb-true left 0 parts.1 in
      sym (ap (λ ds. get_or ds left 256) (due_here alarms n c d _ lt refl parts.0) ∙ ap (λ k. get_or (n ∷ due_from (n + 1) (drop (n + 1) alarms) c) k 256) none) ∙ so_far

  by_test : (is : Bool) (x : Alarm) → n < length alarms → eqb (get_or alarms n x).counter.0 c ≡ is → (is && eqb left 0) ≡ false
      → get_or (due_from n (drop n alarms) c) left 256 ≡ get_or (due_from (n + 1) (drop (n + 1) alarms) c) (cond is (left - 1) left) 256
  by_test true x lt is more =
      let k : left ≡ suc (left - 1) = omega (arith, eqb-false left 0 more) in
      ap (λ ds. get_or ds left 256) (due_here alarms n c x _ lt refl is) ∙ ap (λ j. get_or (n ∷ due_from (n + 1) (drop (n + 1) alarms) c) j 256) k
  by_test false x lt is more = ap (λ ds. get_or ds left 256) (due_later alarms n c x _ lt refl is)

  pub due_passed : (d : Alarm) → n < length alarms → (eqb (get_or alarms n d).counter.0 c && eqb left 0) ≡ false
      → get_or (due_from n (drop n alarms) c) left 256 ≡ total → get_or (due_from (n + 1) (drop (n + 1) alarms) c) (cond (eqb (get_or alarms n d).counter.0 c) (left - 1) left) 256 ≡ total
  due_passed d lt more so_far = sym (by_test (eqb (get_or alarms n d).counter.0 c) d lt refl more) ∙ so_far

  pub due_missing : length alarms ≤ n → get_or (due_from n (drop n alarms) c) left 256 ≡ total → 256 ≡ total
  due_missing le so_far = sym (ap (λ ds. get_or ds left 256) (none_due alarms n c le)) ∙ so_far
