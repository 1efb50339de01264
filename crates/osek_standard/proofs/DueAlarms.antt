-- The alarms of a counter, in order, and how many they are.
use Rattle.std.proofs.Common.{◌≡◌, ℕ, ◌+◌, ◌<◌, Bool, true, false, cond, eqb, List, [], ◌∷◌, length, map, get_or, drop, add-one, drop-cons, refl, sym, ap, ◌∙◌, arith}
use Rattle.std.specs.{Prelude.{count_by}, List.{filter, enumerate_from}}
use Rattle.std.proofs.lemmas.List.Sums.{sum_by-cons}
use Rattle.oil_system.specs.declared.objects.Alarm.{Alarm}
use Rattle.osek_standard.specs.Validity.{due_of}

-- the counter's of these alarms
abbrev due_in : List (ℕ × Alarm) → ℕ → List (ℕ × Alarm)
due_in alarms c = filter (λ (p : ℕ × Alarm). eqb p.1.counter.0 c) alarms

-- the alarms from a number on
abbrev pub due_from : ℕ → List Alarm → ℕ → List ℕ
due_from n alarms c = map (λ (p : ℕ × Alarm). p.0) (due_in (enumerate_from n alarms) c)

-- that alarm, if it is the counter's, and the later ones
module _ (alarms : List Alarm) (n c : ℕ) (d x : Alarm) (lt : n < length alarms) (is : get_or alarms n d ≡ x) where
  front : drop n alarms ≡ x ∷ drop (n + 1) alarms
  front = rw add-one (drop-cons alarms n d lt) ∙ ap (λ (y : Alarm). y ∷ drop (n + 1) alarms) is

  abbrev kept : Bool → List ℕ
  kept due = let later = due_in (enumerate_from (n + 1) (drop (n + 1) alarms)) c in map (λ (p : ℕ × Alarm). p.0) (cond due ((n, x) ∷ later) later)

  pub due_here : eqb x.counter.0 c ≡ true → due_from n (drop n alarms) c ≡ n ∷ due_from (n + 1) (drop (n + 1) alarms) c
  due_here e = ap (λ (xs : List Alarm). due_from n xs c) front ∙ ap kept e

  pub due_later : eqb x.counter.0 c ≡ false → due_from n (drop n alarms) c ≡ due_from (n + 1) (drop (n + 1) alarms) c
  due_later e = ap (λ (xs : List Alarm). due_from n xs c) front ∙ ap kept e

counted : (due : Bool) (n : ℕ) (x : Alarm) (others : List (ℕ × Alarm)) (k : ℕ) → k ≡ length (map (λ (p : ℕ × Alarm). p.0) others)
    → cond due 1 0 + k ≡ length (map (λ (p : ℕ × Alarm). p.0) (cond due ((n, x) ∷ others) others))
counted true n x others k e = omega (arith, e)
counted false n x others k e = omega (arith, e)

count_from : (n : ℕ) (alarms : List Alarm) (c : ℕ) → count_by (λ (x : Alarm). eqb x.counter.0 c) alarms ≡ length (due_from n alarms c)
count_from n [] c = refl
count_from n (x ∷ xs) c =
    sum_by-cons (λ (y : Alarm). cond (eqb y.counter.0 c) 1 0) x xs ∙ counted (eqb x.counter.0 c) n x (due_in (enumerate_from (n + 1) xs) c) _ (count_from (n + 1) xs c)

pub due_count : (alarms : List Alarm) (c : ℕ) → length (due_of alarms c) ≡ count_by (λ (x : Alarm). eqb x.counter.0 c) alarms
due_count alarms c = sym (count_from 0 alarms c)
