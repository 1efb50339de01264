-- Tests over lists.
use Rattle.std.proofs.Common.{◌≡◌, ℕ, Bool, true, false, ◌||◌, List, [], ◌∷◌, ◌++◌, map, refl, ap, ◌∙◌}
use Rattle.std.specs.List.{list_any}
use Rattle.std.proofs.lemmas.List.Folds.{list_any-append}
use Rattle.osek_values.proofs.Lists.{any_of_map}
use Rattle.osek_standard.specs.{declared.objects.{Task.{Task}, Isr.{Isr}, Counter.{Counter}}, Validity.{owners}}

or_assoc : (x y z : Bool) → ((x || y) || z) ≡ (x || (y || z))
or_assoc true y z = refl
or_assoc false y z = refl

-- a test of the owners is one of the tasks, of the ISRs and of the counters
pub any_of_owners : (p : ℕ × ℕ → Bool) (tasks : List Task) (isrs : List Isr) (counters : List Counter)
    → list_any p (owners tasks isrs counters) ≡ (list_any (λ (x : Task). p (x.first.0, x.count)) tasks || (list_any (λ (x : Isr). p (x.first.0, x.count)) isrs || list_any (λ (x : Counter). p (x.first.0, x.count)) counters))
any_of_owners p tasks isrs counters =
    let ts = map (λ (x : Task). (x.first.0, x.count)) tasks in
    let is = map (λ (x : Isr). (x.first.0, x.count)) isrs in
    let cs = map (λ (x : Counter). (x.first.0, x.count)) counters in
    list_any-append p (ts ++ is) cs ∙ ap (λ b. b || list_any p cs) (list_any-append p ts is)
    ∙ or_assoc (list_any p ts) (list_any p is) (list_any p cs)
    ∙ rw (any_of_map p (λ (x : Task). (x.first.0, x.count)) tasks, any_of_map p (λ (x : Isr). (x.first.0, x.count)) isrs, any_of_map p (λ (x : Counter). (x.first.0, x.count)) counters) refl

pub map_same : {X : Type 0} (xs : List X) → map (λ (x : X). x) xs ≡ xs
map_same [] = refl
map_same (x ∷ xs) = ap (λ ys. x ∷ ys) (map_same xs)
