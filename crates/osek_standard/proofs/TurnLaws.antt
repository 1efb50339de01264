-- Turns: no two tasks have the same.
use Rattle.std.proofs.{Common.{◌≡◌, ℕ, ◌+◌, Bool, true, false, cond, List, [], ◌∷◌, refl, arith, Some, None, nat_eq}, lemmas.Bool.Decides.{nat_tests}}
use Rattle.std.specs.declared.option.Option.{Option}
use Rattle.osek_values.specs.{declared.numbers.TaskNo.{TaskNo}, Line.{place_in_line}}
use Rattle.osek_standard.specs.{declared.state.State.{State}, States.{task_of, is_that_task}, Line.{turn}}

once_by : (b c : Bool) (n t u p q : ℕ) → nat_eq n t ≡ b → nat_eq n u ≡ c → cond b 0 (1 + p) ≡ cond c 0 (1 + q) → (p ≡ q → t ≡ u) → t ≡ u
once_by true true n t u p q e f h k = grind (arith, nat_tests)
once_by true false n t u p q e f h k = absurd (omega (arith, h))
once_by false true n t u p q e f h k = absurd (omega (arith, h))
once_by false false n t u p q e f h k = k (omega (arith, h))

-- no two tasks have the same first place
pub place_once : (line : List TaskNo) (t u : ℕ) → place_in_line line t ≡ place_in_line line u → t ≡ u
place_once [] t u h = h
place_once (n ∷ line) t u h =
    once_by (nat_eq n.0 t) (nat_eq n.0 u) n.0 t u (place_in_line line t) (place_in_line line u) refl refl h (place_once line t u)

turn_once_by : (o : Option TaskNo) (line : List TaskNo) (t u : ℕ) →
    cond (is_that_task o t) 0 (1 + place_in_line line t) ≡ cond (is_that_task o u) 0 (1 + place_in_line line u) → t ≡ u
turn_once_by None line t u h = place_once line t u (omega (arith, h))
turn_once_by (Some v) line t u h =
    once_by (nat_eq v.0 t) (nat_eq v.0 u) v.0 t u (place_in_line line t) (place_in_line line u) refl refl h (place_once line t u)

pub turn_once : (s : State) (t u : ℕ) → turn s t ≡ turn s u → t ≡ u
turn_once s t u h = turn_once_by (task_of s.processor) s.line t u h
