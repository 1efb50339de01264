-- Which hooks a set of them has, and which an instruction notes.
use Rattle.std.proofs.Common.{◌≡◌, ℕ, ◌*◌, ◌<◌, Bool, true, false, not, nat_eq, zero, suc, ◌&&◌, ◌||◌, max, min, refl, sym, ap, ◌∙◌, arith}
use Rattle.std.proofs.Math.Nat.{zero-mul}
use Rattle.std.proofs.lemmas.Bool.{Decides.{nat_tests}}
use Rattle.std.proofs.lemmas.Nat.Bits.{and_pow, bit_at-lt, bit_at_and, bit_at_or}
use Rattle.std.specs.{Prelude.{bit_and, bit_or, is_some}, Int.{bit_at}}
use Rattle.osek_values.specs.declared.{status.Ask.{Ask}}
use Rattle.osek_values.specs.Hooks.{error, post_task, pre_task, when}
use Rattle.osek_standard.specs.declared.{app.App.{App}, state.State.{State}}
use Rattle.osek_standard.specs.{States.{task_of}, Effects.{Effect}, Dispatch.{Keep, Outcome, To, concluded, is_left, outcome_hooks}}
use Rattle.kernel_guarantees.specs.HookNotes.{ErrorHook, Hook, PostTaskHook, PreTaskHook, ShutdownHook, StartupHook, is_in_set, is_set_true, runs}

abbrev place : Hook → ℕ
place StartupHook = 0
place ShutdownHook = 1
place ErrorHook = 2
place PreTaskHook = 3
place PostTaskHook = 4

eqb-none : (m : ℕ) → 0 < m → nat_eq m 0 ≡ false
eqb-none m h = grind (arith, nat_tests)

-- by its bit
is_bit : (b p : ℕ) → b < 2 → 0 < p → not (nat_eq (b * p) 0) ≡ nat_eq b 1
is_bit zero p low some = ap not (ap (λ (m : ℕ). nat_eq m 0) (zero-mul p))
is_bit (suc zero) p low some = ap not (eqb-none (1 * p) (omega (arith, some)))
is_bit (suc (suc b)) p low some = absurd (omega (arith, low))

has_bit : (h : Hook) (n : ℕ) → is_in_set h n ≡ nat_eq (bit_at n (place h)) 1
has_bit StartupHook n = ap (λ (m : ℕ). not (nat_eq m 0)) (and_pow n 0) ∙ is_bit (bit_at n 0) 1 (bit_at-lt n 0) (omega arith)
has_bit ShutdownHook n = ap (λ (m : ℕ). not (nat_eq m 0)) (and_pow n 1) ∙ is_bit (bit_at n 1) 2 (bit_at-lt n 1) (omega arith)
has_bit ErrorHook n = ap (λ (m : ℕ). not (nat_eq m 0)) (and_pow n 2) ∙ is_bit (bit_at n 2) 4 (bit_at-lt n 2) (omega arith)
has_bit PreTaskHook n = ap (λ (m : ℕ). not (nat_eq m 0)) (and_pow n 3) ∙ is_bit (bit_at n 3) 8 (bit_at-lt n 3) (omega arith)
has_bit PostTaskHook n = ap (λ (m : ℕ). not (nat_eq m 0)) (and_pow n 4) ∙ is_bit (bit_at n 4) 16 (bit_at-lt n 4) (omega arith)

or_bits : (p q : ℕ) → p < 2 → q < 2 → nat_eq (max p q) 1 ≡ (nat_eq p 1 || nat_eq q 1)
or_bits zero zero low less = refl
or_bits zero (suc zero) low less = refl
or_bits (suc zero) zero low less = refl
or_bits (suc zero) (suc zero) low less = refl
or_bits (suc (suc p)) q low less = absurd (omega (arith, low))
or_bits zero (suc (suc q)) low less = absurd (omega (arith, less))
or_bits (suc zero) (suc (suc q)) low less = absurd (omega (arith, less))

and_bits : (p q : ℕ) → p < 2 → q < 2 → nat_eq (min p q) 1 ≡ (nat_eq p 1 && nat_eq q 1)
and_bits zero zero low less = refl
and_bits zero (suc zero) low less = refl
and_bits (suc zero) zero low less = refl
and_bits (suc zero) (suc zero) low less = refl
and_bits (suc (suc p)) q low less = absurd (omega (arith, low))
and_bits zero (suc (suc q)) low less = absurd (omega (arith, less))
and_bits (suc zero) (suc (suc q)) low less = absurd (omega (arith, less))

pub in_either : (h : Hook) (a b : ℕ) → is_in_set h (bit_or a b) ≡ (is_in_set h a || is_in_set h b)
in_either h a b =
    let k = place h in
    let e : nat_eq (bit_at (bit_or a b) k) 1 ≡ (nat_eq (bit_at a k) 1 || nat_eq (bit_at b k) 1)
    = ap (λ (m : ℕ). nat_eq m 1) (bit_at_or a b k) ∙ or_bits (bit_at a k) (bit_at b k) (bit_at-lt a k) (bit_at-lt b k) in
    has_bit h (bit_or a b) ∙ e ∙ ap (λ (x : Bool). x || nat_eq (bit_at b k) 1) (sym (has_bit h a)) ∙ ap (λ (x : Bool). is_in_set h a || x) (sym (has_bit h b))

pub in_both : (h : Hook) (a b : ℕ) → is_in_set h (bit_and a b) ≡ (is_in_set h a && is_in_set h b)
in_both h a b =
    let k = place h in
    let e : nat_eq (bit_at (bit_and a b) k) 1 ≡ (nat_eq (bit_at a k) 1 && nat_eq (bit_at b k) 1)
    = ap (λ (m : ℕ). nat_eq m 1) (bit_at_and a b k) ∙ and_bits (bit_at a k) (bit_at b k) (bit_at-lt a k) (bit_at-lt b k) in
    has_bit h (bit_and a b) ∙ e ∙ ap (λ (x : Bool). x && nat_eq (bit_at b k) 1) (sym (has_bit h a)) ∙ ap (λ (x : Bool). is_in_set h a && x) (sym (has_bit h b))

-- among those that the OS object sets TRUE
pub in_wanted : (app : App) (h : Hook) (a : ℕ) → is_set_true app h ≡ true → is_in_set h (bit_and app.hooks.0 a) ≡ is_in_set h a
in_wanted app h a e = in_both h app.hooks.0 a ∙ ap (λ (x : Bool). x && is_in_set h a) e

pub in_when : (h : Hook) (due : Bool) (k : ℕ) → is_in_set h k ≡ false → is_in_set h (when due k) ≡ false
in_when StartupHook true k e = e
in_when ShutdownHook true k e = e
in_when ErrorHook true k e = e
in_when PreTaskHook true k e = e
in_when PostTaskHook true k e = e
in_when StartupHook false k e = refl
in_when ShutdownHook false k e = refl
in_when ErrorHook false k e = refl
in_when PreTaskHook false k e = refl
in_when PostTaskHook false k e = refl

pub post_when : (due : Bool) → is_in_set PostTaskHook (when due post_task) ≡ due
post_when true = refl
post_when false = refl

pub pre_when : (due : Bool) → is_in_set PreTaskHook (when due pre_task) ≡ due
pre_when true = refl
pre_when false = refl

pub error_when : (due : Bool) → is_in_set ErrorHook (when due error) ≡ due
error_when true = refl
error_when false = refl

-- the hooks of a dispatch
abbrev pub post_due : State → Ask → Outcome → Bool
post_due s a Keep = false
post_due s a (To x) = is_left a || is_some (task_of s.processor)

abbrev pub pre_due : Outcome → Bool
pre_due Keep = false
pre_due (To x) = is_some x

pub dispatch_runs_no : (h : Hook) (s : State) (a : Ask) (x : Outcome) → is_in_set h post_task ≡ false → is_in_set h pre_task ≡ false → is_in_set h (outcome_hooks s a x) ≡ false
dispatch_runs_no StartupHook s a Keep e f = refl
dispatch_runs_no ShutdownHook s a Keep e f = refl
dispatch_runs_no ErrorHook s a Keep e f = refl
dispatch_runs_no PreTaskHook s a Keep e f = refl
dispatch_runs_no PostTaskHook s a Keep e f = refl
dispatch_runs_no h s a (To x) e f = in_either h (when (is_left a || is_some (task_of s.processor)) post_task) (when (is_some x) pre_task)
    ∙ ap (λ (y : Bool). y || is_in_set h (when (is_some x) pre_task)) (in_when h (is_left a || is_some (task_of s.processor)) post_task e) ∙ in_when h (is_some x) pre_task f

pub or_false : (b : Bool) → (b || false) ≡ b
or_false true = refl
or_false false = refl

pub post_runs : (s : State) (a : Ask) (x : Outcome) → is_in_set PostTaskHook (outcome_hooks s a x) ≡ post_due s a x
post_runs s a Keep = refl
post_runs s a (To x) =
    let due : Bool = is_left a || is_some (task_of s.processor) in
    in_either PostTaskHook (when due post_task) (when (is_some x) pre_task) ∙ ap (λ (y : Bool). y || is_in_set PostTaskHook (when (is_some x) pre_task)) (post_when due)
    ∙ ap (λ (y : Bool). due || y) (in_when PostTaskHook (is_some x) pre_task refl) ∙ or_false due

pub pre_runs : (s : State) (a : Ask) (x : Outcome) → is_in_set PreTaskHook (outcome_hooks s a x) ≡ pre_due x
pre_runs s a Keep = refl
pre_runs s a (To x) =
    let due : Bool = is_left a || is_some (task_of s.processor) in
    in_either PreTaskHook (when due post_task) (when (is_some x) pre_task) ∙ ap (λ (y : Bool). y || is_in_set PreTaskHook (when (is_some x) pre_task)) (in_when PreTaskHook due post_task refl)
    ∙ pre_when (is_some x)

-- the hooks of an effect and then those of its outcome
pub concluded_runs : (app : App) (h : Hook) (e : Effect) (x : Outcome) → is_set_true app h ≡ true → runs h (concluded app e x).notes ≡ (runs h e.notes || is_in_set h (outcome_hooks e.state e.ask x))
concluded_runs app h e x t = in_either h e.notes.hooks.0 (bit_and app.hooks.0 (outcome_hooks e.state e.ask x)) ∙ ap (λ (y : Bool). runs h e.notes || y) (in_wanted app h (outcome_hooks e.state e.ask x) t)
