-- The places that tasks have to have in the line: who goes in and who comes out, and what each change of a task asks for.
use Rattle.std.proofs.Common.{◌≡◌, ◌≢◌, ℕ, ◌+◌, ◌<◌, Bool, true, false, cond, List, [], ◌∷◌, ◌++◌, refl, sym, ◌∙◌, ap, subst, inl, inr, arith, Some, None, nat_eq}
use Rattle.std.proofs.lemmas.Bool.{cases_Bool, eq-eqb, eqb-true, eqb-false, false_from_ne_true, Decides.{nat_tests}}
use Rattle.std.specs.declared.option.Option.{Option}
use Rattle.osek_values.specs.{declared.numbers.{TaskNo.{TaskNo}, ResNo.{ResNo}, BlockNo.{BlockNo}}, Numbers.{task_no}, Line.{without_first}}
use Rattle.osek_standard.specs.declared.{app.App.{App}, task_state.{TaskState.{TaskState}, Place.{Place}, Activity.{Activity, TheVariants.{Suspended, Live, Waiting}}}}
use Rattle.osek_standard.specs.{Apps.{the_task, the_block}, TaskStates.{is_live_activity, further_in}, States.{is_that_task}, Line.{places_due}, Internal.{inside_as}}
use Rattle.osek_standard.specs.{Services.{activated_by, ended_by, is_full_by, live_at, released_from, waits_in, with_stack}, Effects.{standing_at}}
use Rattle.osek_standard.proofs.PlaceLaws.{places_in, itself_first, itself_last, other_first, other_last, without_other, without_same}

-- a task that runs or is interrupted is Live
abbrev pub IsLiveIf : Option TaskNo → ℕ → Activity → Type 0
IsLiveIf o t a = is_that_task o t ≡ true → is_live_activity a ≡ true

-- a task beside the one that has the processor has as many places as where none has it
pub due_beside : (o : Option TaskNo) (t : ℕ) (a : Activity) → is_that_task o t ≡ false → places_due o t a ≡ places_due None t a
due_beside o t Suspended e = refl
due_beside o t (Live x) e = ap (λ (b : Bool). cond b x.further (x.further + 1)) e
due_beside o t (Waiting b) e = refl

-- and that one has a place less
pub due_of_current : (o : Option TaskNo) (t : ℕ) (a : Activity) → is_that_task o t ≡ true → is_live_activity a ≡ true → places_due o t a + 1 ≡ places_due None t a
due_of_current o t Suspended e live = absurd (cc)
due_of_current o t (Live x) e live = ap (λ (b : Bool). cond b x.further (x.further + 1) + 1) e
due_of_current o t (Waiting b) e live = absurd (cc)

itself : (v : TaskNo) (t : ℕ) → nat_eq v.0 t ≡ true → t ≡ v.0
itself v t e = sym (eqb-true v.0 t e)

another : (v : TaskNo) (t : ℕ) → nat_eq v.0 t ≡ false → t ≢ v.0
another v t e same = eqb-false v.0 t e (sym same)

abbrev pub put_first : Option TaskNo → List TaskNo → List TaskNo
put_first None line = line
put_first (Some v) line = v ∷ line

abbrev pub take_out : Option TaskNo → List TaskNo → List TaskNo
take_out None line = line
take_out (Some v) line = without_first line v.0

-- who had the processor goes first: then each task has its places where none has it
pub due_first : (o : Option TaskNo) (line : List TaskNo) (t : ℕ) (a : Activity) → IsLiveIf o t a → places_in line t ≡ places_due o t a
    → places_in (put_first o line) t ≡ places_due None t a
due_first None line t a live h = h
due_first (Some v) line t a live h = elim (cases_Bool (nat_eq v.0 t)) [
  | inl e ↦ (let due = due_of_current (Some v) t a e (live e) in
      let more : places_in (v ∷ line) t ≡ places_in line t + 1 = subst (λ (u : ℕ). places_in (v ∷ line) u ≡ places_in line u + 1) (eqb-true v.0 t e) (itself_first v line) in
      omega (arith, due, more, h))
  | inr e ↦ other_first t v line (another v t e) ∙ h ∙ due_beside (Some v) t a e
]

-- who gets the processor comes out: then each task has its places beside that one
pub due_out : (o : Option TaskNo) (line : List TaskNo) (t : ℕ) (a : Activity) → IsLiveIf o t a → places_in line t ≡ places_due None t a → places_in (take_out o line) t ≡ places_due o t a
due_out None line t a live h = h
due_out (Some v) line t a live h = elim (cases_Bool (nat_eq v.0 t)) [
  | inl e ↦ (let due = due_of_current (Some v) t a e (live e) in
      let some : 0 < places_in line t = omega (arith, due, h) in
      let less : places_in (without_first line v.0) t + 1 ≡ places_in line t
      = subst (λ (u : ℕ). places_in (without_first line u) t + 1 ≡ places_in line t) (itself v t e) (without_same t line some) in
      omega (arith, due, less, h))
  | inr e ↦ without_other v.0 t line (another v t e) ∙ h ∙ sym (due_beside (Some v) t a e)
]

-- a last place of a task, for it and for another
pub due_last : (t : ℕ) (line : List TaskNo) (n m : ℕ) → places_in line t ≡ n → m ≡ n + 1 → places_in (line ++ task_no t ∷ []) t ≡ m
due_last t line n m h e = omega (arith, itself_last (task_no t) line, h, e)

pub due_other : (t u : ℕ) (line : List TaskNo) (n : ℕ) → u ≢ t → places_in line u ≡ n → places_in (line ++ task_no t ∷ []) u ≡ n
due_other t u line n other h = other_last u (task_no t) line other ∙ h

-- another place in the code, another stack, and the flag don't count
pub due_moved : (p : Place) (o : Option TaskNo) (t : ℕ) (a : Activity) → places_due o t (standing_at a p) ≡ places_due o t a
due_moved p o t Suspended = refl
due_moved p o t (Live x) = refl
due_moved p o t (Waiting b) = refl

pub due_with_stack : (g : List ResNo) (o : Option TaskNo) (t : ℕ) (a : Activity) → places_due o t (with_stack a g) ≡ places_due o t a
due_with_stack g o t Suspended = refl
due_with_stack g o t (Live x) = refl
due_with_stack g o t (Waiting b) = refl

pub due_inside : (i : Bool) (o : Option TaskNo) (t : ℕ) (a : Activity) → places_due o t (inside_as i a) ≡ places_due o t a
due_inside i o t Suspended = refl
due_inside i o t (Live x) = refl
due_inside i o t (Waiting b) = refl

not_current : (o : Option TaskNo) (t : ℕ) (a : Activity) → IsLiveIf o t a → is_live_activity a ≡ false → is_that_task o t ≡ false
not_current o t a live e = false_from_ne_true (is_that_task o t) (λ f. let g : is_live_activity a ≡ true = live f in absurd (cc))

-- a task that becomes Live has one place
anew : (o : Option TaskNo) (t : ℕ) (b : BlockNo) → is_that_task o t ≡ false → places_due o t (live_at b 0) ≡ 1
anew o t b e = due_beside o t (live_at b 0) e

-- an activation is one place more
pub due_activated : (app : App) (o : Option TaskNo) (t n : ℕ) (x : TaskState) (a : Activity) → IsLiveIf o t a → is_full_by n a ≡ false
    → places_due o t (activated_by app t x a).activity ≡ places_due o t a + 1
due_activated app o t n x Suspended live room = anew o t (the_task app t).first (not_current o t Suspended live refl)
due_activated app o t n x (Live y) live room =
    elim (is_that_task o t) as (λ (b : Bool). cond b (y.further + 1) (y.further + 1 + 1) ≡ cond b y.further (y.further + 1) + 1) [ true ↦ refl | false ↦ refl ]
due_activated app o t n x (Waiting b) live room = absurd (cc)

-- and so is a release from waiting
pub due_released : (app : App) (o : Option TaskNo) (t m : ℕ) (a : Activity) → IsLiveIf o t a → waits_in app a m ≡ true → places_due o t (released_from app a) ≡ places_due o t a + 1
due_released app o t m Suspended live waits = absurd (cc)
due_released app o t m (Live x) live waits = absurd (cc)
due_released app o t m (Waiting b) live waits = anew o t (the_block app b.0).next (not_current o t (Waiting b) live refl)

-- a task that ends leaves its further activations in the line
pub due_ended : (app : App) (t : TaskNo) (a : Activity) → is_live_activity a ≡ true → places_due None t.0 (ended_by app t.0 a) ≡ places_due (Some t) t.0 a
due_ended app t Suspended live = absurd (cc)
due_ended app t (Live x) live =
    let left : places_due (Some t) t.0 (Live x) ≡ x.further = ap (λ (b : Bool). cond b x.further (x.further + 1)) (eq-eqb t.0 t.0 refl) in
    elim (cases_Bool (nat_eq x.further 0)) [
      | inl e ↦ (let none : x.further ≡ 0 = eqb-true x.further 0 e in rw e (omega (arith, left, none)))
      | inr e ↦ (let some = eqb-false x.further 0 e in rw e (omega (arith, left, some)))
    ]
due_ended app t (Waiting b) live = absurd (cc)

-- a task without further activations that waits has no place
pub due_waiting : (t : TaskNo) (a : Activity) → further_in a ≡ 0 → is_live_activity a ≡ true → places_due (Some t) t.0 a ≡ 0
due_waiting t Suspended none live = refl
due_waiting t (Live x) none live = ap (λ (b : Bool). cond b x.further (x.further + 1)) (eq-eqb t.0 t.0 refl) ∙ none
due_waiting t (Waiting b) none live = refl

-- what has ended takes an activation, if it was within its ACTIVATION
pub room_after_end : (app : App) (t n : ℕ) (a : Activity) → is_live_activity a ≡ true → further_in a < n → is_full_by n (ended_by app t a) ≡ false
room_after_end app t n Suspended live h = refl
room_after_end app t n (Live x) live h = elim (cases_Bool (nat_eq x.further 0)) [
  | inl e ↦ (rw e refl)
  | inr e ↦ (rw e (grind (arith, nat_tests)))
]
room_after_end app t n (Waiting b) live h = absurd (cc)
