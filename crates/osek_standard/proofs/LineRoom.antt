-- How long the line is at most: as long as the places of its tasks together, of which each has at most its ACTIVATION.
use Rattle.std.proofs.Common.{◌≡◌, ℕ, zero, suc, ◌+◌, ◌*◌, ◌<◌, ◌≤◌, Bool, true, false, cond, List, [], ◌∷◌, length, refl, sym, ◌∙◌, ap, subst, inl, inr, arith, Some, None, IfSome}
use Rattle.std.proofs.{lemmas.{Bool.{cases_Bool, cases_eq, cases_lt, eq-eqb, leb-false}, List.{get_or_past}}, Math.Nat.{add-mul}}
use Rattle.std.specs.declared.option.Option.{Option}
use Rattle.osek_values.specs.declared.{limits.TheConstants.{MAX_LINE}, numbers.{BlockNo.{BlockNo}, TaskNo.{TaskNo}}}
use Rattle.osek_standard.specs.declared.{app.App.{App}, state.State.{State}, task_state.{TaskState.{TaskState}, Activity.{Activity, TheVariants.{Suspended, Live, Waiting}}}}
use Rattle.osek_standard.specs.{Apps.{the_task, no_task}, TaskStates.{suspended}, States.{is_that_task, task_of, task_state}, Line.{places, places_due}}
use Rattle.osek_standard.specs.{Services.{is_full, is_full_by}, Well.{Well, HasProcessor, IsActivityOf}}
use Rattle.osek_standard.proofs.{PlaceLaws.{places_in, itself_first, other_first, one_first}, LineLaws.{due_beside, due_of_current}, Keeps.{current_of}}
use Rattle.osek_standard.proofs.ActivationKeeps.{some_activation}

-- the places of the tasks below a number
abbrev pub places_below : ℕ → List TaskNo → ℕ
places_below zero line = 0
places_below (suc n) line = places_below n line + places_in line n

none_below : (n : ℕ) → places_below n [] ≡ 0
none_below zero = refl
none_below (suc n) = omega (arith, none_below n)

-- a task that isn't among them doesn't count
past_below : (n : ℕ) (t : TaskNo) (line : List TaskNo) → n ≤ t.0 → places_below n (t ∷ line) ≡ places_below n line
past_below zero t line h = refl
past_below (suc n) t line h = omega (arith, past_below n t line (omega (arith, h)), other_first n t line (λ e. omega (arith, h, e)))

-- and one that is counts once
one_below : (n : ℕ) (t : TaskNo) (line : List TaskNo) → t.0 < n → places_below n (t ∷ line) ≡ places_below n line + 1
one_below zero t line h = absurd (omega (arith, h))
one_below (suc n) t line h = elim (cases_eq n t.0) [
  | inl e ↦ (let here : places_in (t ∷ line) n ≡ places_in line n + 1 = subst (λ (m : ℕ). places_in (t ∷ line) m ≡ places_in line m + 1) (sym e) (itself_first t line) in
      omega (arith, past_below n t line (omega (arith, e)), here))
  | inr other ↦ omega (arith, one_below n t line (omega (arith, h, other)), other_first n t line other)
]

-- a line of these tasks alone is as long as their places together
pub length_below : (n : ℕ) (line : List TaskNo) → ((t : ℕ) → n ≤ t → places_in line t ≡ 0) → length line ≡ places_below n line
length_below n [] none = sym (none_below n)
length_below n (t ∷ line) none = elim (cases_lt t.0 n) [
  | inl below ↦ (let rest = length_below n line (λ u past. omega (arith, one_first u t line, none u past)) in
      omega (arith, rest, one_below n t line below))
  | inr past ↦ absurd (omega (arith, itself_first t line, none t.0 past))
]

-- each has so many at most, and one of them fewer
at_most : (n most : ℕ) (line : List TaskNo) → ((t : ℕ) → t < n → places_in line t ≤ most) → places_below n line ≤ n * most
at_most zero most line few = omega arith
at_most (suc n) most line few =
    let rest = at_most n most line (λ t h. few t (omega (arith, h))) in
    let size : (n + 1) * most ≡ n * most + 1 * most = add-mul n 1 most in
    let next : suc n ≡ n + 1 = omega arith in
    subst (λ (m : ℕ). places_below (suc n) line ≤ m * most) (sym next) (omega (arith, rest, few n (omega arith), size))

fewer : (n most t : ℕ) (line : List TaskNo) → ((u : ℕ) → u < n → places_in line u ≤ most) → t < n → places_in line t < most → places_below n line < n * most
fewer zero most t line few h one = absurd (omega (arith, h))
fewer (suc n) most t line few h one =
    let size : (n + 1) * most ≡ n * most + 1 * most = add-mul n 1 most in
    let next : suc n ≡ n + 1 = omega arith in
    let below : (u : ℕ) → u < n → places_in line u ≤ most = λ u k. few u (omega (arith, k)) in
    subst (λ (m : ℕ). places_below (suc n) line < m * most) (sym next) (elim (cases_eq t n) [
      | inl e ↦ (let here : places_in line n < most = subst (λ (m : ℕ). places_in line m < most) e one in omega (arith, at_most n most line below, here, size))
      | inr other ↦ omega (arith, fewer n most t line below (omega (arith, h, other)) one, few n (omega arith), size)
    ])

-- a task has at most its ACTIVATION of places
few_due : (app : App) (o : Option TaskNo) (t : ℕ) (a : Activity) → IsActivityOf app t a → places_due o t a ≤ (the_task app t).activation
few_due app o t Suspended h = omega arith
few_due app o t (Live x) h = elim (cases_Bool (is_that_task o t)) [
  | inl e ↦ (let due : places_due o t (Live x) ≡ x.further = ap (λ (b : Bool). cond b x.further (x.further + 1)) e in omega (arith, due, h.further))
  | inr e ↦ omega (arith, due_beside o t (Live x) e, h.further)
]
few_due app o t (Waiting b) h = omega arith

module _ (app : App) (s : State) (w : Well app s) where
  few_places : (t : ℕ) → t < length app.tasks → places_in s.line t ≤ 255
  few_places t known = omega (arith, w.line t, few_due app (task_of s.processor) t (task_state s t).activity (w.tasks t known).activity, (app.valid.activations t no_task known).1)

  -- a number that no task has is not in the line
  no_places : (t : ℕ) → length app.tasks ≤ t → places_in s.line t ≡ 0
  no_places t past = w.line t ∙ ap (λ (x : TaskState). places_due (task_of s.processor) t x.activity) (get_or_past s.tasks t suspended (omega (arith, w.tasks_len, past)))

  -- where a task has fewer places than its ACTIVATION, the line has room for one more
  pub room_in_line : (t : ℕ) → t < length app.tasks → places s t < (the_task app t).activation → length s.line < MAX_LINE
  room_in_line t known h =
      let all = length_below (length app.tasks) s.line no_places in
      let here : places_in s.line t < 255 = omega (arith, h, (app.valid.activations t no_task known).1) in
      omega (arith, all, fewer (length app.tasks) 255 t s.line few_places known here, app.valid.few_tasks)

  open_due : (o : Option TaskNo) (t n : ℕ) (a : Activity) → is_full_by n a ≡ false → 0 < n → places_due o t a < n
  open_due o t n Suspended room some = some
  open_due o t n (Live x) room some = let few = leb-false n (x.further + 1) room in elim (cases_Bool (is_that_task o t)) [
    | inl e ↦ (let due : places_due o t (Live x) ≡ x.further = ap (λ (b : Bool). cond b x.further (x.further + 1)) e in omega (arith, due, few))
    | inr e ↦ omega (arith, due_beside o t (Live x) e, few)
  ]
  open_due o t n (Waiting b) room some = some

  -- for the activation of a task that takes one
  pub room_to_activate : (t : ℕ) → t < length app.tasks → is_full app s t ≡ false → length s.line < MAX_LINE
  room_to_activate t known room = room_in_line t known
      (omega (arith, w.line t, open_due (task_of s.processor) t (the_task app t).activation (task_state s t).activity room (some_activation app t known)))

  -- for a task that waits, when it is released
  pub room_for_waiting : (t : ℕ) (b : BlockNo) → t < length app.tasks → (task_state s t).activity ≡ Waiting b → length s.line < MAX_LINE
  room_for_waiting t b known e =
      let none : places s t ≡ 0 = w.line t ∙ ap (λ (a : Activity). places_due (task_of s.processor) t a) e in
      room_in_line t known (omega (arith, none, some_activation app t known))

  -- and for the task that runs or is interrupted
  pub room_for_current : (t : TaskNo) → task_of s.processor ≡ Some t → length s.line < MAX_LINE
  room_for_current t e =
      let h = subst (λ (o : Option TaskNo). IfSome o (HasProcessor app s)) e (current_of app s s.processor w.processor) in
      let a = (task_state s t.0).activity in
      let mine : is_that_task (task_of s.processor) t.0 ≡ true = subst (λ (o : Option TaskNo). is_that_task o t.0 ≡ true) (sym e) (eq-eqb t.0 t.0 refl) in
      let less = due_of_current (task_of s.processor) t.0 a mine h.1 in
      room_in_line t.0 h.0 (omega (arith, w.line t.0, less, few_due app None t.0 a (w.tasks t.0 h.0).activity))
