-- The resource services keep a state well-formed (ISO 17356-3, resource management).
use Rattle.std.proofs.Common.{◌≡◌, ℕ, ◌-◌, ◌<◌, true, List, [], ◌∷◌, ◌++◌, take, length, refl, inl, inr, arith, ◌||◌, nat_lt, false, sym, ◌∙◌}
use Rattle.std.proofs.lemmas.Bool.{cases_Bool, or_parts, true≢false}
use Rattle.std.specs.declared.option.Option.{Option}
use Rattle.osek_values.specs.declared.numbers.{ResNo.{ResNo}, SourceNo.{SourceNo}, TaskNo.{TaskNo}}
use Rattle.osek_standard.specs.declared.{app.App.{App}, state.{State.{State}, Caller.{Caller, TheVariants.{Nobody, Task, Routine}}, Source.{Source}}}
use Rattle.osek_standard.specs.declared.task_state.Activity.{Activity, TheVariants.{Suspended, Live, Waiting}}
use Rattle.osek_standard.specs.{TaskStates.{is_live, is_live_activity, held}, States.{task_state, is_taken, held_by_source, is_in, source_state, IfRoutine}}
use Rattle.osek_standard.specs.Services.{get_resource, release_resource, get_resource_by, release_resource_by, with_stack, with_held, is_on_top, get_resource_isr}
use Rattle.osek_standard.specs.Services.{release_resource_isr, source_with_stack, with_source_stack}
use Rattle.osek_standard.specs.{Priority.{ceiling, base_priority}, Well.{Well, IsActivityOf, IsStack, IsSourceState}, Apps.{is_counter, source_count}}
use Rattle.osek_standard.specs.Levels.{interrupt_ceiling, own_level}
use Rattle.osek_standard.specs.declared.state.Source.TheVariants as source
use Rattle.osek_standard.specs.declared.state.Processor.TheVariants as processor
use Rattle.osek_standard.proofs.{StackLaws.{held_stack, push_stack, pop_stack, not_taken, IsTakable, not_taken_by_routine, routine_stack}, Keeps.{with_task_keeps}}
use Rattle.osek_standard.proofs.{SourceKeeps.{in_source_keeps, runs_began, sources_right}, Callers.{IsAtProcessor, routine_level_of, task_level_of}, LineLaws.{due_with_stack}}

-- another stack of a Live task
stack_is_right : (app : App) (t : ℕ) (g : List ResNo) (a : Activity) → IsActivityOf app t a → IsStack app g → IsActivityOf app t (with_stack a g)
stack_is_right app t g Suspended h k = h
stack_is_right app t g (Live x) h k = record { own = h.own; offset = h.offset; stack = k; further = h.further }
stack_is_right app t g (Waiting b) h k = h

stack_is_live : (g : List ResNo) (a : Activity) → is_live_activity a ≡ true → is_live_activity (with_stack a g) ≡ true
stack_is_live g Suspended h = h
stack_is_live g (Live x) h = refl
stack_is_live g (Waiting b) h = h

module _ (app : App) (s : State) where
  -- a Live task with another stack
  pub with_held_keeps : (t : ℕ) (g : List ResNo) → Well app s → t < length app.tasks → IsStack app g → Well app (with_held s t g)
  with_held_keeps t g w known stack =
      let x = task_state s t in
      let right = w.tasks t known in
      with_task_keeps app s t _ w known (record { activity = stack_is_right app t g x.activity right.activity stack; events = right.events }) (stack_is_live g x.activity)
      (λ o. due_with_stack g o t x.activity)

  pub get_resource_keeps : (t : ℕ) (r : ResNo) → Well app s → t < length app.tasks → is_live (task_state s t) ≡ true → IsTakable app r → Well app (get_resource app s t r).state
  unfolding get_resource
  get_resource_keeps t r w known live resource =
      let here : t < length s.tasks = omega (arith, w.tasks_len) in
      let stack : List ResNo = held (task_state s t) in
      elim (cases_Bool (is_taken s r.0 || nat_lt (ceiling app r.0) (base_priority app t))) [
        | inl e ↦ (rw e w)
        | inr e ↦ (let free = not_taken s r.0 (or_parts (is_taken s r.0) (nat_lt (ceiling app r.0) (base_priority app t)) e).0 t here in
            rw e (with_held_keeps t (stack ++ r ∷ []) w known (push_stack app stack r (held_stack app s t w known) resource free)))
      ]

  pub release_resource_keeps : (t : ℕ) (r : ResNo) → Well app s → t < length app.tasks → is_live (task_state s t) ≡ true → Well app (release_resource app s t r).state
  unfolding release_resource
  release_resource_keeps t r w known live =
      let stack : List ResNo = held (task_state s t) in
      elim (cases_Bool (nat_lt (ceiling app r.0) (base_priority app t))) [
        | inl e ↦ (rw e w)
        | inr e ↦ elim (cases_Bool (is_on_top r.0 stack)) [
          | inl f ↦ (rw (e, f) (with_held_keeps t (take (length stack - 1) stack) w known (pop_stack app (length stack - 1) stack (held_stack app s t w known))))
          | inr f ↦ (rw (e, f) w)
        ]
      ]

  routine_with_stack : (k : ℕ) (g : List ResNo) (x : Source) → is_counter app k ≡ false → IsStack app g → IsSourceState app k x → IsSourceState app k (source_with_stack x g)
  routine_with_stack k g source.Out isr stack h = h
  routine_with_stack k g (source.In x) isr stack h = record { own = h.own; offset = h.offset; stack = stack; none = λ counter. absurd (true≢false (sym counter ∙ isr)) }

  in_with_stack : (g : List ResNo) (x : Source) → is_in x ≡ true → is_in (source_with_stack x g) ≡ true
  in_with_stack g source.Out e = e
  in_with_stack g (source.In x) e = refl

  -- an ISR that is in, with another stack
  pub with_source_stack_keeps : (k : ℕ) (g : List ResNo) → Well app s → k < source_count app → is_in (source_state s k) ≡ true → is_counter app k ≡ false → IsStack app g
      → Well app (with_source_stack app s k g)
  with_source_stack_keeps k g w known began isr stack =
      let x = source_state s k in
      in_source_keeps app s k (source_with_stack x g) w known began (in_with_stack g x began) (routine_with_stack k g x isr stack (sources_right app s w k))

  pub get_resource_isr_keeps : (k : ℕ) (r : ResNo) → Well app s → k < source_count app → is_in (source_state s k) ≡ true → is_counter app k ≡ false → IsTakable app r
      → Well app (get_resource_isr app s k r).state
  unfolding get_resource_isr
  get_resource_isr_keeps k r w known began isr resource =
      let here : k < length s.sources = omega (arith, w.sources_len, known) in
      let stack : List ResNo = held_by_source (source_state s k) in
      elim (cases_Bool (is_taken s r.0 || nat_lt (interrupt_ceiling app r.0) (own_level app k))) [
        | inl e ↦ (rw e w)
        | inr e ↦ (let free = not_taken_by_routine s r.0 (or_parts (is_taken s r.0) (nat_lt (interrupt_ceiling app r.0) (own_level app k)) e).0 k here in
            rw e (with_source_stack_keeps k (stack ++ r ∷ []) w known began isr (push_stack app stack r (routine_stack app s k (sources_right app s w k)) resource free)))
      ]

  pub release_resource_isr_keeps : (k : ℕ) (r : ResNo) → Well app s → k < source_count app → is_in (source_state s k) ≡ true → is_counter app k ≡ false
      → Well app (release_resource_isr app s k r).state
  unfolding release_resource_isr
  release_resource_isr_keeps k r w known began isr =
      let stack : List ResNo = held_by_source (source_state s k) in
      elim (cases_Bool (nat_lt (interrupt_ceiling app r.0) (own_level app k))) [
        | inl e ↦ (rw e w)
        | inr e ↦ elim (cases_Bool (is_on_top r.0 stack)) [
          | inl f ↦
              (rw (e, f) (with_source_stack_keeps k (take (length stack - 1) stack) w known began isr
              (pop_stack app (length stack - 1) stack (routine_stack app s k (sources_right app s w k)))))
          | inr f ↦ (rw (e, f) w)
        ]
      ]

  -- a routine at the processor is in
  calling_began : (k : SourceNo) (over : Option TaskNo) → Well app s → s.processor ≡ processor.Interrupted k over → is_in (source_state s k.0) ≡ true
  calling_began k over w e = runs_began app k.0 (source_state s k.0) (routine_level_of app s k over w e).runs

  pub get_resource_by_keeps : (c : Caller) (r : ResNo) → Well app s → IsAtProcessor s c → IfRoutine c (λ (k : SourceNo). is_counter app k.0 ≡ false) → IsTakable app r
      → Well app (get_resource_by app s c r).state
  get_resource_by_keeps Nobody r w h isr takable = w
  get_resource_by_keeps (Routine k) r w h isr takable = get_resource_isr_keeps k.0 r w (routine_level_of app s k h.0 w h.1).known (calling_began k h.0 w h.1) isr takable
  get_resource_by_keeps (Task c) r w h isr takable = let level = task_level_of app s c w h in get_resource_keeps c.0 r w level.running.0 level.running.1 takable

  pub release_resource_by_keeps : (c : Caller) (r : ResNo) → Well app s → IsAtProcessor s c → IfRoutine c (λ (k : SourceNo). is_counter app k.0 ≡ false)
      → Well app (release_resource_by app s c r).state
  release_resource_by_keeps Nobody r w h isr = w
  release_resource_by_keeps (Routine k) r w h isr = release_resource_isr_keeps k.0 r w (routine_level_of app s k h.0 w h.1).known (calling_began k h.0 w h.1) isr
  release_resource_by_keeps (Task c) r w h isr = let level = task_level_of app s c w h in release_resource_keeps c.0 r w level.running.0 level.running.1
