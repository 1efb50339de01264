-- What GetResource and ReleaseResource make of stacks, and which services are refused to who holds a resource.
use Rattle.std.proofs.Common.{◌≡◌, ◌⊎◌, ℕ, ◌-◌, ◌<◌, true, false, not, ◌&&◌, ◌||◌, List, [], ◌∷◌, ◌++◌, length, take, nat_eq, nat_lt, refl, sym, ◌∙◌, ap, subst, inl, inr, arith, Some}
use Rattle.std.proofs.lemmas.Bool.{false≢true}
use Rattle.std.specs.declared.option.Option.{Option}
use Rattle.osek_values.specs.declared.numbers.{ResNo.{ResNo}, SourceNo.{SourceNo}, TaskNo.{TaskNo}}
use Rattle.osek_values.specs.declared.status.Status.TheVariants as status
use Rattle.osek_standard.specs.declared.{app.App.{App}, state.{State.{State}, Caller.{Caller, TheVariants.{Nobody, Routine, Task}}}}
use Rattle.osek_standard.specs.{Apps.{is_extended}, TaskStates.{held, is_live}, States.{caller, is_in, is_taken, source_state, task_state}}
use Rattle.osek_standard.specs.{Priority.{base_priority, ceiling}, Levels.{interrupt_ceiling, own_level}, Effects.{is_error}, Well.{Well}}
use Rattle.osek_standard.specs.Services.{Answer, chain_task, get_resource, get_resource_by, get_resource_isr, holds_some, is_full, is_on_top, release_resource, release_resource_by, release_resource_isr, schedule, share}
use Rattle.osek_standard.specs.Services.{stack_of_source, terminate_task, wait_event, with_held, with_source_stack}
use Rattle.osek_standard.specs.declared.state.Processor.TheVariants as processor
use Rattle.osek_standard.proofs.{Callers.{IsAtProcessor, at_processor, routine_level_of, task_level_of}, SourceKeeps.{runs_began}}
use Rattle.kernel_guarantees.specs.{Holding.{IsCalledBy}, Resources.{Holder, stack_of}}
use Rattle.kernel_guarantees.proofs.{Serving.{either_by, running}, StackServices.{none_of, routine_is_set, routine_set, task_is_set, task_set, top_parted}, StackSteps.{or_first}}

-- a refusal is no E_OK
no_access : {X : Type 0} → Some status.Access ≡ Some status.Ok → X
no_access e = absurd (false≢true (sym (ap is_error e)))

no_func : {X : Type 0} → Some status.NoFunc ≡ Some status.Ok → X
no_func e = absurd (false≢true (sym (ap is_error e)))

module _ (app : App) (m : State) (w : Well app m) where
  -- who calls is there, and began
  known_task : (c : TaskNo) → caller m.processor ≡ Task c → c.0 < length m.tasks
  known_task c e = let h = (task_level_of app m c w (running m c e)).running.0 in omega (arith, w.tasks_len, h)

  live_task : (c : TaskNo) → caller m.processor ≡ Task c → is_live (task_state m c.0) ≡ true
  live_task c e = (task_level_of app m c w (running m c e)).running.1

  at_routine : (k : SourceNo) → caller m.processor ≡ Routine k → (over : Option TaskNo) × (m.processor ≡ processor.Interrupted k over)
  at_routine k e = subst (IsAtProcessor m) e (at_processor m)

  known_routine : (k : SourceNo) → caller m.processor ≡ Routine k → k.0 < length m.sources
  known_routine k e = let h = at_routine k e in let known = (routine_level_of app m k h.0 w h.1).known in omega (arith, w.sources_len, known)

  began : (k : SourceNo) → caller m.processor ≡ Routine k → is_in (source_state m k.0) ≡ true
  began k e = let h = at_routine k e in runs_began app k.0 (source_state m k.0) (routine_level_of app m k h.0 w h.1).runs

  module _ (x : Holder) where
    -- GetResource keeps x's stack, or puts the resource on top
    abbrev pub Gets : Caller → ResNo → Answer → Type 0
    Gets c r a = (stack_of a.state x ≡ stack_of m x) ⊎ (IsCalledBy c x × (a.status ≡ Some status.Ok) × (stack_of a.state x ≡ stack_of m x ++ r ∷ []))

    -- and ReleaseResource takes it from there
    abbrev pub Releases : Caller → ResNo → Answer → Type 0
    Releases c r a = (stack_of a.state x ≡ stack_of m x) ⊎ (IsCalledBy c x × (a.status ≡ Some status.Ok) × (stack_of m x ≡ stack_of a.state x ++ r ∷ []))

    pub gets : (c : Caller) (r : ResNo) → caller m.processor ≡ c → Gets c r (get_resource_by app m c r)
    unfolding get_resource get_resource_isr
    gets Nobody r e = inl refl
    gets (Routine k) r e = either_by (Gets (Routine k) r) (is_taken m r.0 || nat_lt (interrupt_ceiling app r.0) (own_level app k.0)) _ _ (λ _. inl refl)
        (λ _. elim (routine_set app x m k.0 (stack_of_source app m k.0 ++ r ∷ []) (began k e)) [
          | inl same ↦ inl same
          | inr h ↦ inr (h.0, refl, h.1 ∙ ap (λ (g : List ResNo). g ++ r ∷ []) (sym h.2))
        ])
    gets (Task c) r e = either_by (Gets (Task c) r) (is_taken m r.0 || nat_lt (ceiling app r.0) (base_priority app c.0)) _ _ (λ _. inl refl)
        (λ _. elim (task_set x m c.0 (held (task_state m c.0) ++ r ∷ []) (live_task c e)) [
          | inl same ↦ inl same
          | inr h ↦ inr (h.0, refl, h.1 ∙ ap (λ (g : List ResNo). g ++ r ∷ []) (sym h.2))
        ])

    pub releases : (c : Caller) (r : ResNo) → caller m.processor ≡ c → Releases c r (release_resource_by app m c r)
    unfolding release_resource release_resource_isr
    releases Nobody r e = inl refl
    releases (Routine k) r e =
        let h : List ResNo = stack_of_source app m k.0 in
        either_by (Releases (Routine k) r) (nat_lt (interrupt_ceiling app r.0) (own_level app k.0)) _ _ (λ _. inl refl)
        (λ _. either_by (Releases (Routine k) r) (is_on_top r.0 h) _ _
        (λ top. elim (routine_set app x m k.0 (take (length h - 1) h) (began k e)) [
          | inl same ↦ inl same
          | inr g ↦ inr (g.0, refl, g.2 ∙ top_parted h r top ∙ ap (λ (z : List ResNo). z ++ r ∷ []) (sym g.1))
        ]) (λ _. inl refl))
    releases (Task c) r e =
        let h : List ResNo = held (task_state m c.0) in
        either_by (Releases (Task c) r) (nat_lt (ceiling app r.0) (base_priority app c.0)) _ _ (λ _. inl refl)
        (λ _. either_by (Releases (Task c) r) (is_on_top r.0 h) _ _
        (λ top. elim (task_set x m c.0 (take (length h - 1) h) (live_task c e)) [
          | inl same ↦ inl same
          | inr g ↦ inr (g.0, refl, g.2 ∙ top_parted h r top ∙ ap (λ (z : List ResNo). z ++ r ∷ []) (sym g.1))
        ]) (λ _. inl refl))

    -- what is accepted does it
    abbrev pub Takes : ResNo → Answer → Type 0
    Takes r a = a.status ≡ Some status.Ok → stack_of a.state x ≡ stack_of m x ++ r ∷ []

    abbrev pub Gives : ResNo → Answer → Type 0
    Gives r a = a.status ≡ Some status.Ok → stack_of m x ≡ stack_of a.state x ++ r ∷ []

    pub takes : (c : Caller) (r : ResNo) → caller m.processor ≡ c → IsCalledBy c x → Takes r (get_resource_by app m c r)
    unfolding get_resource get_resource_isr
    takes Nobody r e is = absurd is
    takes (Routine k) r e is =
        let g : List ResNo = stack_of_source app m k.0 ++ r ∷ [] in
        either_by (Takes r) (is_taken m r.0 || nat_lt (interrupt_ceiling app r.0) (own_level app k.0)) _ _ (λ _ f. no_access f)
        (λ _ _. subst (λ (z : Holder). stack_of (with_source_stack app m k.0 g) z ≡ stack_of m z ++ r ∷ []) (sym is) (routine_is_set app m k.0 g (known_routine k e) (began k e)))
    takes (Task c) r e is =
        let g : List ResNo = held (task_state m c.0) ++ r ∷ [] in
        either_by (Takes r) (is_taken m r.0 || nat_lt (ceiling app r.0) (base_priority app c.0)) _ _ (λ _ f. no_access f)
        (λ _ _. subst (λ (z : Holder). stack_of (with_held m c.0 g) z ≡ stack_of m z ++ r ∷ []) (sym is) (task_is_set m c.0 g (known_task c e) (live_task c e)))

    pub gives : (c : Caller) (r : ResNo) → caller m.processor ≡ c → IsCalledBy c x → Gives r (release_resource_by app m c r)
    unfolding release_resource release_resource_isr
    gives Nobody r e is = absurd is
    gives (Routine k) r e is =
        let h : List ResNo = stack_of_source app m k.0 in
        let g : List ResNo = take (length h - 1) h in
        either_by (Gives r) (nat_lt (interrupt_ceiling app r.0) (own_level app k.0)) _ _ (λ _ f. no_access f)
        (λ _. either_by (Gives r) (is_on_top r.0 h) _ _
        (λ top _. subst (λ (z : Holder). stack_of m z ≡ stack_of (with_source_stack app m k.0 g) z ++ r ∷ []) (sym is)
        (top_parted h r top ∙ ap (λ (z : List ResNo). z ++ r ∷ []) (sym (routine_is_set app m k.0 g (known_routine k e) (began k e))))) (λ _ f. no_func f))
    gives (Task c) r e is =
        let h : List ResNo = held (task_state m c.0) in
        let g : List ResNo = take (length h - 1) h in
        either_by (Gives r) (nat_lt (ceiling app r.0) (base_priority app c.0)) _ _ (λ _ f. no_access f)
        (λ _. either_by (Gives r) (is_on_top r.0 h) _ _
        (λ top _. subst (λ (z : Holder). stack_of m z ≡ stack_of (with_held m c.0 g) z ++ r ∷ []) (sym is)
        (top_parted h r top ∙ ap (λ (z : List ResNo). z ++ r ∷ []) (sym (task_is_set m c.0 g (known_task c e) (live_task c e))))) (λ _ f. no_func f))

    -- and what is taken isn't given
    pub refuses : (c : Caller) (r : ResNo) → IsCalledBy c x → is_taken m r.0 ≡ true → (get_resource_by app m c r).status ≡ Some status.Access
    unfolding get_resource get_resource_isr
    refuses Nobody r is taken = absurd is
    refuses (Routine k) r is taken = either_by (λ (a : Answer). a.status ≡ Some status.Access) (is_taken m r.0 || nat_lt (interrupt_ceiling app r.0) (own_level app k.0)) _ _ (λ _. refl)
        (λ f. absurd (false≢true (sym f ∙ or_first (is_taken m r.0) (nat_lt (interrupt_ceiling app r.0) (own_level app k.0)) taken)))
    refuses (Task c) r is taken = either_by (λ (a : Answer). a.status ≡ Some status.Access) (is_taken m r.0 || nat_lt (ceiling app r.0) (base_priority app c.0)) _ _ (λ _. refl)
        (λ f. absurd (false≢true (sym f ∙ or_first (is_taken m r.0) (nat_lt (ceiling app r.0) (base_priority app c.0)) taken)))

-- the services that are refused to a task that holds a resource
module _ (app : App) (m : State) (c : TaskNo) where
  abbrev IsBarred : Answer → Type 0
  IsBarred a = a.status ≡ Some status.Resource

  -- who isn't refused holds none
  abbrev pub FreesNone : Answer → Type 0
  FreesNone a = is_error a.status ≡ false → held (task_state m c.0) ≡ []

  refusal : {X : Type 0} → true ≡ false → X
  refusal e = absurd (false≢true (sym e))

  module _ (some : holds_some m c.0 ≡ true) where
    held_none : {X : Type 0} → holds_some m c.0 ≡ false → X
    held_none none = absurd (false≢true (sym none ∙ some))

    pub terminate_barred : IsBarred (terminate_task app m (Task c))
    unfolding terminate_task
    terminate_barred = either_by IsBarred (holds_some m c.0) _ _ (λ _. refl) (λ none. held_none none)

    pub chain_barred : (t : ℕ) → IsBarred (chain_task app m (Task c) t)
    unfolding chain_task
    chain_barred t = either_by IsBarred (holds_some m c.0) _ _ (λ _. refl) (λ none. held_none none)

    pub schedule_barred : IsBarred (schedule m (Task c))
    unfolding schedule
    schedule_barred = either_by IsBarred (holds_some m c.0) _ _ (λ _. refl) (λ none. held_none none)

    pub wait_barred : (e : ℕ) → is_extended app c.0 ≡ true → IsBarred (wait_event app m (Task c) e)
    unfolding wait_event
    wait_barred e ext = either_by IsBarred (not (is_extended app c.0)) _ _ (λ no. absurd (false≢true (sym (ap not ext) ∙ no)))
        (λ _. either_by IsBarred (holds_some m c.0) _ _ (λ _. refl) (λ none. held_none none))

  pub terminate_none : FreesNone (terminate_task app m (Task c))
  unfolding terminate_task
  terminate_none = either_by FreesNone (holds_some m c.0) _ _ (λ _ e. refusal e) (λ none _. none_of (held (task_state m c.0)) none)

  pub chain_none : (t : ℕ) → FreesNone (chain_task app m (Task c) t)
  unfolding chain_task
  chain_none t = either_by FreesNone (holds_some m c.0) _ _ (λ _ e. refusal e)
      (λ none. either_by FreesNone (not (nat_eq t c.0) && is_full app m t) _ _ (λ _ e. refusal e) (λ _ _. none_of (held (task_state m c.0)) none))

  pub schedule_none : FreesNone (schedule m (Task c))
  unfolding schedule
  schedule_none = either_by FreesNone (holds_some m c.0) _ _ (λ _ e. refusal e) (λ none _. none_of (held (task_state m c.0)) none)

  pub wait_none : (e : ℕ) → FreesNone (wait_event app m (Task c) e)
  unfolding wait_event
  wait_none e = either_by FreesNone (not (is_extended app c.0)) _ _ (λ _ f. refusal f) (λ _. either_by FreesNone (holds_some m c.0) _ _ (λ _ f. refusal f)
      (λ none. either_by FreesNone (share (task_state m c.0).events.0 e) _ _ (λ _ _. none_of (held (task_state m c.0)) none) (λ _ _. none_of (held (task_state m c.0)) none)))
