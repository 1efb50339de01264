-- What an instruction at a site changed, put back, is the state as it was.
use Rattle.std.proofs.Common.{◌≡◌, ℕ, ◌<◌, Bool, true, false, List, length, refl, sym, ◌∙◌, ap, subst, inl, inr, arith, Some, None, slice_index_or, slice_set, get_or-set_same}
use Rattle.std.proofs.Common.{get_or-set_other, take}
use Rattle.std.proofs.{Math.ListN.{length-set}, lemmas.{Bool.{cases_Bool, Decides.{nat_tests}}, List.{ext_get_or, set-get_or, set-set}}}
use Rattle.std.specs.declared.option.Option.{Option}
use Rattle.osek_values.specs.declared.numbers.{ModeNo.{ModeNo}, TaskNo.{TaskNo}, SourceNo.{SourceNo}}
use Rattle.osek_standard.specs.declared.{app.App.{App}, block.Kind.{Kind}, state.{State.{State}, AlarmState.{AlarmState}, Source.{Source}, Processor.{Processor}}}
use Rattle.osek_standard.specs.declared.task_state.TaskState.{TaskState}
use Rattle.osek_standard.specs.{Apps.{is_site, the_block}, TaskStates.{suspended}, States.{here, is_that_task, source_state, task_of, task_state, with_source}}
use Rattle.osek_standard.specs.{Effects.{effect, effect_at, effect_by, given_back, returned_by, returned_to}, Well.{Well, InOwner, IsActive, IsProcessor}, Levels.{next_routine}}
use Rattle.osek_standard.specs.declared.block.Kind.TheVariants as kind
use Rattle.osek_standard.specs.declared.state.Source.TheVariants as source
use Rattle.osek_standard.specs.declared.state.Processor.TheVariants as processor
use Rattle.osek_standard.proofs.{EffectKeeps.{effect_keeps}, MoveKeeps.{here_own}}
use Rattle.generic_kernel.specs.Changes.{ChangesOnly, named_here}
use Rattle.generic_kernel.proofs.TaskLaws.{effect_changes_own}
use Rattle.image_run.specs.{declared.before.OldTask.{OldTask}, Befores.{before, old_task, put_back, source_by, with_old_source, with_old_task}}
use Rattle.image_run.proofs.{SiteEffects.{TaskRuns, routine_site, task_leaves}, SiteChanges.{rest, site_keeps_rest}, SiteLines.{site_lengthens}}

abbrev state_of : ModeNo → Processor → List TaskState → List ℕ → List AlarmState → List Source → List Bool → List TaskNo → State
state_of m p t c a s l n = record { mode = m; processor = p; tasks = t; counters = c; alarms = a; sources = s; latched = l; line = n }

same_state : (r s : State) → rest r ≡ rest s → r.processor ≡ s.processor → r.tasks ≡ s.tasks → r.sources ≡ s.sources → r.line ≡ s.line → r ≡ s
same_state r s e p t k n =
    ap (λ x. state_of x.0 r.processor r.tasks x.1.0 x.1.1.0 r.sources x.1.1.1 r.line) e
    ∙ ap (λ x. state_of s.mode x r.tasks s.counters s.alarms r.sources s.latched r.line) p
    ∙ ap (λ x. state_of s.mode s.processor x s.counters s.alarms r.sources s.latched r.line) t
    ∙ ap (λ x. state_of s.mode s.processor s.tasks s.counters s.alarms x s.latched r.line) k
    ∙ ap (λ x. state_of s.mode s.processor s.tasks s.counters s.alarms s.sources s.latched x) n

-- a state with a task's old state
old_task_length : (r : State) (o : Option OldTask) → length (with_old_task r o).tasks ≡ length r.tasks
old_task_length r None = refl
old_task_length r (Some x) = length-set r.tasks x.task.0 x.state

that_task : (t : TaskNo) (u : ℕ) → is_that_task (Some t) u ≡ true → u ≡ t.0
that_task t u e = grind (arith, nat_tests)

old_task_here : (r s : State) (o : Option TaskNo) (u : ℕ) → u < length r.tasks → is_that_task o u ≡ true → task_state (with_old_task r (old_task s o)) u ≡ task_state s u
old_task_here r s None u known e = absurd (cc)
old_task_here r s (Some t) u known e =
    let same : u ≡ t.0 = that_task t u e in
    subst (λ (v : ℕ). v < length r.tasks → task_state (with_old_task r (old_task s (Some t))) v ≡ task_state s v) (sym same)
    (λ h. get_or-set_same r.tasks t.0 (task_state s t.0) suspended h) known

old_task_elsewhere : (r s : State) (o : Option TaskNo) (u : ℕ) → is_that_task o u ≡ false → task_state (with_old_task r (old_task s o)) u ≡ task_state r u
old_task_elsewhere r s None u e = refl
old_task_elsewhere r s (Some t) u e = get_or-set_other r.tasks t.0 u (task_state s t.0) suspended (grind (arith, nat_tests))

tasks_back : (r s : State) (x y : Option TaskNo) → length r.tasks ≡ length s.tasks → ChangesOnly x y s r → (with_old_task (with_old_task r (old_task s x)) (old_task s y)).tasks ≡ s.tasks
tasks_back r s x y size same =
    let q = with_old_task r (old_task s x) in
    let p = with_old_task q (old_task s y) in
    let q_size : length q.tasks ≡ length r.tasks = old_task_length r (old_task s x) in
    let p_size : length p.tasks ≡ length q.tasks = old_task_length q (old_task s y) in
    ext_get_or suspended p.tasks s.tasks (p_size ∙ q_size ∙ size) (λ u known. elim (cases_Bool (is_that_task y u)) [
      | inl e ↦ old_task_here q s y u (omega (arith, known, p_size)) e
      | inr e ↦ (old_task_elsewhere q s y u e ∙ elim (cases_Bool (is_that_task x u)) [
        | inl f ↦ old_task_here r s x u (omega (arith, known, p_size, q_size)) f
        | inr f ↦ (old_task_elsewhere r s x u f ∙ same u f e)
      ])
    ])

old_task_rest : (r : State) (o : Option OldTask) → rest (with_old_task r o) ≡ rest r
old_task_rest r None = refl
old_task_rest r (Some x) = refl

old_task_sources : (r : State) (o : Option OldTask) → (with_old_task r o).sources ≡ r.sources
old_task_sources r None = refl
old_task_sources r (Some x) = refl

old_source_rest : (r : State) (p : Processor) (x : Source) → rest (with_old_source r p x) ≡ rest r
old_source_rest r processor.Halted x = refl
old_source_rest r processor.Idle x = refl
old_source_rest r (processor.Running t) x = refl
old_source_rest r (processor.Interrupted k over) x = refl

old_source_tasks : (r : State) (p : Processor) (x : Source) → (with_old_source r p x).tasks ≡ r.tasks
old_source_tasks r processor.Halted x = refl
old_source_tasks r processor.Idle x = refl
old_source_tasks r (processor.Running t) x = refl
old_source_tasks r (processor.Interrupted k over) x = refl

old_task_line : (r : State) (o : Option OldTask) → (with_old_task r o).line ≡ r.line
old_task_line r None = refl
old_task_line r (Some x) = refl

old_source_line : (r : State) (p : Processor) (x : Source) → (with_old_source r p x).line ≡ r.line
old_source_line r processor.Halted x = refl
old_source_line r processor.Idle x = refl
old_source_line r (processor.Running t) x = refl
old_source_line r (processor.Interrupted k over) x = refl

given_back_sources : (app : App) (s : State) (over : Option TaskNo) → (given_back app s over).state.sources ≡ s.sources
given_back_sources app s None = refl
given_back_sources app s (Some t) = refl

returned_to_sources : (app : App) (s : State) (over : Option TaskNo) (next : Option SourceNo) → (returned_to app s over next).state.sources ≡ s.sources
returned_to_sources app s over None = given_back_sources app s over
returned_to_sources app s over (Some k) = refl

-- what a source was, set over anything at its place
set_back : (xs : List Source) (k : ℕ) (x : Source) → slice_set (slice_set xs k x) k (slice_index_or xs k source.Out) ≡ xs
set_back xs k x = set-set xs k x (slice_index_or xs k source.Out) ∙ set-get_or xs k source.Out

module _ (app : App) (s : State) (w : Well app s) (choice : Bool) (site : is_site app (here s).block.0 ≡ true) where
  abbrev here_kind : Kind
  here_kind = (the_block app (here s).block.0).kind

  sources_back : (r : State) (p : Processor) → s.processor ≡ p → r.sources ≡ (effect_by app s choice p).state.sources → (with_old_source r p (source_by s p)).sources ≡ s.sources
  sources_back r processor.Halted is e = e
  sources_back r processor.Idle is e = e
  sources_back r (processor.Running t) is e = e ∙ task_leaves app s (subst TaskRuns (sym is) tt) choice (here s) (the_block app (here s).block.0) here_kind
  sources_back r (processor.Interrupted k over) is e =
      let h = subst (IsProcessor app s) is w.processor in
      let own = subst (λ (p : Processor). InOwner app p (here s).block.0) is (here_own app s w (subst IsActive (sym is) tt)) in
      let end : here_kind ≡ kind.IsrEnd = routine_site app k.0 (here s).block.0 h.known own site in
      let out : r.sources ≡ slice_set s.sources k.0 source.Out =
      e
      ∙ ap (λ (x : Kind). (effect_at app s choice (here s) (the_block app (here s).block.0) x).state.sources) end
      ∙ ap (λ (p : Processor). (returned_by app s p).state.sources) is
      ∙ (let q = with_source s k.0 source.Out in returned_to_sources app q over (next_routine app q)) in
      ap (λ (xs : List Source). slice_set xs k.0 (source_state s k.0)) out ∙ set_back s.sources k.0 source.Out

  effect_sources : (effect app s choice).state.sources ≡ (effect_by app s choice s.processor).state.sources
  unfolding effect
  effect_sources = refl

  pub undone : put_back (before app s) (effect app s choice).state ≡ s
  undone =
      let r = (effect app s choice).state in
      let x = old_task s (task_of s.processor) in
      let y = old_task s (named_here app s) in
      let q = with_old_task r x in
      let p = with_old_task q y in
      let size : length r.tasks ≡ length s.tasks = (effect_keeps app s w choice).tasks_len ∙ sym w.tasks_len in
      same_state (put_back (before app s) r) s
      (old_source_rest p s.processor (source_by s s.processor) ∙ old_task_rest q y ∙ old_task_rest r x ∙ site_keeps_rest app s choice site)
      refl
      (old_source_tasks p s.processor (source_by s s.processor) ∙ tasks_back r s (task_of s.processor) (named_here app s) size (effect_changes_own app s choice))
      (sources_back p s.processor refl (old_task_sources q y ∙ old_task_sources r x ∙ effect_sources))
      (ap (λ (l : List TaskNo). take (length s.line) l) (old_source_line p s.processor (source_by s s.processor) ∙ old_task_line q y ∙ old_task_line r x) ∙ site_lengthens app s choice site)
