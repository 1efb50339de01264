-- What an outcome changes of a component is the flag of who gets the processor or keeps it.
use Rattle.std.proofs.Common.{◌≡◌, ◌==◌, ℕ, Bool, true, false, length, refl, sym, ap, subst, ◌∙◌, inl, inr, arith, Some, None, get_or-set_same, get_or-set_other}
use Rattle.std.proofs.{lemmas.{Bool.{cases_eq, cases_lt, eq-eqb, eqb-true, ne_eqb}, List.{get_or_past}}, Math.ListN.{length-set}}
use Rattle.std.specs.{Prelude.{is_some}, declared.option.Option.{Option}}
use Rattle.osek_values.specs.{Bits.{has_bit}, declared.{numbers.{TaskNo.{TaskNo}, BlockNo.{BlockNo}}}}
use Rattle.osek_standard.specs.declared.{app.App.{App}, task_state.{TaskState.{TaskState}, Activity.{Activity}}, state.{State.{State}, Processor.{Processor}}}
use Rattle.osek_standard.specs.declared.task_state.Activity.TheVariants as activity
use Rattle.osek_standard.specs.declared.state.Processor.TheVariants as processor
use Rattle.osek_standard.specs.{TaskStates.{suspended}, States.{task_of, task_state, place_in, place_by}, Line.{first_in_line, out_of_line}, Internal.{inside_as, internal_of, kept_by, put_inside, with_inside}}
use Rattle.osek_standard.specs.{Dispatch.{Outcome, Keep, To, settled}, Points.{point_at, point_of}}
use Rattle.abstract_state.specs.declared.value.{Val.{Val, TheVariants.{Suspended, Live, Waiting}}, Component.{Component}, PartValue.TheVariants.{OfTask, OfEvent}}
use Rattle.abstract_state.specs.declared.value.Component.TheVariants as component
use Rattle.abstract_state.specs.{Components.{part_of, value_in}, Settling.{inside_val, inside_val_if, running_task, runner_after, settled_val, settled_part_of}}
use Rattle.abstract_state.proofs.AlikeLaws.{inside_in}

-- the line is no task's
queued_task : (s : State) (c o : Option TaskNo) (u : ℕ) → task_state (out_of_line (first_in_line s c) o) u ≡ task_state s u
queued_task s None None u = refl
queued_task s None (Some t) u = refl
queued_task s (Some v) None u = refl
queued_task s (Some v) (Some t) u = refl

-- what doesn't look at the flag of a task is the same of each
module _ {X : Type 0} (f : TaskState → X) (same : (b : Bool) (x : TaskState) → f (record x { activity = inside_as b x.activity }) ≡ f x) where
  inside_task : (s : State) (t : ℕ) (b : Bool) (u : ℕ) → f (task_state (with_inside s t b) u) ≡ f (task_state s u)
  inside_task s t b u =
      let x : TaskState = record (task_state s t) { activity = inside_as b (task_state s t).activity } in
      elim (cases_eq u t) [
        | inl e ↦ elim (cases_lt t (length s.tasks)) [
          | inl lt ↦ (ap (λ (k : ℕ). f (task_state (with_inside s t b) k)) e ∙ ap f (get_or-set_same s.tasks t x suspended lt) ∙ same b (task_state s t) ∙ ap (λ (k : ℕ). f (task_state s k)) (sym e))
          | inr past ↦
              (let long = length-set s.tasks t x in
              ap f (get_or_past (with_inside s t b).tasks u suspended (omega (arith, past, long, e))) ∙ ap f (sym (get_or_past s.tasks u suspended (omega (arith, past, e)))))
        ]
        | inr other ↦ ap f (get_or-set_other s.tasks t u x suspended other)
      ]

  put_task : (app : App) (s : State) (o : Option TaskNo) (u : ℕ) → f (task_state (put_inside app s o) u) ≡ f (task_state s u)
  put_task app s None u = refl
  put_task app s (Some t) u = inside_task s t.0 (is_some (internal_of app t.0)) u

  kept_task : (app : App) (s : State) (p : Processor) (u : ℕ) → f (task_state (kept_by app s p) u) ≡ f (task_state s u)
  kept_task app s processor.Halted u = refl
  kept_task app s processor.Idle u = refl
  kept_task app s (processor.Running t) u = put_task app s (Some t) u
  kept_task app s (processor.Interrupted k over) u = refl

  pub settled_task : (app : App) (s : State) (o : Outcome) (u : ℕ) → f (task_state (settled app s o) u) ≡ f (task_state s u)
  settled_task app s Keep u = kept_task app s s.processor u
  settled_task app s (To o) u = put_task app (out_of_line (first_in_line s (task_of s.processor)) o) o u ∙ ap f (queued_task s (task_of s.processor) o u)

block_inside : (b : Bool) (a : Activity) → (place_in (inside_as b a)).block ≡ (place_in a).block
block_inside b activity.Suspended = refl
block_inside b (activity.Live x) = refl
block_inside b (activity.Waiting c) = refl

-- alarms and sources stay too
abbrev HasSameRest : State → State → Type 0
HasSameRest s u = (s.alarms ≡ u.alarms) × (s.sources ≡ u.sources)

same_rest : (app : App) (s : State) (o : Outcome) → HasSameRest (settled app s o) s
same_rest app s Keep = kept_rest s.processor
  where
    kept_rest : (p : Processor) → HasSameRest (kept_by app s p) s
    kept_rest processor.Halted = (refl, refl)
    kept_rest processor.Idle = (refl, refl)
    kept_rest (processor.Running t) = (refl, refl)
    kept_rest (processor.Interrupted k over) = (refl, refl)
same_rest app s (To o) = queued_rest (task_of s.processor) o
  where
    queued_rest : (c o : Option TaskNo) → HasSameRest (put_inside app (out_of_line (first_in_line s c) o) o) s
    queued_rest None None = (refl, refl)
    queued_rest None (Some t) = (refl, refl)
    queued_rest (Some v) None = (refl, refl)
    queued_rest (Some v) (Some t) = (refl, refl)

value_inside : (b : Bool) (a : Activity) → value_in (inside_as b a) ≡ inside_val b (value_in a)
value_inside b activity.Suspended = refl
value_inside b (activity.Live x) = refl
value_inside b (activity.Waiting c) = refl

-- the flag of a task is that of its value, and nothing else of any value changes
flag_value : (s : State) (t : ℕ) (b : Bool) (u : ℕ) → value_in (task_state (with_inside s t b) u).activity ≡ inside_val_if (t == u) b (value_in (task_state s u).activity)
flag_value s t b u =
    let x : TaskState = record (task_state s t) { activity = inside_as b (task_state s t).activity } in
    elim (cases_eq u t) [
      | inl e ↦ subst (λ (v : ℕ). value_in (task_state (with_inside s t b) v).activity ≡ inside_val_if (t == v) b (value_in (task_state s v).activity)) (sym e)
          (elim (cases_lt t (length s.tasks)) [
            | inl lt ↦ (ap (λ (y : TaskState). value_in y.activity) (get_or-set_same s.tasks t x suspended lt) ∙ value_inside b (task_state s t).activity
                ∙ ap (λ (same : Bool). inside_val_if same b (value_in (task_state s t).activity)) (sym (eq-eqb t t refl)))
            | inr past ↦
                (let long = length-set s.tasks t x in
                let none : task_state s t ≡ suspended = get_or_past s.tasks t suspended past in
                ap (λ (y : TaskState). value_in y.activity) (get_or_past (with_inside s t b).tasks t suspended (omega (arith, past, long)))
                ∙ ap (λ (same : Bool). inside_val_if same b Suspended) (sym (eq-eqb t t refl))
                ∙ ap (λ (y : TaskState). inside_val_if (t == t) b (value_in y.activity)) (sym none))
          ])
      | inr other ↦ (ap (λ (y : TaskState). value_in y.activity) (get_or-set_other s.tasks t u x suspended other)
          ∙ ap (λ (same : Bool). inside_val_if same b (value_in (task_state s u).activity)) (sym (ne_eqb t u (λ e. other (sym e)))))
    ]

put_value : (app : App) (s : State) (o : Option TaskNo) (u : ℕ) → value_in (task_state (put_inside app s o) u).activity ≡ settled_val app o u (value_in (task_state s u).activity)
put_value app s None u = refl
put_value app s (Some t) u = flag_value s t.0 (is_some (internal_of app t.0)) u ∙ flagged_same (t.0 == u) (eqb-true t.0 u)
  where
    flagged_same : (same : Bool) → (same ≡ true → t.0 ≡ u)
        → inside_val_if same (is_some (internal_of app t.0)) (value_in (task_state s u).activity) ≡ inside_val_if same (is_some (internal_of app u)) (value_in (task_state s u).activity)
    flagged_same true h = ap (λ (v : ℕ). inside_val (is_some (internal_of app v)) (value_in (task_state s u).activity)) (h refl)
    flagged_same false h = refl

kept_value : (app : App) (s : State) (p : Processor) (u : ℕ) → value_in (task_state (kept_by app s p) u).activity ≡ settled_val app (running_task p) u (value_in (task_state s u).activity)
kept_value app s processor.Halted u = refl
kept_value app s processor.Idle u = refl
kept_value app s (processor.Running t) u = put_value app s (Some t) u
kept_value app s (processor.Interrupted k over) u = refl

settled_value : (app : App) (s : State) (o : Outcome) (u : ℕ) → value_in (task_state (settled app s o) u).activity ≡ settled_val app (runner_after s o) u (value_in (task_state s u).activity)
settled_value app s Keep u = kept_value app s s.processor u
settled_value app s (To o) u =
    put_value app (out_of_line (first_in_line s (task_of s.processor)) o) o u
    ∙ ap (λ (x : TaskState). settled_val app o u (value_in x.activity)) (queued_task s (task_of s.processor) o u)

-- an outcome changes the flag of who has the processor after it alone
pub settled_part : (app : App) (s : State) (o : Outcome) (k : Component) → part_of (settled app s o) k ≡ settled_part_of app s o k
settled_part app s o (component.Task t) = ap OfTask (settled_value app s o t.0)
settled_part app s o (component.Event t j) = settled_task (λ x. OfEvent (has_bit x.events.0 j.0)) (λ b x. refl) app s o t.0
settled_part app s o (component.Alarm a) = ap (λ alarms. part_of (record s { alarms = alarms }) (component.Alarm a)) (same_rest app s o).0
settled_part app s o (component.Source k) = ap (λ sources. part_of (record s { sources = sources }) (component.Source k)) (same_rest app s o).1

-- where a flag is as it has to be, nothing changes
flag_stays : (b : Bool) (v : Val) → inside_in v ≡ b → inside_val b v ≡ v
flag_stays b Suspended e = refl
flag_stays b (Live x) e = ap (λ (f : Bool). Live (record x { inside = f })) (sym e)
flag_stays b (Waiting c) e = refl

pub flag_same : (here b : Bool) (v : Val) → (here ≡ true → inside_in v ≡ b) → inside_val_if here b v ≡ v
flag_same true b v h = flag_stays b v (h refl)
flag_same false b v h = refl

-- an outcome changes no task's block
pub settled_block : (app : App) (s : State) (o : Outcome) (t : ℕ) → (place_in (task_state (settled app s o) t).activity).block ≡ (place_in (task_state s t).activity).block
settled_block app s o t = settled_task (λ x. (place_in x.activity).block) (λ b x. block_inside b x.activity) app s o t

inside_at : (s : State) (t : ℕ) (b : Bool) (p : Processor) → point_at (place_by (with_inside s t b) p).block p ≡ point_at (place_by s p).block p
inside_at s t b processor.Halted = refl
inside_at s t b processor.Idle = refl
inside_at s t b (processor.Running u) = ap (λ (n : BlockNo). point_at n (processor.Running u)) (inside_task (λ x. (place_in x.activity).block) (λ c x. block_inside c x.activity) s t b u.0)
inside_at s t b (processor.Interrupted k over) = refl

pub inside_point : (s : State) (t : ℕ) (b : Bool) → point_of (with_inside s t b) ≡ point_of s
inside_point s t b = inside_at s t b s.processor

kept_at : (app : App) (s : State) (p : Processor) → s.processor ≡ p → point_of (kept_by app s p) ≡ point_of s
kept_at app s processor.Halted e = refl
kept_at app s processor.Idle e = refl
kept_at app s (processor.Running t) e =
    let after : point_of (kept_by app s (processor.Running t)) ≡ point_at (place_by (kept_by app s (processor.Running t)) (processor.Running t)).block (processor.Running t)
    = ap (λ (p : Processor). point_at (place_by (kept_by app s (processor.Running t)) p).block p) e in
    after
    ∙ ap (λ (b : BlockNo). point_at b (processor.Running t)) (kept_task (λ x. (place_in x.activity).block) (λ b x. block_inside b x.activity) app s (processor.Running t) t.0)
    ∙ ap (λ (p : Processor). point_at (place_by s p).block p) (sym e)
kept_at app s (processor.Interrupted k over) e = refl

-- who keeps the processor stands where it stood
pub kept_point : (app : App) (s : State) → point_of (settled app s Keep) ≡ point_of s
kept_point app s = kept_at app s s.processor refl
