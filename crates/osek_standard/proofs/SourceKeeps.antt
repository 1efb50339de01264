-- Another state of a source keeps a state well-formed.
use Rattle.std.proofs.Common.{◌≡◌, ◌≢◌, ℕ, ◌<◌, true, length, refl, sym, ◌∙◌, subst, inl, inr, arith, get_or-set_same, get_or-set_other, false, ap}
use Rattle.std.proofs.{lemmas.Bool.{cases_eq, false≢true}, Math.ListN.{length-set}}
use Rattle.std.specs.declared.option.Option.{Option}
use Rattle.osek_values.specs.declared.numbers.TaskNo.{TaskNo}
use Rattle.osek_standard.specs.{declared.{app.App.{App}, state.{State.{State}, Source.{Source}, Processor.{Processor}}}, Apps.{source_count}}
use Rattle.osek_standard.specs.{States.{task_state, source_state, with_source, with_processor, here, is_in, task_of}, Well.{Well, AreOut, IsProcessor, IsRunningAt, IsSourceState}}
use Rattle.osek_standard.specs.Line.{places_due}
use Rattle.osek_standard.specs.declared.state.Source.TheVariants as source
use Rattle.osek_standard.specs.declared.state.Processor.TheVariants as processor
use Rattle.osek_standard.proofs.Keeps.{processor_keeps}

-- each source that is in stands at a place of its routine
pub sources_right : (app : App) (s : State) → Well app s → (k : ℕ) → IsSourceState app k (source_state s k)
sources_right app s w = right s.processor w.processor where
  right : (p : Processor) → IsProcessor app s p → (k : ℕ) → IsSourceState app k (source_state s k)
  right processor.Halted h k = subst (IsSourceState app k) (sym (h k)) tt
  right processor.Idle h k = subst (IsSourceState app k) (sym (h k)) tt
  right (processor.Running t) h k = subst (IsSourceState app k) (sym (h.out k)) tt
  right (processor.Interrupted l over) h k = h.others k

module _ (app : App) (s : State) where
  -- a state with another state of a source, and the processor that fits it, over the same task
  pub with_source_keeps : (k : ℕ) (x : Source) (p : Processor) → Well app s → IsProcessor app (with_source s k x) p → task_of p ≡ task_of s.processor
      → Well app (with_processor (with_source s k x) p)
  with_source_keeps k x p w has same = record {
    mode = w.mode;
    tasks_len = w.tasks_len;
    counters_len = w.counters_len;
    alarms_len = w.alarms_len;
    sources_len = length-set s.sources k x ∙ w.sources_len;
    latched_len = w.latched_len;
    tasks = w.tasks;
    counters = w.counters;
    alarms = w.alarms;
    processor = processor_keeps app (with_source s k x) (with_processor (with_source s k x) p) (λ u h. h) (λ l. refl) p has;
    line = λ t. w.line t ∙ ap (λ (o : Option TaskNo). places_due o t (task_state s t).activity) (sym same);
  }

  -- a right state of a source leaves all sources right
  pub sources_after : (k : ℕ) (x : Source) → Well app s → k < source_count app → IsSourceState app k x → (l : ℕ) → IsSourceState app l (source_state (with_source s k x) l)
  sources_after k x w known right l = elim (cases_eq l k) [
    | inl same ↦ (let here : k < length s.sources = omega (arith, w.sources_len, known) in
        subst (λ (m : ℕ). IsSourceState app m (source_state (with_source s k x) m)) (sym same) (subst (IsSourceState app k) (sym (get_or-set_same s.sources k x source.Out here)) right))
    | inr other ↦ subst (IsSourceState app l) (sym (get_or-set_other s.sources k l x source.Out other)) (sources_right app s w l)
  ]

-- a routine that runs is right
pub running_is_right : (app : App) (k : ℕ) (x : Source) → IsRunningAt app k x → IsSourceState app k x
running_is_right app k source.Out h = tt
running_is_right app k (source.In x) h = h

-- a routine that began is in
pub runs_began : (app : App) (k : ℕ) (x : Source) → IsRunningAt app k x → is_in x ≡ true
runs_began app k source.Out h = absurd h
runs_began app k (source.In x) h = refl

pub began_runs : (app : App) (k : ℕ) (x : Source) → is_in x ≡ true → IsSourceState app k x → IsRunningAt app k x
began_runs app k source.Out e h = absurd (cc)
began_runs app k (source.In x) e h = h

-- another state of a source that is in
module _ (app : App) (s : State) (k : ℕ) (x : Source) (w : Well app s) (known : k < source_count app) (began : is_in (source_state s k) ≡ true) (still : is_in x ≡ true) (right : IsSourceState app k x) where
  still_in : (l : ℕ) → is_in (source_state s l) ≡ true → is_in (source_state (with_source s k x) l) ≡ true
  still_in l h = elim (cases_eq l k) [
    | inl same ↦ (let here : k < length s.sources = omega (arith, w.sources_len, known) in
        subst (λ (m : ℕ). is_in (source_state (with_source s k x) m) ≡ true) (sym same) (ap is_in (get_or-set_same s.sources k x source.Out here) ∙ still))
    | inr other ↦ ap is_in (get_or-set_other s.sources k l x source.Out other) ∙ h
  ]

  not_out : AreOut app s → ⊥
  not_out out = false≢true (sym (ap is_in (out k)) ∙ began)

  fits : (p : Processor) → IsProcessor app s p → IsProcessor app (with_source s k x) p
  fits processor.Halted h = absurd (not_out h)
  fits processor.Idle h = absurd (not_out h)
  fits (processor.Running t) h = absurd (not_out h.out)
  fits (processor.Interrupted j over) h = let others = sources_after app s k x w known right in record {
    known = h.known;
    runs = began_runs app j.0 (source_state (with_source s k x) j.0) (still_in j.0 (runs_began app j.0 (source_state s j.0) h.runs)) (others j.0);
    others = others;
    over = h.over;
  }

  pub in_source_keeps : Well app (with_source s k x)
  in_source_keeps = with_source_keeps app s k x s.processor w (fits s.processor w.processor) refl
