-- The state of each task and each source after that of one was set.
use Rattle.std.proofs.Common.{◌≡◌, ℕ, ◌≤◌, List, length, map, sym, subst, inl, inr, get_or-set_same, get_or-set_other}
use Rattle.std.proofs.{lemmas.{Bool.{cases_eq, cases_lt}, List.{get_or-map, get_or_past, set_past}}, Math.ListN.{length-map}}
use Rattle.osek_standard.specs.declared.{state.{State.{State}, Source.{Source}}, task_state.TaskState.{TaskState}}
use Rattle.osek_standard.specs.{TaskStates.{suspended}, States.{all_out, source_state, task_state, with_source, with_task}}
use Rattle.osek_standard.specs.declared.state.Source.TheVariants as source

-- what holds of the state that is set, and of each task as it was, holds of each task after
pub put_task : (s : State) (t : ℕ) (x : TaskState) (R : ℕ → TaskState → Type 0) → R t x → ((u : ℕ) → R u (task_state s u)) → (u : ℕ) → R u (task_state (with_task s t x) u)
put_task s t x R here others u = elim (cases_lt t (length s.tasks)) [
  | inl known ↦ elim (cases_eq u t) [
    | inl same ↦ subst (λ (v : ℕ). R v (task_state (with_task s t x) v)) (sym same) (subst (R t) (sym (get_or-set_same s.tasks t x suspended known)) here)
    | inr other ↦ subst (R u) (sym (get_or-set_other s.tasks t u x suspended other)) (others u)
  ]
  | inr past ↦ subst (λ (tasks : List TaskState). R u (task_state (record s { tasks = tasks }) u)) (sym (set_past s.tasks t x past)) (others u)
]

pub put_source : (s : State) (k : ℕ) (x : Source) (R : ℕ → Source → Type 0) → R k x → ((l : ℕ) → R l (source_state s l)) → (l : ℕ) → R l (source_state (with_source s k x) l)
put_source s k x R here others l = elim (cases_lt k (length s.sources)) [
  | inl known ↦ elim (cases_eq l k) [
    | inl same ↦ subst (λ (v : ℕ). R v (source_state (with_source s k x) v)) (sym same) (subst (R k) (sym (get_or-set_same s.sources k x source.Out known)) here)
    | inr other ↦ subst (R l) (sym (get_or-set_other s.sources k l x source.Out other)) (others l)
  ]
  | inr past ↦ subst (λ (sources : List Source). R l (source_state (record s { sources = sources }) l)) (sym (set_past s.sources k x past)) (others l)
]

pub put_out : (s : State) (k : ℕ) → source_state (with_source s k source.Out) k ≡ source.Out
put_out s k = elim (cases_lt k (length s.sources)) [
  | inl known ↦ get_or-set_same s.sources k source.Out source.Out known
  | inr past ↦ subst (λ (sources : List Source). source_state (record s { sources = sources }) k ≡ source.Out) (sym (set_past s.sources k source.Out past)) (get_or_past s.sources k source.Out past)
]

-- where all routines are put out, each is
pub each_is_out : (s : State) (k : ℕ) → source_state (all_out s) k ≡ source.Out
each_is_out s k = elim (cases_lt k (length s.sources)) [
  | inl h ↦ get_or-map (λ _. source.Out) s.sources k source.Out source.Out h
  | inr h ↦ get_or_past (map (λ _. source.Out) s.sources) k source.Out (subst (λ (n : ℕ). n ≤ k) (sym (length-map s.sources (λ _. source.Out))) h)
]
