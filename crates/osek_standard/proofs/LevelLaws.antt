-- The interrupt level is above the routine at the processor, and at task level it is the task's own.
use Rattle.std.proofs.{Common.{◌≡◌, ℕ, ◌<◌, ◌≤◌, false, List, [], ◌∷◌, length, refl, ap, ◌∙◌, inl, inr, arith}}
use Rattle.std.specs.{Prelude.{max}, List.{range_with_len}, declared.option.Option.{Option}}
use Rattle.osek_values.specs.declared.numbers.{TaskNo.{TaskNo}, SourceNo.{SourceNo}, ResNo.{ResNo}}
use Rattle.osek_standard.specs.declared.{app.App.{App}, state.{State.{State}, Source.{Source}}}
use Rattle.osek_standard.specs.{Apps.{source_priority}, States.{is_interrupted, source_state, task_of}}
use Rattle.osek_standard.specs.{Levels.{highest_level, interrupt_ceiling, level, own_level, routine_level, task_level}, Well.{Well, IsRoutine, IsRunningAt}}
use Rattle.osek_standard.specs.declared.state.Source.TheVariants as source
use Rattle.osek_standard.proofs.{Greatest.{greatest, greatest_from, greatest_of}, Members.{Among, among_range}, WellLaws.{out_at_task_level}}

module _ {X : Type 0} (f : X → ℕ) where
  pub greatest_is : (n : ℕ) (xs : List X) → ((x : X) → Among x xs → f x ≡ 0) → greatest f n xs ≡ n
  greatest_is n [] none = refl
  greatest_is n (x ∷ xs) none = greatest_is (max n (f x)) xs (λ y m. none y (inr m)) ∙ omega (arith, none x (inl refl))

module _ (app : App) where
  own_or_more : (n : ℕ) (held : List ResNo) → n ≤ highest_level app n held
  unfolding highest_level
  own_or_more n held = greatest_from (λ (r : ResNo). interrupt_ceiling app r.0) n held

  runs_at_own : (k : ℕ) (x : Source) → IsRunningAt app k x → source_priority app k < routine_level app k x
  runs_at_own k source.Out h = absurd h
  runs_at_own k (source.In x) h = omega (arith, own_or_more (own_level app k) x.held)

  module _ (s : State) (w : Well app s) where
    -- so no source of the running routine's priority begins, nor of a lower one
    pub level_above : (k : SourceNo) (over : Option TaskNo) → IsRoutine app s k over → source_priority app k.0 < level app s
    unfolding level
    level_above k over h =
        let there : k.0 < length s.sources = omega (arith, h.known, w.sources_len) in
        let least = greatest_of (λ (l : ℕ). routine_level app l (source_state s l)) (task_level app s (task_of s.processor)) (range_with_len 0 (length s.sources)) k.0 (among_range 0 (length s.sources) k.0 (omega arith) (omega (arith, there))) in
        omega (arith, least, runs_at_own k.0 (source_state s k.0) h.runs)

    pub level_of_task : is_interrupted s.processor ≡ false → level app s ≡ task_level app s (task_of s.processor)
    unfolding level
    level_of_task e =
        let out = out_at_task_level app s s.processor w.processor e in
        greatest_is (λ (k : ℕ). routine_level app k (source_state s k)) (task_level app s (task_of s.processor)) (range_with_len 0 (length s.sources)) (λ k _. ap (routine_level app k) (out k))
