-- The levels of one task, all of whose values were judged.
use Rattle.std.proofs.Common.{◌≡◌, ℕ, ◌+◌, ◌<◌, List, [], ◌∷◌, ◌++◌, length, get_or, sym, ap, subst, ◌∙◌, inl, inr, arith}
use Rattle.std.specs.Prelude.{slice_index_or, Contains}
use Rattle.std.proofs.{Math.Seq.{get_or-append_seam}, lemmas.{Bool.{cases_lt}, List.{length-append, get_or_append_left}}}
use Rattle.osek_standard.specs.declared.app.App.{App}
use Rattle.numbered_sets.specs.{declared.numbered_entry.NumberedEntry.{NumberedEntry}, NumberedEntries.{numbers_at}, Pools.{Values, values_at}, Views.{AreNumbersOf}}
use Rattle.point_exits.specs.declared.{task_levels.{TaskLevels.{TaskLevels}, Level.{Level}}, levels.Levels.{Levels}}
use Rattle.point_exits.specs.{Levels.{AreTaskLevels, AreAllLevels, AreAllJudged, IsLeastLimit}, Narrowing.{AreNeeds}, Deciding.{IsLevelOf}}

module _ (app : App) (pool : List Values) (levels : Levels) (t : ℕ) (known : t < length app.tasks) (all : AreAllLevels app pool levels) where
  pub own_known : t < length levels.tasks
  own_known = (let size = all.are.size in omega (arith, known, size))

  module _ (own : TaskLevels) (is : (none : TaskLevels) → slice_index_or levels.tasks t none ≡ own) where
    pub own_levels : AreTaskLevels app t (values_at pool t) own
    own_levels = subst (AreTaskLevels app t (values_at pool t)) (is own) (all.are.each t own known)

    pub own_judged : own.judged ≡ length (values_at pool t)
    own_judged = ap (λ (x : TaskLevels). x.judged) (sym (is own)) ∙ all.all t own known

    pub all_judged : (entry : NumberedEntry) → AreNumbersOf pool entry → AreAllJudged own (numbers_at entry t)
    all_judged entry numbers n has = (let lt = numbers.known t n has in omega (arith, lt, own_judged))

    pub level_of_own : (level : Level) → Contains own.levels level → IsLevelOf levels t level
    level_of_own level listed none = ∣ subst (λ (x : TaskLevels). Contains x.levels level) (sym (is none)) listed ∣₁

-- ---- what the tasks need, one after another

module _ (app : App) (pool : List Values) (entry : NumberedEntry) where
  pub one_need_more : (n : ℕ) (needs more : List ℕ) (x : ℕ) → more ≡ needs ++ x ∷ [] → IsLeastLimit app n (values_at pool n) (numbers_at entry n) x → AreNeeds app pool entry n needs → AreNeeds app pool entry (n + 1) more
  one_need_more n needs more x pushed least h = subst (AreNeeds app pool entry (n + 1)) (sym pushed) (record {
    size = (let size = h.size in omega (arith, length-append needs (x ∷ []), size));
    each = λ u lt. elim (cases_lt u n) [
      | inl below ↦
          (let same : get_or (needs ++ x ∷ []) u 0 ≡ get_or needs u 0 = get_or_append_left needs (x ∷ []) 0 u (let size = h.size in omega (arith, below, size)) in
          subst (IsLeastLimit app u (values_at pool u) (numbers_at entry u)) (sym same) (h.each u below))
      | inr above ↦
          (let at : u ≡ n = omega (arith, lt, above) in
          let last : get_or (needs ++ x ∷ []) n 0 ≡ x = ap (λ (k : ℕ). get_or (needs ++ x ∷ []) k 0) (sym h.size) ∙ get_or-append_seam needs x [] 0 in
          subst (λ (k : ℕ). IsLeastLimit app k (values_at pool k) (numbers_at entry k) (get_or (needs ++ x ∷ []) k 0)) (sym at)
          (subst (IsLeastLimit app n (values_at pool n) (numbers_at entry n)) (sym last) least))
    ];
  })

-- a level in a loop over them is one of them
pub level_listed : (own : TaskLevels) (items : List Level) (i : ℕ) (level : Level) → items ≡ own.levels → i < length items → level ≡ get_or items i level → Contains own.levels level
level_listed own items i level same lt is = subst (λ (xs : List Level). Contains xs level) same (i, lt, sym is)
