-- What the scheduler decides with all values after an effect.
use Rattle.std.proofs.Common.{◌≡◌, ◌⊎◌, ℕ, ◌<◌, ◌≤◌, Bool, ◌&&◌, List, length, refl, sym, ap, ap₂, subst, ◌∙◌, inl, inr, arith, IsTrue, Some, None}
use Rattle.std.specs.{Prelude.{slice_index_or}, declared.option.Option.{Option}}
use Rattle.std.proofs.lemmas.Bool.{cases_eq, and_parts}
use Rattle.osek_values.specs.declared.numbers.TaskNo.{TaskNo}
use Rattle.osek_standard.specs.declared.app.App.{App}
use Rattle.abstract_state.specs.{declared.{value.PartValue.{PartValue}, table.ValueSet.{ValueSet}}, Concrete.{val_of}, Tables.{set_at, is_member}}
use Rattle.abstract_state.proofs.ComponentLaws.{task_counted}
use Rattle.flow_model.specs.declared.case.{Asked.{Asked}, Decision.{Decision}}
use Rattle.flow_model.specs.declared.case.Asked.TheVariants as asked
use Rattle.flow_model.specs.declared.case.Decision.TheVariants as decision
use Rattle.flow_model.specs.{Values.{is_live_value}, Effects.{AreIn}, Scheduling.{IsLiveTask, Decides, DecidesBy}, declared.case.Leaving.{Leaving}}
use Rattle.numbered_sets.specs.{declared.numbered_entry.NumberedEntry.{NumberedEntry}, Numbers.{Numbers}, NumberedEntries.{numbers_at, AreFilled, HasEmptySet}}
use Rattle.numbered_sets.specs.{Pools.{Values, values_at}, Views.{plain_entry, AreNumbersOf}}
use Rattle.flow_exits.specs.Outcomes.{IsVacant, idle_decision}
use Rattle.point_exits.specs.{declared.{task_levels.TaskLevels.{TaskLevels}, levels.Levels.{Levels}}, Levels.{AreTaskLevels, AreAllLevels, AreAllJudged, IsNarrowed}}
use Rattle.point_exits.proofs.LevelLaws.{narrowed_elsewhere, narrowed_known, narrowed_members, narrowed_beside, narrowed_size}
use Rattle.point_exits.specs.{declared.group.ExitGroup.{ExitGroup}, Deciding.{AddsFor, IsAny, IsIt, IsWinnerBelow, IsWhole, IsAlive, IsAsked, IsGroupFor}}
use Rattle.point_exits.proofs.{NumberLaws.{member_number, number_fills}, OwnLevels.{own_levels, all_judged}, AddingLaws.{nothing_more, then_more, of_part}}

-- ---- the values with which a task is Live

abbrev live_part : PartValue → Bool
live_part v = is_live_value (val_of v)

module _ (app : App) (pool : List Values) (after live : NumberedEntry) (t : ℕ) (known : t < length app.tasks) (h : IsNarrowed (λ v. is_live_value (val_of v)) pool t after live) where
  live_member : (v : PartValue) → IsTrue (is_member (set_at (plain_entry pool live) t) v) → IsTrue (is_member (set_at (plain_entry pool after) t) v) × IsTrue (live_part v)
  live_member v m = and_parts (is_member (set_at (plain_entry pool after) t) v) (live_part v) (sym (narrowed_members live_part pool t after live h v) ∙ m)

  pub within_live : (value : ℕ → PartValue) → AreIn app (plain_entry pool live) value → AreIn app (plain_entry pool after) value
  within_live value within k lt = elim (cases_eq k t) [
    | inl same ↦ subst (λ (i : ℕ). IsTrue (is_member (set_at (plain_entry pool after) i) (value i))) (sym same)
        (live_member (value t) (subst (λ (i : ℕ). IsTrue (is_member (set_at (plain_entry pool live) i) (value i))) same (within k lt))).0
    | inr differ ↦ ap (λ (s : ValueSet). is_member s (value k)) (sym (narrowed_beside live_part pool t after live h k differ)) ∙ within k lt
  ]

  pub in_live : (value : ℕ → PartValue) → AreIn app (plain_entry pool after) value → IsTrue (live_part (value t)) → AreIn app (plain_entry pool live) value
  in_live value within lives k lt = elim (cases_eq k t) [
    | inl same ↦ subst (λ (i : ℕ). IsTrue (is_member (set_at (plain_entry pool live) i) (value i))) (sym same)
        (narrowed_members live_part pool t after live h (value t) ∙ ap₂ (λ (a b : Bool). a && b) (within t (task_counted app t known)) lives)
    | inr differ ↦ ap (λ (s : ValueSet). is_member s (value k)) (narrowed_beside live_part pool t after live h k differ) ∙ within k lt
  ]

  pub all_alive : IsAlive app pool live t
  all_alive = record { known = known; live = λ value within. (live_member (value t) (within t (task_counted app t known))).1 }

  as_many_live : length live.sets ≡ length after.sets
  as_many_live = narrowed_size live_part pool t after live h

  pub whole_live : IsWhole app pool after → AreFilled live → IsWhole app pool live
  whole_live whole filled = record { size = omega (arith, whole.size, as_many_live); numbers = narrowed_known live_part pool t after live h whole.numbers; filled = filled }

  -- where a set is empty it is the task's, which is never Live
  never_live : AreFilled after → HasEmptySet live → (value : ℕ → PartValue) → AreIn app (plain_entry pool after) value → IsTrue (live_part (value t)) → ⊥
  never_live filled empty value within lives = elim (cases_eq empty.component t) [
    | inl same ↦
        (let x = member_number pool live t (value t) (in_live value within lives t (task_counted app t known)) in
        let some = number_fills (numbers_at live t) x.number x.has_it in
        let none : (numbers_at live t).bits ≡ 0 = subst (λ (i : ℕ). (numbers_at live i).bits ≡ 0) same empty.none in
        absurd (omega (arith, some, none)))
    | inr differ ↦
        (let some = filled.each empty.component (let there = empty.known in omega (arith, there, as_many_live)) in
        let bits : (numbers_at live empty.component).bits ≡ (numbers_at after empty.component).bits = ap (λ (x : Numbers). x.bits) (narrowed_elsewhere live_part pool t after live h empty.component differ) in
        let none = empty.none in
        absurd (omega (arith, some, none, bits)))
  ]

-- what the levels leave
pub narrowed_live : (app : App) (pool : List Values) (levels : Levels) (t : ℕ) (known : t < length app.tasks) (all : AreAllLevels app pool levels) (own : TaskLevels) → ((none : TaskLevels) → slice_index_or levels.tasks t none ≡ own)
    → (after live : NumberedEntry) → AreNumbersOf pool after
    → ((b : App) (values : List Values) → AreTaskLevels b t (values_at values t) own → AreAllJudged own (numbers_at after t) → IsNarrowed (λ v. is_live_value (val_of v)) values t after live)
    → IsNarrowed (λ v. is_live_value (val_of v)) pool t after live
narrowed_live app pool levels t known all own is after live numbers narrows = narrows app pool (own_levels app pool levels t known all own is) (all_judged app pool levels t known all own is after numbers)

-- ---- the cases of a decision

-- the running task is Live
runs : (app : App) (value : ℕ → PartValue) (last : Option TaskNo) (t : TaskNo) (d : Decision) → DecidesBy app value last (asked.Maybe t) d → IsLiveTask app value t.0
runs app value last t decision.Keep h = h.running
runs app value last t (decision.To None) h = absurd h
runs app value last t (decision.To (Some w)) h = h.running

running_cases : (app : App) (value : ℕ → PartValue) (last : Option TaskNo) (t : TaskNo) (d : Decision) → DecidesBy app value last (asked.Maybe t) d →
    IsIt decision.Keep value d ⊎ IsWinnerBelow (length app.tasks) value d
running_cases app value last t decision.Keep h = inl refl
running_cases app value last t (decision.To None) h = absurd h
running_cases app value last t (decision.To (Some w)) h = inr (record { task = w; known = h.best.is.known; decision = refl })

vacant_cases : (app : App) (value : ℕ → PartValue) (last : Option TaskNo) (a : Asked) (d : Decision) → IsVacant a → DecidesBy app value last a d →
    IsIt (idle_decision a) value d ⊎ IsWinnerBelow (length app.tasks) value d
vacant_cases app value last asked.No d vacant h = absurd vacant
vacant_cases app value last (asked.Maybe t) d vacant h = absurd vacant
vacant_cases app value last asked.Left decision.Keep vacant h = absurd h
vacant_cases app value last asked.Left (decision.To None) vacant h = inl refl
vacant_cases app value last asked.Left (decision.To (Some w)) vacant h = inr (record { task = w; known = h.is.known; decision = refl })
vacant_cases app value last asked.Free decision.Keep vacant h = inl refl
vacant_cases app value last asked.Free (decision.To None) vacant h = absurd h
vacant_cases app value last asked.Free (decision.To (Some w)) vacant h = inr (record { task = w; known = h.is.known; decision = refl })

pub vacant_by : (a : Asked) → (a ≡ asked.Left) ⊎ (a ≡ asked.Free) → IsVacant a
vacant_by a (inl e) = subst IsVacant (sym e) tt
vacant_by a (inr e) = subst IsVacant (sym e) tt

pub asked_vacant : (app : App) (pool : List Values) (entry : NumberedEntry) (a : Asked) → IsVacant a → IsAsked app pool entry a
asked_vacant app pool entry asked.No vacant = absurd vacant
asked_vacant app pool entry (asked.Maybe t) vacant = absurd vacant
asked_vacant app pool entry asked.Left vacant = tt
asked_vacant app pool entry asked.Free vacant = tt

-- ---- all values after the effect

module _ (app : App) (pool : List Values) (leaving : Leaving) (after : NumberedEntry) where
  -- nothing is asked
  pub unasked_group : leaving.asked ≡ asked.No → IsGroupFor app pool leaving after IsAny decision.Keep after
  unasked_group same = record {
    within = λ value h. h;
    each = λ value h. subst (λ (a : Asked). DecidesBy app value leaving.last a decision.Keep) (sym same) tt;
    whole = λ value d h decides p. (keeps value d (subst (λ (a : Asked). DecidesBy app value leaving.last a d) same decides), h);
  }
    where
      keeps : (value : ℕ → PartValue) (d : Decision) → DecidesBy app value leaving.last asked.No d → d ≡ decision.Keep
      keeps value decision.Keep h = refl
      keeps value (decision.To x) h = absurd h

  module _ (t : TaskNo) (running : leaving.asked ≡ asked.Maybe t) where
    runs_so : (value : ℕ → PartValue) (d : Decision) → Decides app value leaving d → DecidesBy app value leaving.last (asked.Maybe t) d
    runs_so value d = subst (λ (a : Asked). DecidesBy app value leaving.last a d) running

    pub running_adds : (a b c : List ExitGroup) → AddsFor app pool leaving after (IsIt decision.Keep) a b → AddsFor app pool leaving after (IsWinnerBelow (length app.tasks)) b c → AddsFor app pool leaving after IsAny a c
    running_adds = then_more app pool leaving after (IsIt decision.Keep) (IsWinnerBelow (length app.tasks)) IsAny
        (λ value d within decides p. running_cases app value leaving.last t d (runs_so value d decides))

    pub unknown_task : length app.tasks ≤ t.0 → (gs : List ExitGroup) → AddsFor app pool leaving after IsAny gs gs
    unknown_task past gs = nothing_more app pool leaving after IsAny gs (λ value d h decides p.
        (let lt = (runs app value leaving.last t d (runs_so value d decides)).known in omega (arith, lt, past)))

    module _ (live : NumberedEntry) (known : t.0 < length app.tasks) (h : IsNarrowed (λ v. is_live_value (val_of v)) pool t.0 after live) where
      pub never_runs : AreFilled after → HasEmptySet live → (gs : List ExitGroup) → AddsFor app pool leaving after IsAny gs gs
      never_runs filled empty gs = nothing_more app pool leaving after IsAny gs (λ value d within decides p.
          never_live app pool after live t.0 known h filled empty value within (runs app value leaving.last t d (runs_so value d decides)).live)

      pub live_adds : (a b : List ExitGroup) → AddsFor app pool leaving live IsAny a b → AddsFor app pool leaving after IsAny a b
      live_adds = of_part app pool leaving after live IsAny IsAny (within_live app pool after live t.0 known h)
          (λ value d within decides p. (in_live app pool after live t.0 known h value within (runs app value leaving.last t d (runs_so value d decides)).live, tt))

  pub vacant_adds : IsVacant leaving.asked → (a b c : List ExitGroup) → AddsFor app pool leaving after (IsIt (idle_decision leaving.asked)) a b → AddsFor app pool leaving after (IsWinnerBelow (length app.tasks)) b c → AddsFor app pool leaving after IsAny a c
  vacant_adds vacant = then_more app pool leaving after (IsIt (idle_decision leaving.asked)) (IsWinnerBelow (length app.tasks)) IsAny
      (λ value d within decides p. vacant_cases app value leaving.last leaving.asked d vacant decides)
