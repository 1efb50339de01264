-- The conditions of an arrival: the values of a state pass them exactly where its level is no higher than the source's priority.
use Rattle.std.proofs.Common.{◌≡◌, ℕ, ◌<◌, ◌≤◌, Bool, true, false, not, ◌||◌, nat_le, List, [], ◌∷◌, ◌++◌, length, refl, sym, ap, subst, ◌∙◌, inl, inr, arith, Some, None}
use Rattle.std.specs.{Prelude.{◌==◌, if◌then◌else◌, is_some}, List.{list_any, range_with_len}, declared.option.Option.{Option}}
use Rattle.std.proofs.lemmas.Bool.{eq-eqb, eqb-true, Decides.{nat_tests}}
use Rattle.osek_values.specs.{Bits.{has_bit}, declared.{mask.Mask.{Mask}, numbers.{SourceNo.{SourceNo}, TaskNo.{TaskNo}, ResNo.{ResNo}}}}
use Rattle.osek_standard.specs.declared.{app.App.{App}, state.{State.{State}, Source.{Source}, Processor.{Processor}}}
use Rattle.osek_standard.specs.declared.state.Source.TheVariants as source
use Rattle.osek_standard.specs.declared.state.Processor.TheVariants as processor
use Rattle.osek_standard.specs.{Apps.{source_count, source_priority}, TaskStates.{is_inside}, States.{is_that_task, source_state, task_of, task_state}}
use Rattle.osek_standard.specs.{Levels.{level, task_level}, Internal.{internal_of}, Well.{Well, IsProcessor}}
use Rattle.osek_standard.proofs.Members.{Among, among_cases, among_flat_map, among_left, among_range, among_right, flat_map_among, range_among}
use Rattle.abstract_state.specs.declared.value.PartValue.{PartValue, TheVariants.{OfTask, OfEvent, OfAlarm, OfSource}}
use Rattle.abstract_state.specs.declared.value.SourceVal.TheVariants as source_val
use Rattle.abstract_state.specs.{Components.{abstract_of, component_count, source_value}, Regular.{IsRegular}}
use Rattle.abstract_state.proofs.{BitLaws.{no_bit_past}, OrderLaws.{part_itself}}
use Rattle.flow_model.specs.declared.test.{Condition.{Condition}, Test.{Test}}
use Rattle.flow_model.specs.declared.test.Test.TheVariants as test
use Rattle.flow_model.specs.{Cases.{condition}, Tests.{is_none_of, passes, PassesAll}, Values.{held_of, held_by_routine}}
use Rattle.flow_model.proofs.{ChangeLaws.{each_passes, passes_each}, SourceTests.{source_counted, test_of_source}, TaskTests.{lacks_is, task_counted_there}}
use Rattle.flow_exits.specs.Arrivals.{ceilings_above, fits_internal, holds_none, nest_condition, nest_conditions, over_conditions, running_source, source_number}
use Rattle.flow_exits.proofs.NestLevels.{LetsIn, level_low, low_by_source, low_by_task, low_source, low_task, source_low, task_low}

-- ---- none of no resources

none_of_none : (m : ℕ) (h : List ResNo) → m ≡ 0 → is_none_of m h ≡ true
none_of_none m [] e = refl
none_of_none m (r ∷ h) e =
    let clear : has_bit m r.0 ≡ false = ap (λ (n : ℕ). has_bit n r.0) e ∙ no_bit_past (λ j. true) 0 r.0 (omega arith) in
    ap (λ (b : Bool). not (b || list_any (λ (q : ResNo). has_bit m q.0) h)) clear ∙ none_of_none m h e

holds_no_resource : (m : Mask) (v : PartValue) → m.0 ≡ 0 → passes (test.HoldsNoneOf m) v ≡ true
holds_no_resource m (OfTask v) e = none_of_none m.0 (held_of v) e
holds_no_resource m (OfEvent b) e = refl
holds_no_resource m (OfAlarm b) e = refl
holds_no_resource m (OfSource v) e = none_of_none m.0 (held_by_routine v) e

-- ---- conditions on one component

module _ (value : ℕ → PartValue) (c : ℕ) where
  -- they are on the component, and its value passes
  abbrev ArePassed : List Condition → Type 0
  ArePassed xs = (x : Condition) → Among x xs → (x.component.0 ≡ c) × (passes x.test (value c) ≡ true)

  -- its value passes those that are on the component
  abbrev PassThere : List Condition → Type 0
  PassThere xs = (x : Condition) → Among x xs → x.component.0 ≡ c → passes x.test (value c) ≡ true

  one_passed : (t : Test) → passes t (value c) ≡ true → ArePassed (condition c t ∷ [])
  one_passed t h x (inl same) = (ap (λ (y : Condition). y.component.0) same, subst (λ (y : Condition). passes y.test (value c) ≡ true) (sym same) h)
  one_passed t h x (inr none) = absurd none

  held_passed : (m : Mask) (b : Bool) → passes (test.HoldsNoneOf m) (value c) ≡ true → ArePassed (if b then [] else condition c (test.HoldsNoneOf m) ∷ [])
  held_passed m true h x a = absurd a
  held_passed m false h x a = one_passed (test.HoldsNoneOf m) h x a

  passed_held : (m : Mask) (b : Bool) → (m.0 == 0) ≡ b → PassThere (if b then [] else condition c (test.HoldsNoneOf m) ∷ []) → passes (test.HoldsNoneOf m) (value c) ≡ true
  passed_held m true e all = holds_no_resource m (value c) (eqb-true m.0 0 e)
  passed_held m false e all = all (condition c (test.HoldsNoneOf m)) (inl refl) refl

-- ---- a source

module _ (app : App) (s : State) (k : ℕ) where
  abbrev own : ℕ
  own = source_priority app k

  abbrev barred : Mask
  barred = ceilings_above app own

  -- the test of a source that isn't of a lower priority, or is
  abbrev tested : Bool → Test
  tested b = if b then test.Is (OfSource source_val.Out) else test.HoldsNoneOf barred

  lets_by : (l : ℕ) (x : Source) (b : Bool) → nat_le own (source_priority app l) ≡ b → LetsIn app s k l x → passes (tested b) (OfSource (source_value x)) ≡ true
  lets_by l source.Out true e h = part_itself (OfSource source_val.Out)
  lets_by l source.Out false e h = refl
  lets_by l (source.In x) true e h = (let high : own ≤ source_priority app l = grind (arith, nat_tests) in absurd (omega (arith, high, h.0)))
  lets_by l (source.In x) false e h = h.1

  by_lets : (l : ℕ) (x : Source) (b : Bool) → nat_le own (source_priority app l) ≡ b → passes (tested b) (OfSource (source_value x)) ≡ true → LetsIn app s k l x
  by_lets l source.Out b e h = omega arith
  by_lets l (source.In x) true e h = absurd (cc)
  by_lets l (source.In x) false e h = (let low : source_priority app l < own = grind (arith, nat_tests) in low, h)

  module _ (l : ℕ) (lt : l < source_count app) where
    abbrev n : ℕ
    n = source_number app l

    abbrev conditions_by : Bool → List Condition
    conditions_by b = if b then condition n (test.Is (OfSource source_val.Out)) ∷ [] else holds_none n barred

    tested_passes : (b : Bool) → passes (tested b) (abstract_of app s n) ≡ true → ArePassed (abstract_of app s) n (conditions_by b)
    tested_passes true h = one_passed (abstract_of app s) n (test.Is (OfSource source_val.Out)) h
    tested_passes false h = held_passed (abstract_of app s) n barred (barred.0 == 0) h

    passes_tested : (b : Bool) → PassThere (abstract_of app s) n (conditions_by b) → passes (tested b) (abstract_of app s n) ≡ true
    passes_tested true all = all (condition n (test.Is (OfSource source_val.Out))) (inl refl) refl
    passes_tested false all = passed_held (abstract_of app s) n barred (barred.0 == 0) refl all

    -- it passes exactly where it lets source k in
    nest_passed : LetsIn app s k l (source_state s l) → ArePassed (abstract_of app s) n (nest_condition app k l)
    nest_passed h =
        let b : Bool = nat_le own (source_priority app l) in
        tested_passes b (test_of_source app s l lt (tested b) ∙ lets_by l (source_state s l) b refl h)

    passed_nest : PassThere (abstract_of app s) n (nest_condition app k l) → LetsIn app s k l (source_state s l)
    passed_nest all =
        let b : Bool = nat_le own (source_priority app l) in
        by_lets l (source_state s l) b refl (sym (test_of_source app s l lt (tested b)) ∙ passes_tested b all)

  -- ---- all of them

  -- the interrupted task, if there is one
  abbrev IsTaskKnown : Option TaskNo → Type 0
  IsTaskKnown o = (t : TaskNo) → o ≡ Some t → t.0 < length app.tasks

  -- where no routine runs, all sources are out
  abbrev AreOutUnless : Option SourceNo → Type 0
  AreOutUnless running = running ≡ None → (l : ℕ) → source_state s l ≡ source.Out

  abbrev whole : Option TaskNo → Option SourceNo → List Condition
  whole o running = over_conditions app o k ++ nest_conditions app running k

  abbrev Pass : List Condition → Type 0
  Pass xs = (x : Condition) → Among x xs → passes x.test (abstract_of app s x.component.0) ≡ true

  on_one : (c : ℕ) (xs : List Condition) → ArePassed (abstract_of app s) c xs → Pass xs
  on_one c xs h x m = (let p = h x m in subst (λ (i : ℕ). passes x.test (abstract_of app s i) ≡ true) (sym p.0) p.1)

  module _ (w : Well app s) (regular : IsRegular app s) where
    flag_of_current : (t : TaskNo) → task_of s.processor ≡ Some t → is_inside (task_state s t.0) ≡ is_some (internal_of app t.0)
    flag_of_current t e = regular.inside.current t.0 (ap (λ (o : Option TaskNo). is_that_task o t.0) e ∙ eq-eqb t.0 t.0 refl)

    -- where the level is no higher they pass
    over_passes : (o : Option TaskNo) → task_of s.processor ≡ o → IsTaskKnown o → task_level app s o ≤ own → (fits_internal app o k ≡ true) × Pass (over_conditions app o k)
    over_passes None e known low = (refl, λ x m. absurd m)
    over_passes (Some t) e known low =
        let h = low_task app s k t (flag_of_current t e) low in
        (h.0, on_one t.0 (over_conditions app (Some t) k) (held_passed (abstract_of app s) t.0 barred (barred.0 == 0) (lacks_is app s t (known t refl) barred ∙ h.1)))

    nests_pass : (running : Option SourceNo) → level app s ≤ own → Pass (nest_conditions app running k)
    nests_pass None low x m = absurd m
    nests_pass (Some j) low x m =
        let back = flat_map_among (nest_condition app k) x (range_with_len 0 (source_count app)) m in
        let lt : back.0 < source_count app = (let r = range_among 0 (source_count app) back.0 back.1 in omega (arith, r.1)) in
        let there : back.0 < length s.sources = (let long = w.sources_len in omega (arith, lt, long)) in
        on_one (source_number app back.0) (nest_condition app k back.0) (nest_passed back.0 lt (low_source app s k back.0 (source_state s back.0) (low_by_source app s k low back.0 there))) x back.2

    pub level_passes : (o : Option TaskNo) (running : Option SourceNo) → task_of s.processor ≡ o → IsTaskKnown o → level app s ≤ own → (fits_internal app o k ≡ true) × PassesAll app (whole o running) (abstract_of app s)
    level_passes o running e known low =
        let task = over_passes o e known (subst (λ (x : Option TaskNo). task_level app s x ≤ own) e (low_by_task app s k low)) in (
          task.0,
          passes_each app (abstract_of app s) (whole o running) (λ x m. elim (among_cases x (over_conditions app o k) (nest_conditions app running k) m) [
            | inl at ↦ task.1 x at
            | inr at ↦ nests_pass running low x at
          ]),
        )

    -- and where they pass it is no higher
    module _ (o : Option TaskNo) (running : Option SourceNo) (e : task_of s.processor ≡ o) (known : IsTaskKnown o) (all : PassesAll app (whole o running) (abstract_of app s)) where
      pass_there : (c : ℕ) → c < component_count app → PassThere (abstract_of app s) c (whole o running)
      pass_there c lt x m same =
          subst (λ (i : ℕ). passes x.test (abstract_of app s i) ≡ true) same (each_passes app (abstract_of app s) (whole o running) all x m (subst (λ (i : ℕ). i < component_count app) (sym same) lt))

    over_low : (o : Option TaskNo) (running : Option SourceNo) → task_of s.processor ≡ o → IsTaskKnown o → fits_internal app o k ≡ true → PassesAll app (whole o running) (abstract_of app s) → task_level app s o ≤ own
    over_low None running e known fits all = omega arith
    over_low (Some t) running e known fits all =
        let here = pass_there (Some t) running e known all t.0 (task_counted_there app t (known t refl)) in
        let passed = passed_held (abstract_of app s) t.0 barred (barred.0 == 0) refl (λ x m same. here x (among_left x (over_conditions app (Some t) k) (nest_conditions app running k) m) same) in
        task_low app s k t (flag_of_current t e) fits (sym (lacks_is app s t (known t refl) barred) ∙ passed)

    nests_low : (o : Option TaskNo) (running : Option SourceNo) → task_of s.processor ≡ o → IsTaskKnown o → AreOutUnless running → PassesAll app (whole o running) (abstract_of app s) → (l : ℕ) → l < source_count app → LetsIn app s k l (source_state s l)
    nests_low o None e known out all l lt = subst (LetsIn app s k l) (sym (out refl l)) (omega arith)
    nests_low o (Some j) e known out all l lt =
        let here = pass_there o (Some j) e known all (source_number app l) (source_counted app s l lt) in
        passed_nest l lt (λ x m same. here x (among_right x (over_conditions app o k) (nest_conditions app (Some j) k)
        (among_flat_map (nest_condition app k) l x (range_with_len 0 (source_count app)) (among_range 0 (source_count app) l (omega arith) (omega (arith, lt))) m)) same)

    pub passes_level : (o : Option TaskNo) (running : Option SourceNo) → task_of s.processor ≡ o → IsTaskKnown o → AreOutUnless running → fits_internal app o k ≡ true → PassesAll app (whole o running) (abstract_of app s) → level app s ≤ own
    passes_level o running e known out fits all =
        level_low app s k (subst (λ (x : Option TaskNo). task_level app s x ≤ own) (sym e) (over_low o running e known fits all))
        (λ l lt. let there : l < source_count app = (let long = w.sources_len in omega (arith, lt, long)) in
        source_low app s k l (source_state s l) (nests_low o running e known out all l there))

-- where no routine has the processor all sources are out
pub out_unless : (app : App) (s : State) (p : Processor) → IsProcessor app s p → running_source p ≡ None → (l : ℕ) → source_state s l ≡ source.Out
out_unless app s processor.Halted h e l = h l
out_unless app s processor.Idle h e l = h l
out_unless app s (processor.Running t) h e l = h.out l
out_unless app s (processor.Interrupted j over) h e l = absurd (cc)
