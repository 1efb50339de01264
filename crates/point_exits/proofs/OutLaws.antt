-- Sources whose set has no other value than Out.
use Rattle.std.proofs.Common.{◌≡◌, ℕ, ◌+◌, ◌<◌, Bool, true, false, not, ◌&&◌, ◌||◌, List, [], ◌∷◌, ◌++◌, length, map, flat_map, refl, sym, ap, subst, ◌∙◌, inl, inr, arith, get_or}
use Rattle.std.specs.{Prelude.{◌==◌}, List.{range_with_len}, Bool.{OnTrue, OnFalse}}
use Rattle.std.proofs.Math.Seq.{get_or-append_seam}
use Rattle.std.proofs.lemmas.Bool.{cases_order, eqb-true, false≢true}
use Rattle.std.proofs.lemmas.List.{get_or_append_left, get_or_past, length-append, FromFn.{length-map-range_with_len}}
use Rattle.osek_values.specs.Numbers.{task_no, alarm_no, source_no}
use Rattle.osek_standard.specs.{declared.app.App.{App}, Apps.{source_count}}
use Rattle.abstract_state.specs.declared.{value.PartValue.{PartValue, TheVariants.{OfSource}}, table.{ValueSet.{ValueSet}, PlainEntry.{PlainEntry}}}
use Rattle.abstract_state.specs.declared.value.Component.TheVariants as component
use Rattle.abstract_state.specs.declared.value.SourceVal.TheVariants as source_val
use Rattle.abstract_state.specs.{Components.{component_count, component_number, events_of}, Domains.{domains_of}, Tables.{is_member}, ValueOrder.{same_part}}
use Rattle.abstract_state.proofs.OrderLaws.{part_right}
use Rattle.flow_model.specs.declared.test.Condition.{Condition}
use Rattle.flow_model.specs.declared.test.Test.TheVariants as test
use Rattle.flow_model.specs.{Effects.{AreIn}, Cases.{condition}}
use Rattle.numbered_sets.specs.{declared.numbered_entry.NumberedEntry.{NumberedEntry}, NumberedEntries.{numbers_at, number_domains}, Pools.{Values, values_at}, Views.{plain_set, plain_entry}}
use Rattle.numbered_sets.proofs.PlainLaws.{plain_set_at}
use Rattle.flow_effects.specs.Outs.{AreOutIn}
use Rattle.point_exits.specs.Sifting.{HasOutAlone, LeavesNone}
use Rattle.point_exits.proofs.EntryCounts.{numbers_counted}

-- a source for which no value but Out may pass
pub out_if : (pool : List Values) (c : ℕ) (entry : NumberedEntry) (may : Bool) → OnFalse may ((x : Condition) → x.component.0 ≡ c → x.test ≡ test.IsNot (OfSource source_val.Out) → LeavesNone pool (x ∷ []) entry)
    → OnTrue (not may) (HasOutAlone pool c entry)
out_if pool c entry true h = tt
out_if pool c entry false h = h (condition c (test.IsNot (OfSource source_val.Out))) refl refl

module _ (app : App) where
  -- the sources' components come last
  pub sources_last : component_count app ≡ component_number app (component.Source (source_no 0)) + source_count app
  sources_last =
      let xs = map (λ t. component.Task (task_no t)) (range_with_len 0 (length app.tasks)) in
      let ys = flat_map (events_of app) (range_with_len 0 (length app.tasks)) in
      let zs = map (λ a. component.Alarm (alarm_no a)) (range_with_len 0 (length app.alarms)) in
      let ws = map (λ k. component.Source (source_no k)) (range_with_len 0 (source_count app)) in
      let tasks : length xs ≡ length app.tasks = length-map-range_with_len (λ t. component.Task (task_no t)) 0 (length app.tasks) in
      let alarms : length zs ≡ length app.alarms = length-map-range_with_len (λ a. component.Alarm (alarm_no a)) 0 (length app.alarms) in
      let sources : length ws ≡ source_count app = length-map-range_with_len (λ k. component.Source (source_no k)) 0 (source_count app) in
      let two : length (xs ++ ys) ≡ length xs + length ys = length-append xs ys in
      let three : length ((xs ++ ys) ++ zs) ≡ length (xs ++ ys) + length zs = length-append (xs ++ ys) zs in
      let all : length (((xs ++ ys) ++ zs) ++ ws) ≡ length ((xs ++ ys) ++ zs) + length ws = length-append ((xs ++ ys) ++ zs) ws in
      omega (arith, tasks, alarms, sources, two, three, all)

  -- none is known to be out
  pub none_out : (entry : PlainEntry) → AreOutIn app [] entry
  none_out entry value within k lt e = absurd (false≢true e)

  -- one source more
  pub out_more : (entry : PlainEntry) (outs : List Bool) (k : ℕ) (is_out : Bool) → length outs ≡ k → AreOutIn app outs entry
      → (is_out ≡ true → (value : ℕ → PartValue) → AreIn app entry value → value (component_number app (component.Source (source_no k))) ≡ OfSource source_val.Out) → AreOutIn app (outs ++ is_out ∷ []) entry
  out_more entry outs k is_out size before this value within j lt e = elim (cases_order j k) [
    | inl same ↦
        (let here : is_out ≡ true = sym (get_or-append_seam outs is_out [] false) ∙ ap (λ n. get_or (outs ++ is_out ∷ []) n false) (size ∙ sym same) ∙ e in
        subst (λ n. value (component_number app (component.Source (source_no n))) ≡ OfSource source_val.Out) (sym same) (this here value within))
    | inr (inl below) ↦ before value within j lt (sym (get_or_append_left outs (is_out ∷ []) false j (omega (arith, below, size))) ∙ e)
    | inr (inr above) ↦ absurd (false≢true (sym (get_or_past (outs ++ is_out ∷ []) j false (let long = length-append outs (is_out ∷ []) in omega (arith, above, size, long))) ∙ e))
  ]

  module _ (pool : List Values) (entry : NumberedEntry) (alike : number_domains entry ≡ domains_of app) where
    fails_alone : (a b : Bool) → ((a && not (not b)) || false) ≡ true → (a ≡ true) × (b ≡ true)
    fails_alone true true e = (refl, refl)
    fails_alone true false e = absurd (cc)
    fails_alone false b e = absurd (cc)

    -- then it is out in each choice of values
    pub out_alone : (c : ℕ) → HasOutAlone pool c entry → (value : ℕ → PartValue) → AreIn app (plain_entry pool entry) value → value c ≡ OfSource source_val.Out
    out_alone c h value within =
        let z = h.component in
        let v = value z in
        let counted : z < component_count app = (let known = h.known in omega (arith, known, numbers_counted app entry alike)) in
        let member : is_member (plain_set (values_at pool z) (numbers_at entry z)) v ≡ true = sym (ap (λ (x : ValueSet). is_member x v) (plain_set_at pool entry z)) ∙ within z counted in
        let failed = fails_alone (c == z) (same_part v (OfSource source_val.Out)) (h.none v member) in
        ap value (eqb-true c z failed.0) ∙ part_right v (OfSource source_val.Out) failed.1
