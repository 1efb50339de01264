-- The part of an entry that is allowed at a point has exactly the values that well-formed states have there.
use Rattle.std.proofs.Common.{◌≡◌, ℕ, ◌+◌, ◌<◌, ◌≤◌, Bool, true, false, not, ◌&&◌, List, [], ◌∷◌, length, filter, All, refl, sym, ap, subst, ◌∙◌, inl, inr, arith, Some, None, IsTrue}
use Rattle.std.specs.{Prelude.{◌==◌, nat_lt, nat_le, Contains, if◌then◌else◌}, List.{IsDistinct, range_with_len}, Cmp.{booleans_Decides}}
use Rattle.std.proofs.Math.Bool.{beq}
use Rattle.std.proofs.lemmas.Bool.{cases_Bool, false≢true, and_parts, or_cases, or_left, or_right, eqb-true, eq-eqb, Decides.{nat_tests}}
use Rattle.osek_values.specs.{Bits.{has_bit}, Numbers.{block_no, mask, res_no}, declared.numbers.{BlockNo.{BlockNo}, ResNo.{ResNo}}}
use Rattle.osek_standard.specs.declared.{app.App.{App}, block.Kind.{Kind}}
use Rattle.osek_standard.specs.declared.block.Kind.TheVariants as kind
use Rattle.osek_standard.specs.declared.call.Call.{Call, TheVariants.{Plain, Task, Resource, SetEvent, Mask, Alarm, Arm, Lock, ShutdownOs}}
use Rattle.osek_standard.specs.declared.{call.MaskService.TheVariants.{ClearEvent, WaitEvent}, point.Point.{Point}}
use Rattle.osek_standard.specs.declared.point.Point.TheVariants as point
use Rattle.osek_standard.specs.{Apps.{the_task, the_block, is_counter, is_extended, routine_start, routine_count}, Well.{IsWaitEvent, IsOwn, IsOfRoutine, IsStack, same_resource}}
use Rattle.abstract_state.specs.declared.value.{Val.{Val, TheVariants.{Suspended, Live, Waiting}}, SourceVal.{SourceVal}, Component.{Component}, PartValue.{PartValue, TheVariants.{OfTask, OfEvent, OfAlarm, OfSource}}}
use Rattle.abstract_state.specs.declared.value.SourceVal.TheVariants as source_val
use Rattle.abstract_state.specs.declared.value.Component.TheVariants as component
use Rattle.abstract_state.specs.declared.table.PlainEntry.{PlainEntry}
use Rattle.abstract_state.specs.Components.{component_at, component_count, RunsAt, IsInterruptedVal, IsVal, FitsPoint, IsInAt, IsSourceVal, SourceFitsPoint, IsPart, IsAllowed}
use Rattle.abstract_state.specs.{Concrete.{AreAllowed}, Domains.{IsValWithin, IsSourceWithin, IsWithin, domain_of, resources_in, takable_resources, takable_by_source}, Tables.{set_at, is_member}}
use Rattle.osek_standard.proofs.Members.{contained_among, map_among, passing_among}
use Rattle.abstract_state.proofs.{BitLaws.{no_bit_past}, DomainValues.{stack_within}}
use Rattle.flow_model.specs.Effects.{AreIn, AreAllAllowed}
use Rattle.flow_rules.specs.Allowed.{is_wait, has_flag, stands_at, is_out, is_in_at, may_wait, names_internal, owns, fits, is_of_routine, source_fits, may_be_by, may_be, IsAllowedPart}

-- ---- WaitEvent blocks

call_waits : (c : Call) → is_wait (kind.Call c) ≡ true → IsWaitEvent (kind.Call c)
call_waits (Plain x) e = absurd (cc)
call_waits (Task x t) e = absurd (cc)
call_waits (Resource x r) e = absurd (cc)
call_waits (SetEvent t m) e = absurd (cc)
call_waits (Mask ClearEvent m) e = absurd (cc)
call_waits (Mask WaitEvent m) e = tt
call_waits (Alarm x a) e = absurd (cc)
call_waits (Arm x a i c) e = absurd (cc)
call_waits (Lock x) e = absurd (cc)
call_waits ShutdownOs e = absurd (cc)

waits_call : (c : Call) → IsWaitEvent (kind.Call c) → is_wait (kind.Call c) ≡ true
waits_call (Plain x) h = absurd h
waits_call (Task x t) h = absurd h
waits_call (Resource x r) h = absurd h
waits_call (SetEvent t m) h = absurd h
waits_call (Mask ClearEvent m) h = absurd h
waits_call (Mask WaitEvent m) h = refl
waits_call (Alarm x a) h = absurd h
waits_call (Arm x a i c) h = absurd h
waits_call (Lock x) h = absurd h
waits_call ShutdownOs h = absurd h

kind_waits : (k : Kind) → is_wait k ≡ true → IsWaitEvent k
kind_waits (kind.Work n) e = absurd (cc)
kind_waits (kind.Choice b) e = absurd (cc)
kind_waits kind.Loop e = absurd (cc)
kind_waits (kind.Call c) e = call_waits c e
kind_waits kind.TaskEnd e = absurd (cc)
kind_waits kind.IsrEnd e = absurd (cc)
kind_waits kind.CountUp e = absurd (cc)
kind_waits (kind.Expire a) e = absurd (cc)

waits_kind : (k : Kind) → IsWaitEvent k → is_wait k ≡ true
waits_kind (kind.Work n) h = absurd h
waits_kind (kind.Choice b) h = absurd h
waits_kind kind.Loop h = absurd h
waits_kind (kind.Call c) h = waits_call c h
waits_kind kind.TaskEnd h = absurd h
waits_kind kind.IsrEnd h = absurd h
waits_kind kind.CountUp h = absurd h
waits_kind (kind.Expire a) h = absurd h

-- ---- values of tasks

both_true : (a b : Bool) → a ≡ true → b ≡ true → (a && b) ≡ true
both_true true b e f = f
both_true false b e f = absurd (cc)

module _ (app : App) (t : ℕ) where
  abbrev named : Bool
  named = names_internal app t

  runs_at : (b : BlockNo) (v : Val) → stands_at b named v ≡ true → RunsAt app b t v
  runs_at b Suspended e = absurd (cc)
  runs_at b (Live x) e =
      let parts = and_parts (x.block.0 == b.0) (beq x.inside named) e in
      (ap block_no (eqb-true x.block.0 b.0 parts.0), (booleans_Decides x.inside named).0 parts.1)
  runs_at b (Waiting c) e = absurd (cc)

  at_runner : (b : BlockNo) (v : Val) → RunsAt app b t v → stands_at b named v ≡ true
  at_runner b Suspended h = absurd h
  at_runner b (Live x) h =
      both_true (x.block.0 == b.0) (beq x.inside named) (eq-eqb x.block.0 b.0 (ap (λ (y : BlockNo). y.0) h.0)) ((booleans_Decides x.inside named).1 h.1)
  at_runner b (Waiting c) h = absurd h

  is_interrupted : (v : Val) → has_flag named v ≡ true → IsInterruptedVal app t v
  is_interrupted Suspended e = absurd (cc)
  is_interrupted (Live x) e = (booleans_Decides x.inside named).0 e
  is_interrupted (Waiting b) e = absurd (cc)

  interrupted_is : (v : Val) → IsInterruptedVal app t v → has_flag named v ≡ true
  interrupted_is Suspended h = absurd h
  interrupted_is (Live x) h = (booleans_Decides x.inside named).1 h
  interrupted_is (Waiting b) h = absurd h

module _ (app : App) where
  val_waits : (t : ℕ) (v : Val) → IsVal app t v → may_wait app t v ≡ true
  val_waits t Suspended h = refl
  val_waits t (Live x) h = refl
  val_waits t (Waiting b) h = both_true (is_extended app t) (is_wait (the_block app b.0).kind) h.extended (waits_kind (the_block app b.0).kind h.wait)

  is_val : (t : ℕ) (v : Val) → IsValWithin (the_task app t).first.0 (the_task app t).count (takable_resources app) (the_task app t).activation (names_internal app t) v → may_wait app t v ≡ true → IsVal app t v
  is_val t Suspended w e = tt
  is_val t (Live x) w e = record { own = w.own; further = w.further; named = w.named; stack = stack_within app x.held w.distinct w.known }
  is_val t (Waiting b) w e =
      let parts = and_parts (is_extended app t) (is_wait (the_block app b.0).kind) e in
      record { own = w; extended = parts.0; wait = kind_waits (the_block app b.0).kind parts.1 }

  own_is : (t b : ℕ) → owns app t b ≡ true → IsOwn app t b
  own_is t b e =
      let parts = and_parts (nat_le (the_task app t).first.0 b) (nat_lt b ((the_task app t).first.0 + (the_task app t).count)) e in
      let above : (the_task app t).first.0 ≤ b = let p = parts.0 in grind (arith, nat_tests) in
      let below : b < (the_task app t).first.0 + (the_task app t).count = let p = parts.1 in grind (arith, nat_tests) in
      (above, below)

  is_own : (t b : ℕ) → IsOwn app t b → owns app t b ≡ true
  is_own t b h =
      let above : nat_le (the_task app t).first.0 b ≡ true = let p = h.0 in grind (arith, nat_tests) in
      let below : nat_lt b ((the_task app t).first.0 + (the_task app t).count) ≡ true = let p = h.1 in grind (arith, nat_tests) in
      both_true (nat_le (the_task app t).first.0 b) (nat_lt b ((the_task app t).first.0 + (the_task app t).count)) above below

  not_true : (b : Bool) → not b ≡ true → b ≡ true → ⊥
  not_true true e f = absurd (cc)
  not_true false e f = absurd (cc)

  fits_point : (p : Point) (t : ℕ) (v : Val) → fits app p t v ≡ true → FitsPoint app p t v
  fits_point point.Halted t v e = tt
  fits_point point.Idle t v e = tt
  fits_point (point.Task b) t v e = λ own. elim (or_cases (not (owns app t b.0)) (stands_at b (names_internal app t) v) e) [
    | inl other ↦ absurd (not_true (owns app t b.0) other (is_own t b.0 own))
    | inr there ↦ runs_at app t b v there
  ]
  fits_point (point.Routine b None) t v e = tt
  fits_point (point.Routine b (Some u)) t v e = λ same. elim (or_cases (not (u.0 == t)) (has_flag (names_internal app t) v) e) [
    | inl other ↦ absurd (not_true (u.0 == t) other (eq-eqb u.0 t same))
    | inr live ↦ is_interrupted app t v live
  ]

  point_fits : (p : Point) (t : ℕ) (v : Val) → FitsPoint app p t v → fits app p t v ≡ true
  point_fits point.Halted t v h = refl
  point_fits point.Idle t v h = refl
  point_fits (point.Task b) t v h = elim (cases_Bool (owns app t b.0)) [
    | inl own ↦ or_right (not (owns app t b.0)) (stands_at b (names_internal app t) v) (at_runner app t b v (h (own_is t b.0 own)))
    | inr other ↦ or_left (not (owns app t b.0)) (stands_at b (names_internal app t) v) (ap not other)
  ]
  point_fits (point.Routine b None) t v h = refl
  point_fits (point.Routine b (Some u)) t v h = elim (cases_Bool (u.0 == t)) [
    | inl same ↦ or_right (not (u.0 == t)) (has_flag (names_internal app t) v) (interrupted_is app t v (h (eqb-true u.0 t same)))
    | inr other ↦ or_left (not (u.0 == t)) (has_flag (names_internal app t) v) (ap not other)
  ]

  -- ---- values of sources

  -- a tick routine takes nothing, and an ISR what it may
  nothing_held : (held : List ResNo) → All (λ (r : ResNo). Contains (resources_in (mask 0)) r) held → held ≡ []
  nothing_held [] known = refl
  nothing_held (r ∷ rs) known =
      let back = map_among res_no r (filter (has_bit 0) (range_with_len 0 64)) (contained_among (resources_in (mask 0)) r (known 0 r (omega arith))) in
      let set : has_bit 0 back.0 ≡ true = (passing_among (has_bit 0) 64 back.0 back.1).0 in
      absurd (false≢true (sym (no_bit_past (λ k. true) 0 back.0 (omega arith)) ∙ set))

  stack_taken : (c : Bool) (held : List ResNo) → IsDistinct same_resource held → All (λ (r : ResNo). Contains (resources_in (if c then mask 0 else takable_resources app)) r) held → IsStack app held × (c ≡ true → held ≡ [])
  stack_taken true held distinct known =
      let none = nothing_held held known in
      (subst (IsStack app) (sym none) (stack_within app [] (subst (IsDistinct same_resource) none distinct) (λ i d lt. absurd (omega (arith, lt)))), λ e. none)
  stack_taken false held distinct known = (stack_within app held distinct known, λ e. absurd (cc))

  is_source_val : (k : ℕ) (v : SourceVal) → IsSourceWithin (routine_start app k).0 (routine_count app k) (takable_by_source app k) v → IsSourceVal app k v
  is_source_val k source_val.Out w = tt
  is_source_val k (source_val.In x) w = (let stack = stack_taken (is_counter app k) x.held w.distinct w.known in record { own = w.own; stack = stack.0; none = stack.1 })

  out_is : (v : SourceVal) → is_out v ≡ true → v ≡ source_val.Out
  out_is source_val.Out e = refl
  out_is (source_val.In x) e = absurd (cc)

  in_is : (b : BlockNo) (v : SourceVal) → is_in_at b v ≡ true → IsInAt app b v
  in_is b source_val.Out e = absurd (cc)
  in_is b (source_val.In x) e = ap block_no (eqb-true x.block.0 b.0 e)

  is_in : (b : BlockNo) (v : SourceVal) → IsInAt app b v → is_in_at b v ≡ true
  is_in b source_val.Out h = absurd h
  is_in b (source_val.In x) h = eq-eqb x.block.0 b.0 (ap (λ (y : BlockNo). y.0) h)

  routine_is : (k b : ℕ) → is_of_routine app k b ≡ true → IsOfRoutine app k b
  routine_is k b e =
      let parts = and_parts (nat_le (routine_start app k).0 b) (nat_lt b ((routine_start app k).0 + routine_count app k)) e in
      let above : (routine_start app k).0 ≤ b = let p = parts.0 in grind (arith, nat_tests) in
      let below : b < (routine_start app k).0 + routine_count app k = let p = parts.1 in grind (arith, nat_tests) in
      (above, below)

  is_routine : (k b : ℕ) → IsOfRoutine app k b → is_of_routine app k b ≡ true
  is_routine k b h =
      let above : nat_le (routine_start app k).0 b ≡ true = let p = h.0 in grind (arith, nat_tests) in
      let below : nat_lt b ((routine_start app k).0 + routine_count app k) ≡ true = let p = h.1 in grind (arith, nat_tests) in
      both_true (nat_le (routine_start app k).0 b) (nat_lt b ((routine_start app k).0 + routine_count app k)) above below

  source_point : (p : Point) (k : ℕ) (v : SourceVal) → source_fits app p k v ≡ true → SourceFitsPoint app p k v
  source_point point.Halted k v e = out_is v e
  source_point point.Idle k v e = out_is v e
  source_point (point.Task b) k v e = out_is v e
  source_point (point.Routine b over) k v e = λ own. elim (or_cases (not (is_of_routine app k b.0)) (is_in_at b v) e) [
    | inl other ↦ absurd (not_true (is_of_routine app k b.0) other (is_routine k b.0 own))
    | inr there ↦ in_is b v there
  ]

  point_source : (p : Point) (k : ℕ) (v : SourceVal) → SourceFitsPoint app p k v → source_fits app p k v ≡ true
  point_source point.Halted k v h = ap is_out h
  point_source point.Idle k v h = ap is_out h
  point_source (point.Task b) k v h = ap is_out h
  point_source (point.Routine b over) k v h = elim (cases_Bool (is_of_routine app k b.0)) [
    | inl own ↦ or_right (not (is_of_routine app k b.0)) (is_in_at b v) (is_in b v (h (routine_is k b.0 own)))
    | inr other ↦ or_left (not (is_of_routine app k b.0)) (is_in_at b v) (ap not other)
  ]

  -- ---- values of components

  part_may : (p : Point) (k : Component) (v : PartValue) → IsPart app p k v → may_be_by app p k v ≡ true
  part_may p (component.Task t) (OfTask v) h = both_true (may_wait app t.0 v) (fits app p t.0 v) (val_waits t.0 v h.0) (point_fits p t.0 v h.1)
  part_may p (component.Task t) (OfEvent b) h = refl
  part_may p (component.Task t) (OfAlarm b) h = refl
  part_may p (component.Task t) (OfSource v) h = refl
  part_may p (component.Event t k) (OfTask v) h = refl
  part_may p (component.Event t k) (OfEvent b) h = refl
  part_may p (component.Event t k) (OfAlarm b) h = refl
  part_may p (component.Event t k) (OfSource v) h = refl
  part_may p (component.Alarm a) (OfTask v) h = refl
  part_may p (component.Alarm a) (OfEvent b) h = refl
  part_may p (component.Alarm a) (OfAlarm b) h = refl
  part_may p (component.Alarm a) (OfSource v) h = refl
  part_may p (component.Source k) (OfTask v) h = refl
  part_may p (component.Source k) (OfEvent b) h = refl
  part_may p (component.Source k) (OfAlarm b) h = refl
  part_may p (component.Source k) (OfSource v) h = point_source p k.0 v h.1

  may_part : (p : Point) (k : Component) (v : PartValue) → IsWithin (domain_of app k) v → may_be_by app p k v ≡ true → IsPart app p k v
  may_part p (component.Task t) (OfTask v) w e = (let parts = and_parts (may_wait app t.0 v) (fits app p t.0 v) e in (is_val t.0 v w parts.0, fits_point p t.0 v parts.1))
  may_part p (component.Task t) (OfEvent b) w e = w
  may_part p (component.Task t) (OfAlarm b) w e = w
  may_part p (component.Task t) (OfSource v) w e = w
  may_part p (component.Event t k) (OfTask v) w e = w
  may_part p (component.Event t k) (OfEvent b) w e = tt
  may_part p (component.Event t k) (OfAlarm b) w e = w
  may_part p (component.Event t k) (OfSource v) w e = w
  may_part p (component.Alarm a) (OfTask v) w e = w
  may_part p (component.Alarm a) (OfEvent b) w e = w
  may_part p (component.Alarm a) (OfAlarm b) w e = tt
  may_part p (component.Alarm a) (OfSource v) w e = w
  may_part p (component.Source k) (OfTask v) w e = w
  may_part p (component.Source k) (OfEvent b) w e = w
  may_part p (component.Source k) (OfAlarm b) w e = w
  may_part p (component.Source k) (OfSource v) w e = (is_source_val k.0 v w, source_point p k.0 v e)

  allowed_may : (p : Point) (c : ℕ) (v : PartValue) → IsAllowed app p c v → may_be app p c v ≡ true
  allowed_may p c v h = part_may p (component_at app c) v h

  may_allowed : (p : Point) (c : ℕ) (v : PartValue) → IsWithin (domain_of app (component_at app c)) v → may_be app p c v ≡ true → IsAllowed app p c v
  may_allowed p c v w e = may_part p (component_at app c) v w e

-- ---- entries

module _ (app : App) (p : Point) (entry part : PlainEntry) (size : length entry.sets ≡ component_count app)
    (within : (c : ℕ) (v : PartValue) → c < component_count app → IsTrue (is_member (set_at entry c) v) → IsWithin (domain_of app (component_at app c)) v) (h : IsAllowedPart app p entry part) where
  members_at : (c : ℕ) (v : PartValue) → c < component_count app → is_member (set_at part c) v ≡ (is_member (set_at entry c) v && may_be app p c v)
  members_at c v lt = (h.each c (subst (λ (n : ℕ). c < n) (sym size) lt)).members v

  member_parts : (c : ℕ) (v : PartValue) → c < component_count app → IsTrue (is_member (set_at part c) v) → (is_member (set_at entry c) v ≡ true) × (may_be app p c v ≡ true)
  member_parts c v lt m = and_parts (is_member (set_at entry c) v) (may_be app p c v) (sym (members_at c v lt) ∙ m)

  -- all its values are allowed
  pub part_allowed : AreAllAllowed app p part
  part_allowed c v lt m =
      let parts = member_parts c v lt m in
      may_allowed app p c v (within c v lt parts.0) parts.1

  -- and the entry's allowed ones are among them
  pub in_part : (value : ℕ → PartValue) → AreIn app entry value → AreAllowed app p value → AreIn app part value
  in_part value there allowed c lt = members_at c (value c) lt ∙ both_true (is_member (set_at entry c) (value c)) (may_be app p c (value c)) (there c lt) (allowed_may app p c (value c) (allowed c lt))
