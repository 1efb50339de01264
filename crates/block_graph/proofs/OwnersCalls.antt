-- What the block of a call names is declared.
use Rattle.std.proofs.Common.{◌≡◌, ℕ, ◌<◌, ◌≤◌, Bool, true, false, cond, ltb, List, [], ◌∷◌, ◌++◌, length, refl, sym, ap, subst, arith, IsTrue}
use Rattle.std.proofs.lemmas.{Bool.{ltb-true}, List.{length-map}, Nat.{le_or_l}}
use Rattle.std.specs.{Prelude.{All, Option, Some, None, unwrap_or, not}, List.{position, position_or_len, flat_map}}
use Rattle.osek_values.proofs.Lists.{both_empty}
use Rattle.oil_system.specs.declared.system.{EventObject.{EventObject}, TaskObject.{TaskObject}, System.{System}}
use Rattle.osek_standard.specs.{declared.block.Block.{Block}, Tables.{Tables}}
use Rattle.osek_standard.specs.Validity.{IsOtherWay, NamesEntries, isr_may, is_own_next, task_may, is_internal}
use Rattle.task_code.specs.{declared.{call.{Reference.{Reference}, Call.{Call}}, tree.Body.{Body}}, Fit.{NamesEvents}}
use Rattle.task_code.specs.declared.call.Call.TheVariants as call
use Rattle.task_code.specs.declared.tree.BodyKind.TheVariants as body_kind
use Rattle.block_graph.specs.{Apps.{extent, tables_over, task_with, tasks_of}, Blocks.{event_bits, kind_of, mask_bits}, Names.{alarm_of, event_of, resource_of, task_of}}
use Rattle.block_graph.specs.Rules.{from_calls, internal_at, internal_in, internal_resource, no_alarm, no_event, no_resource, no_task, undeclared, undeclared_in}
use Rattle.task_code.specs.Statements.{Statements, closed, work_then, if_then, if_else_then, while_then, call_then}
use Rattle.oil_model.proofs.Clean.{mark_empty}
use Rattle.block_graph.specs.Blocks as graph

none_in_both : (a b : List ℕ) → a ≡ [] → b ≡ [] → a ++ b ≡ []
none_in_both a b e f = λ i. e i ++ f i

below : (found : Bool) (place size line : ℕ) → ltb place size ≡ found → undeclared (cond found (Some place) None) line ≡ [] → unwrap_or (cond found (Some place) None) 0 < size
below true place size line is e = ltb-true place size is
below false place size line is e = absurd cc

-- the number of a declared name is one of the table's
number_inside : {X : Type 0} (test : X → Bool) (table : List X) (line : ℕ) → undeclared (position test table) line ≡ [] → unwrap_or (position test table) 0 < length table
number_inside test table line e = below (ltb (position_or_len test table) (length table)) (position_or_len test table) (length table) line refl e

module _ (s : System) where
  pub task_count : (bodies : List Body) → length (tasks_of s bodies) ≡ length s.tasks
  task_count bodies = length-map s.tasks (λ (x : TaskObject). task_with x (extent body_kind.Task x.name bodies 0))

  task_inside : (r : Reference) (bodies : List Body) → no_task s r ≡ [] → unwrap_or (task_of s r.name) 0 < length (tasks_of s bodies)
  task_inside r bodies e =
      let inside : unwrap_or (task_of s r.name) 0 < length s.tasks = number_inside _ s.tasks r.line e in
      subst (λ (n : ℕ). unwrap_or (task_of s r.name) 0 < n) (sym (task_count bodies)) inside

  alarm_inside : (r : Reference) → no_alarm s r ≡ [] → unwrap_or (alarm_of s r.name) 0 < length s.alarms
  alarm_inside r e = number_inside _ s.alarms r.line e

  resource_inside : (r : Reference) → no_resource s r ≡ [] → unwrap_or (resource_of s r.name) 0 < length s.resources
  resource_inside r e = number_inside _ s.resources r.line e

  -- what a call names that isn't declared, or is INTERNAL
  abbrev pub wrong_names : ℕ → Call → List ℕ
  wrong_names line c = undeclared_in s line c ++ internal_in s line c

  pub no_wrong_name : (xs : Statements) → from_calls (undeclared_in s) xs ≡ [] → from_calls (internal_in s) xs ≡ [] → from_calls wrong_names xs ≡ []
  no_wrong_name (closed line) d i = refl
  no_wrong_name (work_then line count next) d i = no_wrong_name next d i
  no_wrong_name (if_then line branch next) d i =
      let e = both_empty (from_calls (undeclared_in s) branch) (from_calls (undeclared_in s) next) d in
      let f = both_empty (from_calls (internal_in s) branch) (from_calls (internal_in s) next) i in
      none_in_both _ _ (no_wrong_name branch e.0 f.0) (no_wrong_name next e.1 f.1)
  no_wrong_name (if_else_then line branch otherwise next) d i =
      let e = both_empty (from_calls (undeclared_in s) branch) (from_calls (undeclared_in s) otherwise ++ from_calls (undeclared_in s) next) d in
      let f = both_empty (from_calls (internal_in s) branch) (from_calls (internal_in s) otherwise ++ from_calls (internal_in s) next) i in
      let g = both_empty (from_calls (undeclared_in s) otherwise) (from_calls (undeclared_in s) next) e.1 in
      let h = both_empty (from_calls (internal_in s) otherwise) (from_calls (internal_in s) next) f.1 in
      none_in_both _ _ (no_wrong_name branch e.0 f.0) (none_in_both _ _ (no_wrong_name otherwise g.0 h.0) (no_wrong_name next g.1 h.1))
  no_wrong_name (while_then line condition body next) d i =
      let e = both_empty (from_calls (undeclared_in s) body) (from_calls (undeclared_in s) next) d in
      let f = both_empty (from_calls (internal_in s) body) (from_calls (internal_in s) next) i in
      none_in_both _ _ (no_wrong_name body e.0 f.0) (no_wrong_name next e.1 f.1)
  no_wrong_name (call_then line c next) d i =
      let e = both_empty (undeclared_in s line c) (from_calls (undeclared_in s) next) d in
      let f = both_empty (internal_in s line c) (from_calls (internal_in s) next) i in
      none_in_both _ _ (none_in_both _ _ e.0 f.0) (no_wrong_name next e.1 f.1)

  -- the resource that a call takes or gives back is declared, and not INTERNAL
  takable_at : (o : Option ℕ) (line other : ℕ) → undeclared o line ≡ [] → internal_at s o other ≡ [] → IsTrue (not (is_internal s.resources (unwrap_or o 0)))
  takable_at None line other e i = absurd cc
  takable_at (Some n) line other e i = ap not (mark_empty (is_internal s.resources n) other i)

  resource_taken : (r : Reference) → no_resource s r ++ internal_resource s r ≡ [] →
      (unwrap_or (resource_of s r.name) 0 < length s.resources) × IsTrue (not (is_internal s.resources (unwrap_or (resource_of s r.name) 0)))
  resource_taken r e =
      let parts = both_empty (no_resource s r) (internal_resource s r) e in
      (resource_inside r parts.0, takable_at (resource_of s r.name) r.line r.line parts.0 parts.1)

  -- a declared event has a bit
  some_bit : (r : Reference) → All (λ (x : EventObject). 0 < x.mask.0) s.events → no_event s r ≡ [] → 0 < event_bits s r
  some_bit r events e = events (unwrap_or (event_of s r.name) 0) graph.no_event (number_inside _ s.events r.line e)

  -- and so has a mask that names one
  some_bits : (mask : List Reference) → All (λ (x : EventObject). 0 < x.mask.0) s.events → 1 ≤ length mask → flat_map (no_event s) mask ≡ [] → 0 < mask_bits s mask
  some_bits [] events some e = absurd (omega arith)
  some_bits (r ∷ more) events some e =
      let bit : 0 < event_bits s r = some_bit r events (both_empty (no_event s r) (flat_map (no_event s) more) e).0 in
      omega (arith, bit, le_or_l (event_bits s r) (mask_bits s more))

  declared_in : (line : ℕ) (c : Call) → wrong_names line c ≡ [] → undeclared_in s line c ≡ []
  declared_in line c e = (both_empty (undeclared_in s line c) (internal_in s line c) e).0

  pub call_names_entries : (bodies : List Body) (blocks : List Block) → All (λ (x : EventObject). 0 < x.mask.0) s.events
      → (line : ℕ) (c : Call) → NamesEvents c → wrong_names line c ≡ [] → NamesEntries (tables_over s bodies blocks) (kind_of s c)
  call_names_entries bodies blocks events line (call.ActivateTask task) m e = task_inside task bodies (declared_in line (call.ActivateTask task) e)
  call_names_entries bodies blocks events line call.TerminateTask m e = tt
  call_names_entries bodies blocks events line (call.ChainTask task) m e = task_inside task bodies (declared_in line (call.ChainTask task) e)
  call_names_entries bodies blocks events line call.Schedule m e = tt
  call_names_entries bodies blocks events line (call.GetResource resource) m e = resource_taken resource e
  call_names_entries bodies blocks events line (call.ReleaseResource resource) m e = resource_taken resource e
  call_names_entries bodies blocks events line (call.SetEvent task mask) m e =
      let parts = both_empty (no_task s task) (flat_map (no_event s) mask) (declared_in line (call.SetEvent task mask) e) in
      (task_inside task bodies parts.0, some_bits mask events m parts.1)
  call_names_entries bodies blocks events line (call.ClearEvent mask) m e = some_bits mask events m (declared_in line (call.ClearEvent mask) e)
  call_names_entries bodies blocks events line (call.GetEvent task) m e = task_inside task bodies (declared_in line (call.GetEvent task) e)
  call_names_entries bodies blocks events line (call.WaitEvent mask) m e = some_bits mask events m (declared_in line (call.WaitEvent mask) e)
  call_names_entries bodies blocks events line (call.SetRelAlarm alarm increment cycle) m e = alarm_inside alarm (declared_in line (call.SetRelAlarm alarm increment cycle) e)
  call_names_entries bodies blocks events line (call.SetAbsAlarm alarm start cycle) m e = alarm_inside alarm (declared_in line (call.SetAbsAlarm alarm start cycle) e)
  call_names_entries bodies blocks events line (call.CancelAlarm alarm) m e = alarm_inside alarm (declared_in line (call.CancelAlarm alarm) e)
  call_names_entries bodies blocks events line (call.GetAlarm alarm) m e = alarm_inside alarm (declared_in line (call.GetAlarm alarm) e)
  call_names_entries bodies blocks events line call.GetTaskId m e = tt
  call_names_entries bodies blocks events line (call.GetTaskState task) m e = task_inside task bodies (declared_in line (call.GetTaskState task) e)
  call_names_entries bodies blocks events line call.GetActiveApplicationMode m e = tt
  call_names_entries bodies blocks events line (call.ShutdownOs _) m e = tt
  call_names_entries bodies blocks events line (call.LockCall lock) m e = tt

  -- a call is no end, and has one way on
  pub call_in_task : (c : Call) → IsTrue (task_may false (kind_of s c))
  call_in_task c = refl

  pub call_in_isr : (c : Call) → IsTrue (isr_may false (kind_of s c))
  call_in_isr c = refl

  pub call_goes_on : (b next : ℕ) (c : Call) → IsTrue (is_own_next b (kind_of s c) next)
  call_goes_on b next c = refl

  pub call_has_one_way : (t : Tables) (first count : ℕ) (c : Call) → IsOtherWay t first count (kind_of s c)
  call_has_one_way t first count c = tt
