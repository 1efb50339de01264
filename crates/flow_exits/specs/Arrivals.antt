-- Which routines may begin at a point, with which values, and what that makes of them.
use Rattle.std.specs.{Prelude.{◌≡◌, ⊤, ℕ, ◌<◌, ◌==◌, nat_lt, nat_le, Bool, true, false, not, ◌&&◌, IsTrue, List, [], ◌∷◌, ◌++◌, length, filter, flat_map, if◌then◌else◌, Some, None, Contains}, List.{range_with_len}}
use Rattle.std.specs.declared.option.Option.{Option}
use Rattle.osek_values.specs.{declared.{mask.Mask.{Mask}, numbers.{TaskNo.{TaskNo}, BlockNo.{BlockNo}, ResNo.{ResNo}, SourceNo.{SourceNo}}}, Numbers.{mask, source_no}}
use Rattle.osek_standard.specs.declared.{app.App.{App}, state.Processor.{Processor}, point.Point.{Point}}
use Rattle.osek_standard.specs.declared.state.Processor.TheVariants as processor
use Rattle.osek_standard.specs.declared.point.Point.TheVariants as point
use Rattle.osek_standard.specs.{Apps.{the_block, routine_start, source_count, source_priority}, Internal.{internal_of}, Levels.{interrupt_ceiling}, Well.{IsOwn, IsOfRoutine}}
use Rattle.abstract_state.specs.{declared.value.PartValue.TheVariants.{OfSource}, Components.{component_number, routine_val}, Concrete.{bits_number}}
use Rattle.abstract_state.specs.declared.value.Component.TheVariants as component
use Rattle.abstract_state.specs.declared.value.SourceVal.TheVariants as source_val
use Rattle.flow_model.specs.declared.{rule.Rule.{Rule}, test.Condition.{Condition}}
use Rattle.flow_model.specs.declared.test.Test.TheVariants as test
use Rattle.flow_model.specs.{Cases.{condition}, Changes.{source_change}}

-- whose routine runs
abbrev pub running_source : Processor → Option SourceNo
running_source processor.Halted = None
running_source processor.Idle = None
running_source (processor.Running t) = None
running_source (processor.Interrupted k over) = Some k

-- a component holds none of these resources, if there are any
abbrev pub holds_none : ℕ → Mask → List Condition
holds_none c m = if m.0 == 0 then [] else condition c (test.HoldsNoneOf m) ∷ []

module _ (app : App) where
  -- the resources whose interrupt ceiling is above a priority
  abbrev pub ceilings_above : ℕ → Mask
  ceilings_above p = mask (bits_number (λ r. nat_lt p (interrupt_ceiling app r)) (length app.resources))

  -- who is interrupted holds none that keeps source k out
  abbrev pub over_conditions : Option TaskNo → ℕ → List Condition
  over_conditions None k = []
  over_conditions (Some t) k = holds_none t.0 (ceilings_above (source_priority app k))

  abbrev pub source_number : ℕ → ℕ
  source_number l = component_number app (component.Source (source_no l))

  -- source l is out, or of a lower priority, and holds none that keeps k out
  abbrev pub nest_condition : ℕ → ℕ → List Condition
  nest_condition k l =
      if nat_le (source_priority app k) (source_priority app l) then condition (source_number l) (test.Is (OfSource source_val.Out)) ∷ [] else holds_none (source_number l) (ceilings_above (source_priority app k))

  -- so it is with each, where a routine runs; where none does all are out
  abbrev pub nest_conditions : Option SourceNo → ℕ → List Condition
  nest_conditions None k = []
  nest_conditions (Some j) k = flat_map (nest_condition k) (range_with_len 0 (source_count app))

  -- Source k's routine begins, over a task or over none, where this routine runs or none: with which values, and what that makes
  -- of them.
  abbrev pub arrival_rule : Option TaskNo → Option SourceNo → ℕ → Rule
  arrival_rule over running k = record {
    conditions = over_conditions over k ++ nest_conditions running k;
    changes = source_change app k (source_val.In (routine_val (routine_start app k) [])) ∷ [];
    target = point.Routine (routine_start app k) over;
    decision = None;
    status = None;
  }

  -- the INTERNAL resource that the interrupted task has doesn't keep source k out
  abbrev pub lets_in : Option ResNo → ℕ → Bool
  lets_in None k = true
  lets_in (Some r) k = not (nat_lt (source_priority app k) (interrupt_ceiling app r.0))

  abbrev pub fits_internal : Option TaskNo → ℕ → Bool
  fits_internal None k = true
  fits_internal (Some t) k = lets_in (internal_of app t.0) k

  -- nor does the running routine
  abbrev pub is_lower : Option SourceNo → ℕ → Bool
  is_lower None k = true
  is_lower (Some j) k = nat_lt (source_priority app j.0) (source_priority app k)

  -- the sources whose routines may begin over these
  abbrev pub may_begin_over : Option TaskNo → Option SourceNo → List ℕ
  may_begin_over over running = filter (λ k. is_lower running k && fits_internal over k) (range_with_len 0 (source_count app))

  -- over task t, whose block this is
  pub record MayBeginOverTask (b : BlockNo) (t : TaskNo) (k : ℕ) : Type 0 where
    pub free : (the_block app b.0).locked ≡ false
    pub known : t.0 < length app.tasks
    pub own : IsOwn app t.0 b.0
    pub fits : IsTrue (fits_internal (Some t) k)

  -- over source j's routine, which has a lower priority, whose block this is, and which is over the same
  pub record MayBeginOverRoutine (b : BlockNo) (under over : Option TaskNo) (j : SourceNo) (k : ℕ) : Type 0 where
    pub free : (the_block app b.0).locked ≡ false
    pub same : under ≡ over
    pub known : j.0 < source_count app
    pub own : IsOfRoutine app j.0 b.0
    pub lower : source_priority app j.0 < source_priority app k
    pub fits : IsTrue (fits_internal over k)

  -- at the point source k's routine may begin over this task or over none, where this routine runs or none
  abbrev pub MayBegin : Point → Option TaskNo → Option SourceNo → ℕ → Type 0
  MayBegin point.Halted over running k = ⊥
  MayBegin point.Idle None None k = ⊤
  MayBegin point.Idle None (Some j) k = ⊥
  MayBegin point.Idle (Some t) running k = ⊥
  MayBegin (point.Task b) None running k = ⊥
  MayBegin (point.Task b) (Some t) None k = MayBeginOverTask b t k
  MayBegin (point.Task b) (Some t) (Some j) k = ⊥
  MayBegin (point.Routine b under) over None k = ⊥
  MayBegin (point.Routine b under) over (Some j) k = MayBeginOverRoutine b under over j k

  pub record IsArrivalRule (p : Point) (rule : Rule) : Type 0 where
    pub source : ℕ
    pub over : Option TaskNo
    pub running : Option SourceNo
    pub known : source < source_count app
    pub may : MayBegin p over running source
    pub is : rule ≡ arrival_rule over running source

  -- the rules are arrivals, and each arrival that there may be is one
  pub record AreArrivals (p : Point) (rules : List Rule) : Type 0 where
    pub each : (rule : Rule) → Contains rules rule → IsArrivalRule p rule
    pub some : (k : ℕ) (over : Option TaskNo) (running : Option SourceNo) → k < source_count app → MayBegin p over running k → Contains rules (arrival_rule over running k)
