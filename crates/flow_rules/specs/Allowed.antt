-- The values of an entry that well-formed states have at a point.
use Rattle.std.specs.Prelude.{◌≡◌, ℕ, ◌+◌, ◌<◌, ◌==◌, ◌&&◌, ◌||◌, not, Bool, true, false, nat_lt, nat_le, length, Some, None, is_some}
use Rattle.std.proofs.Math.Bool.{beq}
use Rattle.osek_values.specs.declared.numbers.BlockNo.{BlockNo}
use Rattle.osek_standard.specs.declared.{app.App.{App}, block.Kind.{Kind}}
use Rattle.osek_standard.specs.declared.block.Kind.TheVariants as kind
use Rattle.osek_standard.specs.declared.{call.{Call.TheVariants.{Mask}, MaskService.TheVariants.{WaitEvent}}, point.Point.{Point}}
use Rattle.osek_standard.specs.declared.point.Point.TheVariants as point
use Rattle.osek_standard.specs.{Apps.{the_task, the_block, is_extended, routine_start, routine_count}, Internal.{internal_of}}
use Rattle.abstract_state.specs.declared.value.{Val.{Val, TheVariants.{Suspended, Live, Waiting}}, SourceVal.{SourceVal}, Component.{Component}, PartValue.{PartValue, TheVariants.{OfTask, OfSource}}}
use Rattle.abstract_state.specs.declared.value.SourceVal.TheVariants as source_val
use Rattle.abstract_state.specs.declared.value.Component.TheVariants as component
use Rattle.abstract_state.specs.Components.{component_at}
use Rattle.abstract_state.specs.{declared.table.{ValueSet.{ValueSet}, PlainEntry.{PlainEntry}}, ValueOrder.{IsAscending}, Tables.{set_at, is_member}}

abbrev pub is_wait : Kind → Bool
is_wait (kind.Call (Mask WaitEvent m)) = true
is_wait _ = false

-- Live, and inside or not
abbrev pub has_flag : Bool → Val → Bool
has_flag named Suspended = false
has_flag named (Live x) = beq x.inside named
has_flag named (Waiting b) = false

abbrev pub stands_at : BlockNo → Bool → Val → Bool
stands_at b named Suspended = false
stands_at b named (Live x) = (x.block.0 == b.0) && beq x.inside named
stands_at b named (Waiting c) = false

abbrev pub is_out : SourceVal → Bool
is_out source_val.Out = true
is_out (source_val.In x) = false

abbrev pub is_in_at : BlockNo → SourceVal → Bool
is_in_at b source_val.Out = false
is_in_at b (source_val.In x) = x.block.0 == b.0

module _ (app : App) where
  -- a task waits at a WaitEvent block, and is extended
  abbrev pub may_wait : ℕ → Val → Bool
  may_wait t Suspended = true
  may_wait t (Live x) = true
  may_wait t (Waiting b) = is_extended app t && is_wait (the_block app b.0).kind

  -- the block is the task's own
  abbrev pub owns : ℕ → ℕ → Bool
  owns t b = nat_le (the_task app t).first.0 b && nat_lt b ((the_task app t).first.0 + (the_task app t).count)

  abbrev pub names_internal : ℕ → Bool
  names_internal t = is_some (internal_of app t)

  -- a task that runs stands at the point, an interrupted one is Live, and each is inside where it names an INTERNAL resource
  abbrev pub fits : Point → ℕ → Val → Bool
  fits point.Halted t v = true
  fits point.Idle t v = true
  fits (point.Task b) t v = not (owns t b.0) || stands_at b (names_internal t) v
  fits (point.Routine b None) t v = true
  fits (point.Routine b (Some u)) t v = not (u.0 == t) || has_flag (names_internal t) v

  -- the block is one of the source's routine
  abbrev pub is_of_routine : ℕ → ℕ → Bool
  is_of_routine k b = nat_le (routine_start app k).0 b && nat_lt b ((routine_start app k).0 + routine_count app k)

  -- where no routine has the processor a source is out, and the one that has it is in at the point's block
  abbrev pub source_fits : Point → ℕ → SourceVal → Bool
  source_fits point.Halted k v = is_out v
  source_fits point.Idle k v = is_out v
  source_fits (point.Task b) k v = is_out v
  source_fits (point.Routine b over) k v = not (is_of_routine k b.0) || is_in_at b v

  -- a component may have this value of its domain at the point
  abbrev pub may_be_by : Point → Component → PartValue → Bool
  may_be_by p (component.Task t) (OfTask v) = may_wait t.0 v && fits p t.0 v
  may_be_by p (component.Source k) (OfSource v) = source_fits p k.0 v
  may_be_by p _ _ = true

  -- Component c may.
  abbrev pub may_be : Point → ℕ → PartValue → Bool
  may_be p c v = may_be_by p (component_at app c) v

-- the values of a set that pass
pub record IsPartOf (passes : PartValue → Bool) (set part : ValueSet) : Type 0 where
  pub domain : part.domain ≡ set.domain
  pub ascending : IsAscending part.members
  pub members : (v : PartValue) → is_member part v ≡ (is_member set v && passes v)

-- The values of the entry that its components may have at the point.
pub record IsAllowedPart (app : App) (p : Point) (entry part : PlainEntry) : Type 0 where
  pub size : length part.sets ≡ length entry.sets
  pub each : (c : ℕ) → c < length entry.sets → IsPartOf (may_be app p c) (set_at entry c) (set_at part c)
