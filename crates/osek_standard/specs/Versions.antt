-- What the image format's version 1 asks of an application besides: it has no place for further activations, for INTERNAL
-- resources, and for the priorities and resources of ISRs.
use Rattle.std.specs.{Prelude.{◌≡◌, ⊤, ℕ, map, nat_eq, All, Bool, true, false, Option, Some, None, IsTrue, not}, List.{IsDistinct, IsDistinct-prop}, Coded.{Unit-prop}}
use Rattle.std.proofs.Props.{props}
use Rattle.osek_values.specs.declared.numbers.ResNo.{ResNo}
use Rattle.oil_system.specs.declared.objects.Resource.{Resource}
use Rattle.osek_standard.specs.{declared.{objects.{Task.{Task}, Isr.{Isr}}, block.Kind.{Kind}}, Tables.{Tables}, Validity.{IsAmong, block_at}}
use Rattle.osek_standard.specs.CallNames as call
use Rattle.osek_standard.specs.declared.block.Kind.TheVariants as kind

-- a task names no INTERNAL resource
abbrev pub NamesNone : Option ResNo → Type 0
NamesNone None = ⊤
NamesNone (Some r) = ⊥

-- a block takes a resource or gives one back
abbrev pub is_for_resource : Kind → Bool
is_for_resource (kind.Call (call.Resource k r)) = true
is_for_resource _ = false

-- no block of these does
abbrev pub TakesNone : Tables → ℕ → ℕ → Type 0
TakesNone t first count = (b : ℕ) → IsAmong b first count → IsTrue (not (is_for_resource (block_at t b).kind))

pub record FitsVersion1 (t : Tables) : Type 0 where
  -- no two tasks share a priority
  pub priorities : IsDistinct nat_eq (map (λ (x : Task). x.priority) t.tasks)
  -- each task takes one activation at a time
  pub activations : All (λ (x : Task). x.activation ≡ 1) t.tasks
  -- no resource is INTERNAL, and no task names one
  pub properties : All (λ (x : Resource). IsTrue (not x.internal)) t.resources
  pub internals : All (λ (x : Task). NamesNone x.internal) t.tasks
  -- the ISRs have one priority, and take no resource; none is kept out by one
  pub isr_priorities : All (λ (x : Isr). x.priority ≡ 0) t.isrs
  pub isr_resources : All (λ (x : Isr). TakesNone t x.first.0 x.count) t.isrs
  pub interrupt_ceilings : All (λ (x : Resource). x.interrupt_ceiling ≡ 0) t.resources

pub NamesNone-prop : (o : Option ResNo) → IsProp (NamesNone o)
NamesNone-prop None = Unit-prop
NamesNone-prop (Some r) = hlevel props

pub FitsVersion1-prop : (t : Tables) → IsProp (FitsVersion1 t)
FitsVersion1-prop t = hlevel (props, IsDistinct-prop, NamesNone-prop)
