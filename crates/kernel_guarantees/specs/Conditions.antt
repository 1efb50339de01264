-- What an application has where its ceilings and its locks are those that the standard asks for. Each application of texts has it (law
-- `texts_have_the_conditions`); one made by hand may not.
use Rattle.std.specs.Prelude.{◌≡◌, ℕ, ◌<◌, ◌≤◌, Bool, true, false, IfSome}
use Rattle.osek_values.specs.declared.numbers.ResNo.{ResNo}
use Rattle.osek_standard.specs.declared.{app.App.{App}, block.Kind.{Kind}, call.Call.TheVariants.{Lock}}
use Rattle.osek_standard.specs.declared.block.Kind.TheVariants as kind
use Rattle.osek_standard.specs.{Apps.{the_block}, Internal.{internal_of}, Levels.{interrupt_ceiling}, Priority.{base_priority, ceiling}}

-- a task that names an INTERNAL resource is at or under its ceiling
abbrev pub HasGroups : App → Type 0
HasGroups app = (t : ℕ) → IfSome (internal_of app t) (λ (r : ResNo). base_priority app t ≤ ceiling app r.0)

-- a resource of routines has a ceiling of at least each task
abbrev pub HasTops : App → Type 0
HasTops app = (r t : ℕ) → 0 < interrupt_ceiling app r → base_priority app t ≤ ceiling app r

-- the kinds of instruction that may stand between locks: no service is called but those that lock
abbrev pub is_quiet : Kind → Bool
is_quiet (kind.Work n) = true
is_quiet (kind.Choice o) = true
is_quiet kind.Loop = true
is_quiet (kind.Call (Lock l)) = true
is_quiet _ = false

-- no other service is called while interrupts are locked, and no body or routine ends so
abbrev pub HasQuietLocks : App → Type 0
HasQuietLocks app = (b : ℕ) → (the_block app b).locked ≡ true → is_quiet (the_block app b).kind ≡ true

-- all of it
pub record IsGuarded (app : App) : Type 0 where
  pub groups : HasGroups app
  pub tops : HasTops app
  pub quiet_locks : HasQuietLocks app
