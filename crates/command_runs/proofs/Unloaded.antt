-- Why an input stops a command, from why it isn't loaded.
use Rattle.std.proofs.Common.{◌≡◌, ◌<◌, ◌⊎◌, ℕ, List, length, refl, sym, subst, Vec, Global, Err}
use Rattle.std.specs.Result.{IsErrOf}
use Rattle.osek_io.specs.{declared.loading.LoadError.{LoadError, TheVariants.{Read, TooLong, Memory}}, Counts.{RoseSomewhere}, Files.{Holds, IsMissing}}
use Rattle.command_runs.specs.{Outside.{Told}, declared.stop.{Input.{Input}, Stop.{Stop}}}
use Rattle.command_runs.specs.Inputs.{limit_of, over_limit, unloaded, InputStops, unread, faulty, no_memory, NotLoaded}
use Rattle.command_runs.proofs.InputFiles.{of_longer, of_map}

module _ (before after : Told) (i : Input) (name : List ℕ) where
  -- what is known of the error
  pub record Cause (e : LoadError) : Type 0 where
    pub read : IsErrOf {T = Vec ℕ Global} (Err e) Read → RoseSomewhere (before.reads name) (after.reads name) ⊎ IsMissing before.files name
    pub too_long : IsErrOf {T = Vec ℕ Global} (Err e) TooLong → (bytes : List ℕ) → Holds before.files name bytes → limit_of i < length bytes
    pub missing : IsMissing before.files name → IsErrOf {T = Vec ℕ Global} (Err e) Read

  stops : (e : LoadError) → Cause e → NotLoaded before after i name (unloaded i e)
  stops Read h = unread (h.read refl)
  stops TooLong h = faulty tt (of_longer before.files name (limit_of i) _ (λ b over. over) (h.too_long refl) (λ m. let e = h.missing m in absurd (cc e)))
  stops Memory h = no_memory

  pub not_loaded : (e : LoadError) (s : Stop) → s ≡ unloaded i e → Cause e → NotLoaded before after i name s
  not_loaded e s is h = subst (NotLoaded before after i name) (sym is) (stops e h)

  -- what isn't loaded has the fault of what is too long
  pub too_long : {Fault : Type 0} (stop_at : Fault → Stop) (IsFirst : List ℕ → Fault → Type 0) (fault : Fault) → over_limit i ≡ stop_at fault → ((bytes : List ℕ) → limit_of i < length bytes → IsFirst bytes fault) →
      (s : Stop) → NotLoaded before after i name s → InputStops before after i name stop_at IsFirst s
  too_long stop_at IsFirst fault is over _ (unread h) = unread h
  too_long stop_at IsFirst fault is over _ (faulty u h) = subst (InputStops before after i name stop_at IsFirst) (sym is) (faulty fault (of_map before.files name _ _ over h))
  too_long stop_at IsFirst fault is over _ no_memory = no_memory
