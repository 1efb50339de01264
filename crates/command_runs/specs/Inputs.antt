-- The inputs of a command: what is true of one of which a shelf may tell nothing, and why one stops the command.
use Rattle.std.specs.{Prelude.{◌≡◌, ◌<◌, ◌≤◌, ◌+◌, ◌⊎◌, ⊤, ℕ, List, ◌++◌, length, take, drop, Option, Some, None}, FinMap.{get}}
use Rattle.osek_values.specs.declared.{limits.TheConstants.{MAX_FILE, MAX_TABLE, MAX_EVENT_TEXT, MAX_RECORD}, refusal.LexRule.TheVariants.{L6}}
use Rattle.osek_values.specs.declared.refusal.Rule.TheVariants as rule
use Rattle.osek_values.specs.declared.refusal.TextFile.TheVariants as file
use Rattle.image_fields.specs.declared.fault.ImageRule.TheVariants.{I7}
use Rattle.trace_text.specs.declared.fault.{EventFault.TheVariants.{E4}, PointFault.TheVariants.{G4}}
use Rattle.table_codec.specs.declared.fault.TableRule.TheVariants.{K6}
use Rattle.osek_io.specs.{Counts.{RoseSomewhere}, Files.{Files, Holds, IsMissing}, declared.loading.LoadError.{LoadError}}
use Rattle.osek_io.specs.declared.loading.LoadError.TheVariants as load_error
use Rattle.command_runs.specs.{Outside.{Told}, declared.stop.{Input.{Input}, Stop.{Stop}}}
use Rattle.command_runs.specs.declared.stop.Input.TheVariants as input
use Rattle.command_runs.specs.declared.stop.Stop.TheVariants as stop

-- The file may hold these bytes: those that the shelf tells, and any where it tells nothing.
abbrev pub MayHold : Option Files → (name bytes : List ℕ) → Type 0
MayHold None name bytes = ⊤
MayHold (Some files) name bytes = get files name ≡ Some bytes

-- Of bytes that the file may hold P is true.
abbrev pub OfFile : Option Files → (name : List ℕ) → (List ℕ → Type 0) → Type 0
OfFile files name P = (bytes : List ℕ) × MayHold files name bytes × P bytes

-- n bytes of a file, behind those that were taken, came behind the bytes ahead: none only at the end or the limit
pub record ReadsOn (files : Option Files) (name : List ℕ) (taken : ℕ) (ahead ahead_after : List ℕ) (n : ℕ) : Type 0 where
  pub more : List ℕ
  pub count : n ≡ length more
  pub joins : ahead_after ≡ ahead ++ more
  pub within : taken + n ≤ MAX_EVENT_TEXT
  pub held : (bytes : List ℕ) → Holds files name bytes → more ≡ take n (drop taken bytes)
  pub ends : n ≡ 0 → taken < MAX_EVENT_TEXT → (bytes : List ℕ) → Holds files name bytes → length bytes ≤ taken

-- how many bytes an input has at most
abbrev pub limit_of : Input → ℕ
limit_of input.Oil = MAX_FILE
limit_of input.Code = MAX_FILE
limit_of input.Image = MAX_FILE
limit_of input.Table = MAX_TABLE
limit_of input.Events = MAX_EVENT_TEXT
limit_of input.Record = MAX_RECORD

-- why an input over its limit stops a command
abbrev pub over_limit : Input → Stop
over_limit input.Oil = stop.Refused (record { file = file.Oil; line = 0; rule = rule.Lex L6 })
over_limit input.Code = stop.Refused (record { file = file.Code; line = 0; rule = rule.Lex L6 })
over_limit input.Image = stop.Image (record { rule = I7; offset = MAX_FILE })
over_limit input.Table = stop.Table (record { rule = K6; offset = MAX_TABLE })
over_limit input.Events = stop.Events (record { line = 0; rule = E4 })
over_limit input.Record = stop.Record (record { line = 0; rule = G4 })

-- why an input that isn't loaded stops a command
abbrev pub unloaded : Input → LoadError → Stop
unloaded i load_error.Read = stop.Unread i
unloaded i load_error.TooLong = over_limit i
unloaded i load_error.Memory = stop.Memory

-- Why an input stops a command: a read of this very file failed, or the shelf tells that it isn't there; its bytes have a
-- first fault, at which the command stops as given; or memory ran out.
pub data InputStops {Fault : Type 0} (before after : Told) (i : Input) (name : List ℕ) (stop_at : Fault → Stop) (IsFirst : List ℕ → Fault → Type 0) : Stop → Type 0 where
  unread : RoseSomewhere (before.reads name) (after.reads name) ⊎ IsMissing before.files name → InputStops before after i name stop_at IsFirst (stop.Unread i)
  faulty : (fault : Fault) → OfFile before.files name (λ bytes. IsFirst bytes fault) → InputStops before after i name stop_at IsFirst (stop_at fault)
  no_memory : InputStops before after i name stop_at IsFirst stop.Memory

-- why an input isn't loaded: it has no other fault than its length
abbrev pub NotLoaded : (before after : Told) → Input → (name : List ℕ) → Stop → Type 0
NotLoaded before after i name = InputStops before after i name (λ (over : Unit {0}). over_limit i) (λ bytes over. limit_of i < length bytes)
