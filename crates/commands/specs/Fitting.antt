-- The image of an application that is fitted to it by its least table of possible states.
use Rattle.std.specs.Prelude.{◌≡◌, ◌<◌, List, length}
use Rattle.osek_values.specs.declared.{event.Event.{Event}, numbers.ModeNo.{ModeNo}}
use Rattle.osek_standard.specs.declared.app.App.{App}
use Rattle.image_model.specs.{declared.image.{Image.{Image}, Version.TheVariants.{Two}}, Laws.{IsKernelsRun}}
use Rattle.image_codec.specs.Spelling.{spelling}
use Rattle.abstract_state.specs.{declared.table.PlainTable.{PlainTable}, Tables.{Sets, Least, sets_of}, Written.{IsWritten}}
use Rattle.table_rows.specs.BareExits.{AreKnownExits}
use Rattle.state_flow.specs.declared.least_table.Explored.{Explored}
use Rattle.dictated_forms.specs.Forms.{HasDictatedForms, HasDictatedStatuses}
use Rattle.command_runs.specs.Replaying.{SpellImage}

-- the least table of an application, as the analysis writes it
pub record IsLeastTable (app : App) (table : PlainTable) : Type 0 where
  pub written : IsWritten app table
  pub least : Least app (sets_of table)

-- it, with the exits of points that are known
pub record IsLeastExplored (app : App) (x : Explored) : Type 0 where
  pub least : IsLeastTable app x.table
  pub known : AreKnownExits app x.table.rows x.exits

-- An image that is the kernel of an application: in each of its modes, under every list of events, its trace is the
-- kernel's, without a trap. Its bytes are those that `replay` reads.
pub record IsKernelImage (app : App) (i : Image) : Type 0 where
  pub is : i.app ≡ app
  pub spelled : SpellImage (spelling i) i
  pub runs : (mode : ModeNo) (events : List Event) → mode.0 < length app.modes → IsKernelsRun i mode events

-- It is of version 2, and each call site has the form that the least table of the application dictates, and knows of the
-- status what that table says.
pub record HasLeastForms (app : App) (i : Image) : Type 0 where
  pub table : Sets
  pub least : Least app table
  pub forms : HasDictatedForms table i
  pub statuses : HasDictatedStatuses table i
  pub version : i.version ≡ Two

-- The image that `build` writes: it is the kernel, and each call site has what the least table dictates.
pub record IsFitted (app : App) (i : Image) : Type 0 where
  pub kernel : IsKernelImage app i
  pub forms : HasLeastForms app i
