-- the table is spelled by what the file holds
use Rattle.std.proofs.Common.{List, ℕ, inl, inr, refl, subst, ◌∙◌}
use Rattle.osek_values.specs.{Answers.{Refuses}, declared.refused.Refused.{Refused}}
use Rattle.table_codec.specs.{declared.fault.TableFault.{TableFault}, Faults.{IsFirstFault}}
use Rattle.command_runs.specs.{Inputs.{faulty, no_memory}, Outside.{told}, declared.stop.Input.TheVariants.{Table}}
use Rattle.command_runs.specs.declared.stop.Stop.TheVariants as stop
use Rattle.command_runs.proofs.{InputFiles.{of_bytes}, Unloaded.{too_long}}
use Rattle.commands.specs.Checking.{SpellTable, IsTableFileFault}
use Rattle.commands.proofs.checking.load_table.Goals as goal

pub returns-in-Ok-read_table-clause-table : goal.returns-in-Ok-read_table-clause-table
returns-in-Ok-read_table-clause-table g c =
    of_bytes _ _ (λ (b : List ℕ). SpellTable c.args.app.now b c.in-Ok-read_table.table) _ c.in-Ok.ensures.bytes
    (record { within = c.in-Ok.ensures.within; written = c.in-Ok-read_table.ensures.spellable.written; spelled = c.in-Ok-read_table.ensures.spelled ∙ c.deref.ensures.value })

pub returns-in-Ok-read_table-clause-written : goal.returns-in-Ok-read_table-clause-written
returns-in-Ok-read_table-clause-written g c = c.in-Ok-read_table.ensures.spellable.written

pub returns-in-Err-Fault-clause-stop : goal.returns-in-Err-Fault-clause-stop
returns-in-Err-Fault-clause-stop g c =
    faulty c.in-Err-Fault.fault (of_bytes _ _ (λ (b : List ℕ). IsTableFileFault c.args.app.now b c.in-Err-Fault.fault) _ c.in-Ok.ensures.bytes
    (inr (c.in-Ok.ensures.within, subst (λ (b : List ℕ). IsFirstFault c.args.app.now b c.in-Err-Fault.fault) c.deref.ensures.value (subst (λ (e : Refused TableFault). Refuses e (IsFirstFault c.args.app.now c.deref.result.now)) c.in-Err-Fault.field-0-is c.in-Err-Fault.ensures.first))))

pub returns-clause-stop : goal.returns-clause-stop
returns-clause-stop g c = no_memory

pub returns-in-Err-clause-stop : goal.returns-in-Err-clause-stop
returns-in-Err-clause-stop g c =
    too_long (told g.F.Shelf c.args.shelf.now) (told g.F.Shelf c.load_input.new.shelf) Table c.args.table.now stop.Table (IsTableFileFault c.args.app.now) _ refl (λ b over. inl (over, refl)) c.in-Err.stop c.in-Err.ensures.stop
