-- what was read is what the file holds
use Rattle.std.proofs.Common.{List, ℕ, subst, inl, refl, Err}
use Rattle.std.specs.declared.result.Result.{Result}
use Rattle.osek_values.specs.declared.refusal.Refusal.{Refusal}
use Rattle.oil_system.specs.declared.system.System.{System}
use Rattle.front_end.specs.Answers.{IsOilRefusal, IsOilAnswer}
use Rattle.osek_values.specs.{Answers.{IsRight}, declared.refused.Refused.{Refused as Refusing}}
use Rattle.front_end.specs.Texts.{DeclaresSystem}
use Rattle.command_runs.specs.{Outside.{told}, Inputs.{faulty, no_memory}, declared.stop.{Input.TheVariants.{Oil}, Stop.TheVariants.{Refused}}}
use Rattle.command_runs.proofs.{InputFiles.{of_bytes}, Unloaded.{too_long}}
use Rattle.commands.proofs.compiling.load_system.Goals as goal

pub returns-in-Ok-read_system-clause-system : goal.returns-in-Ok-read_system-clause-system
returns-in-Ok-read_system-clause-system g c =
    of_bytes _ _ (λ (b : List ℕ). DeclaresSystem b c.in-Ok-read_system.system) _ c.in-Ok.ensures.bytes
    (subst (λ (b : List ℕ). DeclaresSystem b c.in-Ok-read_system.system) c.deref.ensures.value c.in-Ok-read_system.ensures.right)

pub returns-in-Err-Fault-clause-stop : goal.returns-in-Err-Fault-clause-stop
returns-in-Err-Fault-clause-stop g c =
    faulty c.in-Err-Fault.refusal (of_bytes _ _ (λ (b : List ℕ). IsOilRefusal b c.in-Err-Fault.refusal) _ c.in-Ok.ensures.bytes
    (subst (λ (b : List ℕ). IsOilRefusal b c.in-Err-Fault.refusal) c.deref.ensures.value (subst (λ (e : Refusing Refusal). IsRight (λ (r : Result System Refusal). IsOilAnswer r c.deref.result.now) (Err e)) c.in-Err-Fault.field-0-is c.in-Err-Fault.ensures.right)))

pub returns-clause-stop : goal.returns-clause-stop
returns-clause-stop g c = no_memory

pub returns-in-Err-clause-stop : goal.returns-in-Err-clause-stop
returns-in-Err-clause-stop g c =
    too_long (told g.F.Shelf c.args.shelf.now) (told g.F.Shelf c.load_input.new.shelf) Oil c.args.oil.now Refused IsOilRefusal _ refl (λ b over. (refl, inl (over, refl))) c.in-Err.stop c.in-Err.ensures.stop
