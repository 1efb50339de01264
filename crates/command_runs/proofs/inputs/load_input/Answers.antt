-- what was loaded is what the file holds
use Rattle.std.proofs.Common.{◌≡◌, ◌≤◌, ◌<◌, ℕ, List, length, refl, subst}
use Rattle.osek_io.specs.{declared.loading.LoadError.TheVariants.{Read}, Files.{Holds}}
use Rattle.command_runs.specs.Outside.{told}
use Rattle.command_runs.proofs.{Results.{ok_is_no_error}, InputFiles.{of_loaded}, Unloaded.{not_loaded}}
use Rattle.command_runs.proofs.inputs.load_input.Goals as goal

pub returns-in-Ok-clause-bytes : goal.returns-in-Ok-clause-bytes
returns-in-Ok-clause-bytes g c =
    of_loaded _ _ (λ (b : List ℕ). b ≡ c.in-Ok.bytes.items) c.in-Ok.bytes.items c.in-Ok.ensures.bytes (λ m. ok_is_no_error c.in-Ok.bytes Read (c.in-Ok.ensures.missing m)) refl

pub returns-in-Ok-clause-within : goal.returns-in-Ok-clause-within
returns-in-Ok-clause-within g c = subst (λ (most : ℕ). length c.in-Ok.bytes.items ≤ most) c.limit_of.ensures c.in-Ok.ensures.within

pub returns-in-Err-clause-stop : goal.returns-in-Err-clause-stop
returns-in-Err-clause-stop g c =
    not_loaded (told g.F.Shelf c.args.shelf.now) (told g.F.Shelf c.load.new.shelf) c.args.input c.args.name.now c.in-Err.error c.unloaded.result c.unloaded.ensures
    (record {
      read = c.in-Err.ensures.read;
      too_long = λ e. subst (λ (most : ℕ). (bytes : List ℕ) → Holds (g.F.Shelf.contents c.args.shelf.now) c.args.name.now bytes → most < length bytes) c.limit_of.ensures (c.in-Err.ensures.too_long e).0;
      missing = c.in-Err.ensures.missing;
    })
