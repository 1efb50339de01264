-- the image is spelled by what the file holds
use Rattle.std.proofs.Common.{◌≡◌, List, ℕ, Err, inl, inr, refl, subst, ◌∙◌}
use Rattle.osek_values.specs.declared.refused.Refused.{Refused}
use Rattle.image_codec.specs.{declared.fault.ImageFault.{ImageFault}, ImageReading.{read_image, AnswersParts}}
use Rattle.command_runs.specs.{Inputs.{faulty, no_memory}, Outside.{told}, Replaying.{SpellImage, IsImageFault}, declared.stop.Input.TheVariants.{Image}}
use Rattle.command_runs.specs.declared.stop.Stop.TheVariants as stop
use Rattle.command_runs.proofs.{InputFiles.{of_bytes}, Unloaded.{too_long}}
use Rattle.command_runs.proofs.replaying.load_image.Goals as goal

pub returns-in-Ok-decode-clause-image : goal.returns-in-Ok-decode-clause-image
returns-in-Ok-decode-clause-image g c =
    of_bytes _ _ (λ (b : List ℕ). SpellImage b c.in-Ok-decode.image) _ c.in-Ok.ensures.bytes
    (record { within = c.in-Ok.ensures.within; fits = c.in-Ok-decode.ensures.fits; spelled = c.in-Ok-decode.ensures.spelled ∙ c.deref.ensures.value })

pub returns-in-Err-Fault-clause-stop : goal.returns-in-Err-Fault-clause-stop
returns-in-Err-Fault-clause-stop g c =
    faulty c.in-Err-Fault.fault (of_bytes _ _ (λ (b : List ℕ). IsImageFault b c.in-Err-Fault.fault) _ c.in-Ok.ensures.bytes
    (inr (c.in-Ok.ensures.within, subst (λ (b : List ℕ). read_image b ≡ Err c.in-Err-Fault.fault) c.deref.ensures.value (subst (λ (e : Refused ImageFault). AnswersParts (Err e) (read_image c.deref.result.now)) c.in-Err-Fault.field-0-is c.in-Err-Fault.ensures.first))))

pub returns-clause-stop : goal.returns-clause-stop
returns-clause-stop g c = no_memory

pub returns-in-Err-clause-stop : goal.returns-in-Err-clause-stop
returns-in-Err-clause-stop g c =
    too_long (told g.F.Shelf c.args.shelf.now) (told g.F.Shelf c.load_input.new.shelf) Image c.args.image.now stop.Image IsImageFault _ refl (λ b over. inl (over, refl)) c.in-Err.stop c.in-Err.ensures.stop
