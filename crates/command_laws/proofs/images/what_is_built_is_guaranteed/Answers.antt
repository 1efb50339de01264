use Rattle.text_guarantees.proofs.TextLaws.{guarded}
use Rattle.command_laws.proofs.KernelImages.{fitted_is_guaranteed}
use Rattle.command_laws.proofs.images.what_is_built_is_guaranteed.Goals as goal

pub returns : goal.returns
returns c = record {
  states = λ oil code bytes built. fitted_is_guaranteed built.app built.image built.fitted;
  conditions = λ oil code bytes built. guarded oil code built.system built.app built.declares built.gives;
}
