use Rattle.generated_texts.proofs.Faultless.{texts_have_no_fault}
use Rattle.generated_texts.proofs.generated_texts_have_no_fault.Goals as goal

pub returns : goal.returns
returns c = texts_have_no_fault
