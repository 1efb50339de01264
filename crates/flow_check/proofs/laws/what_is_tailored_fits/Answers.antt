use Rattle.std.proofs.Common.{inr}
use Rattle.flow_check.proofs.laws.what_is_tailored_fits.Goals as goal

pub returns : goal.returns
returns c = λ i table inductive forms statuses. (inductive, record { forms = λ b f e. inr (inr (forms b f e)); statuses = λ b k e. inr (inr (statuses b k e)) })
