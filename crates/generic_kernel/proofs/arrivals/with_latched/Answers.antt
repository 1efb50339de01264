-- the source is latched or not
use Rattle.std.proofs.Common.{◌+◌, Some, sym, subst, ◌∙◌}
use Rattle.osek_values.specs.declared.numbers.SourceNo.{SourceNo}
use Rattle.osek_standard.specs.States.{is_latched}
use Rattle.generic_kernel.specs.Nests.{IsFirstBelow}
use Rattle.generic_kernel.proofs.NestSteps.{found_below, passed_over, taken}
use Rattle.generic_kernel.proofs.arrivals.with_latched.Goals as goal

pub first_of-requires-clause-found : goal.first_of-requires-clause-found
first_of-requires-clause-found c = found_below c.args.app.now (is_latched c.args.state.now) c.args.next.0 c.args.found c.requires.found

pub returns-then-is_latched : goal.returns-then-is_latched
returns-then-is_latched c =
    let q = is_latched c.args.state.now in
    subst (λ (k : SourceNo). IsFirstBelow c.args.app.now q (c.args.next.0 + 1) (Some k)) (sym c.first_of.ensures) (taken c.args.app.now q c.args.next.0 c.args.found (sym c.is_latched.ensures ∙ c.if-is_latched.true) c.requires.found)

pub returns-else-is_latched : goal.returns-else-is_latched
returns-else-is_latched c =
    passed_over c.args.app.now (is_latched c.args.state.now) c.args.next.0 c.args.found (sym c.is_latched.ensures ∙ c.if-is_latched.false) c.requires.found
