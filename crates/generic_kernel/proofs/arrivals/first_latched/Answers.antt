-- the first of those that are latched
use Rattle.std.proofs.Common.{◌≡◌, ℕ, arith, length, subst}
use Rattle.osek_standard.specs.States.{is_latched}
use Rattle.generic_kernel.specs.Nests.{IsFirstBelow}
use Rattle.generic_kernel.proofs.NestSteps.{none_looked_at}
use Rattle.generic_kernel.proofs.arrivals.first_latched.Goals as goal

pub loop-index-init : goal.loop-index-init
loop-index-init c = none_looked_at c.args.app.now (is_latched c.args.state.now)

pub returns : goal.returns
returns c =
    let s = c.args.state.now in
    let all : c.loop-index.index ≡ length s.latched = omega (arith, c.loop-index-test.false, c.loop-index.auto.index-end, c.len-index-end.ensures) in
    subst (λ (n : ℕ). IsFirstBelow c.args.app.now (is_latched s) n c.loop-index.found) all c.loop-index.invariant
