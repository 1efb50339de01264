-- the first of those that began
use Rattle.std.proofs.Common.{◌≡◌, ℕ, arith, sym, subst, length}
use Rattle.osek_standard.specs.States.{is_in, source_state}
use Rattle.generic_kernel.specs.Nests.{IsFirstBelow}
use Rattle.generic_kernel.proofs.NestSteps.{first_found, none_looked_at}
use Rattle.generic_kernel.proofs.nests.next_routine.Goals as goal

pub loop-index-init : goal.loop-index-init
loop-index-init c = none_looked_at c.args.app.now (λ k. is_in (source_state c.args.state.now k))

pub returns : goal.returns
returns c =
    let s = c.args.state.now in
    let all : c.loop-index.index ≡ length s.sources = omega (arith, c.loop-index-test.false, c.loop-index.auto.index-end, c.len-index-end.ensures) in
    sym (first_found c.args.app.now (λ k. is_in (source_state s k)) (length s.sources) c.loop-index.found
    (subst (λ (n : ℕ). IsFirstBelow c.args.app.now (λ k. is_in (source_state s k)) n c.loop-index.found) all c.loop-index.invariant))
