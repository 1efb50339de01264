-- the source is in or out
use Rattle.std.proofs.Common.{◌≡◌, ℕ, ◌+◌, Bool, true, false, Some, sym, ap, subst, ◌∙◌}
use Rattle.osek_values.specs.declared.numbers.SourceNo.{SourceNo}
use Rattle.osek_standard.specs.States.{is_in, source_state}
use Rattle.osek_standard.specs.declared.state.Source.TheVariants as source
use Rattle.generic_kernel.specs.Nests.{IsFirstBelow}
use Rattle.generic_kernel.proofs.NestSteps.{found_below, passed_over, taken}
use Rattle.generic_kernel.proofs.nests.with_entered.Goals as goal

pub first_of-requires-clause-found : goal.first_of-requires-clause-found
first_of-requires-clause-found c = found_below c.args.app.now (λ k. is_in (source_state c.args.state.now k)) c.args.next.0 c.args.found c.requires.found

pub returns-in-Out : goal.returns-in-Out
returns-in-Out c =
    let q : ℕ → Bool = λ k. is_in (source_state c.args.state.now k) in
    let out : q c.args.next.0 ≡ false = ap q (sym c.index.ensures) ∙ ap is_in (c.at.ensures.item source.Out) ∙ ap is_in c.in-Out.is in
    passed_over c.args.app.now q c.args.next.0 c.args.found out c.requires.found

pub returns-in-In : goal.returns-in-In
returns-in-In c =
    let q : ℕ → Bool = λ k. is_in (source_state c.args.state.now k) in
    let began : q c.args.next.0 ≡ true = ap q (sym c.index.ensures) ∙ ap is_in (c.at.ensures.item source.Out) ∙ ap is_in c.in-In.is in
    subst (λ (k : SourceNo). IsFirstBelow c.args.app.now q (c.args.next.0 + 1) (Some k)) (sym c.first_of.ensures) (taken c.args.app.now q c.args.next.0 c.args.found began c.requires.found)
