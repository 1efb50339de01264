-- a caller that doesn't wait is where it was
use Rattle.std.proofs.Common.{◌≡◌, ◌∙◌, false, inl, inr, not, sym, ap, subst}
use denote.Enum.Bare.{sameb}
use Rattle.osek_values.specs.declared.status.Ask.{Ask}
use Rattle.osek_values.specs.declared.status.Ask.TheVariants as ask
use Rattle.osek_values.specs.contracts.status.Ask.{the_type}
use Rattle.osek_standard.specs.{declared.state.State.{State}, States.{caller}, Services.{Answer}, Well.{InOwner}}
use Rattle.generic_kernel.proofs.EffectLaws.{waits_or_stays}
use Rattle.generic_kernel.proofs.effects.wait_or_go.Goals as goal

pub go_to-requires-clause-own : goal.go_to-requires-clause-own
go_to-requires-clause-own c =
    let app = c.args.app.now in
    let s = c.args.state.now in
    let row = c.wait_event-status.ensures.row in
    elim (waits_or_stays app s (caller s.processor) c.args.mask.0) [
      | inl left ↦ (let asked : c.wait_event-status.result.1 ≡ ask.Left = sym (ap (λ (a : Answer). a.ask) row) ∙ left in
          let equal : c.ne.result ≡ false = subst (λ (a : Ask). c.ne.result ≡ not (sameb the_type a ask.Left)) asked c.ne.ensures in
          absurd (cc (equal, c.if-ne.true)))
      | inr same ↦ subst (λ (r : State). InOwner app r.processor c.args.next.0) (sym same ∙ ap (λ (a : Answer). a.state) row) c.requires.own
    ]
