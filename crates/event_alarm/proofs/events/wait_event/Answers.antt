-- the caller waits where it has none of the events
use Rattle.std.proofs.Common.{◌≡◌, rules, true, sym, ◌∙◌, ap, subst}
use Rattle.std.specs.Prelude.{◌==◌}
use Rattle.osek_standard.specs.{Services.{wait_event, Answer}, declared.state.Caller.TheVariants.{Task}, States.{caller, here}, Well.{Well}}
use Rattle.osek_standard.proofs.{Callers.{at_processor, caller_owns}, EventKeeps.{wait_keeps}, MoveKeeps.{here_own}}
use Rattle.event_alarm.specs.Waiting.{StandsAtWaitEvent}
use Rattle.event_alarm.proofs.events.wait_event.Goals as goal

pub returns-clause-row : goal.returns-clause-row
unfolding wait_event
returns-clause-row c =
    let none : (c.and.result.0 == 0) ≡ true = sym c.if-not-is_empty.ensures in
    search rules

pub returns-clause-well : goal.returns-clause-well
returns-clause-well c =
    let app = c.args.app.now in
    let s = c.args.state.now in
    let k = caller s.processor in
    let w = c.requires.well in
    let calls : k ≡ Task c.in-Task.task = sym c.caller.ensures ∙ c.in-Task.is in
    let stands = subst (StandsAtWaitEvent app s) calls c.requires.stands in
    let owns = caller_owns app (here s).block.0 s.processor (here_own app s w c.requires.active) in
    subst (Well app) (ap (λ (x : Answer). x.state) (returns-clause-row c)) (wait_keeps app s k w (at_processor s) owns stands c.args.mask.0)
