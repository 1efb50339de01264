-- the row keeps the state well-formed
use Rattle.std.proofs.Common.{◌+◌, length, ap, subst, rules}
use Rattle.osek_standard.specs.{Services.{Answer, release_resource_isr}, Well.{Well}}
use Rattle.osek_standard.proofs.ResourceKeeps.{release_resource_isr_keeps}
use Rattle.ceiling_rules.proofs.Sources.{no_counter, source_known}
use Rattle.ceiling_rules.proofs.interrupts.release_resource_isr.Goals as goal

pub returns-in-In-clause-row : goal.returns-in-In-clause-row
unfolding release_resource_isr
returns-in-In-clause-row c = search rules

pub returns-in-In-clause-well : goal.returns-in-In-clause-well
returns-in-In-clause-well c =
    let app = c.args.app.now in
    let i = c.args.isr.0 in
    subst (Well app) (ap (λ (x : Answer). x.state) (returns-in-In-clause-row c))
    (release_resource_isr_keeps app c.args.state.now (length app.counters + i) c.args.resource c.requires.well (source_known app i c.requires.known) c.requires.began (no_counter app i))
