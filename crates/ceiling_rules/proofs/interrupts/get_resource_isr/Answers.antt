-- the stack has room, since its resources are distinct and the new one isn't among them; the row keeps the state well-formed
use Rattle.std.proofs.Common.{◌≡◌, ◌∙◌, ℕ, ◌+◌, ◌<◌, length, false, List, sym, ap, subst, rules}
use Rattle.osek_values.specs.declared.{limits.TheConstants.{MAX_RESOURCES}, numbers.ResNo.{ResNo}}
use Rattle.osek_standard.specs.{States.{held_by_source, is_taken, source_state}, Services.{Answer, get_resource_isr}, Well.{Well}}
use Rattle.osek_standard.specs.declared.state.Source.TheVariants as source
use Rattle.osek_standard.proofs.{StackLaws.{room_at_routine}, SourceKeeps.{sources_right}, ResourceKeeps.{get_resource_isr_keeps}}
use Rattle.ceiling_rules.proofs.Sources.{no_counter, source_known}
use Rattle.ceiling_rules.proofs.interrupts.get_resource_isr.Goals as goal

pub push-requires : goal.push-requires
push-requires c =
    let app = c.args.app.now in
    let s = c.args.state.now in
    let k : ℕ = length app.counters + c.args.isr.0 in
    let w = c.requires.well in
    let free : is_taken s c.args.resource.0 ≡ false = sym c.is_taken.ensures ∙ c.if-is_taken.false in
    let room = room_at_routine app s w k c.args.resource (source_known app c.args.isr.0 c.requires.known) (c.requires.resource, c.requires.takable) free (sources_right app s w k) in
    let here : source_state s k ≡ source.In c.in-In.standing = search rules in
    subst (λ (h : List ResNo). length h < MAX_RESOURCES) (ap held_by_source here) room

pub returns-in-In-clause-row : goal.returns-in-In-clause-row
unfolding get_resource_isr
returns-in-In-clause-row c = search rules

pub returns-in-In-clause-well : goal.returns-in-In-clause-well
returns-in-In-clause-well c =
    let app = c.args.app.now in
    let i = c.args.isr.0 in
    subst (Well app) (ap (λ (x : Answer). x.state) (returns-in-In-clause-row c))
    (get_resource_isr_keeps app c.args.state.now (length app.counters + i) c.args.resource c.requires.well (source_known app i c.requires.known) c.requires.began (no_counter app i)
    (c.requires.resource, c.requires.takable))
