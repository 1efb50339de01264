-- the state is the row's, and the row keeps it well-formed
use Rattle.std.proofs.Common.{◌≡◌, ℕ, ◌-◌, true, false, nat_lt, None, Some, List, length, take, refl, sym, ap, subst, rules}
use Rattle.osek_values.specs.declared.numbers.ResNo.{ResNo}
use Rattle.osek_values.specs.declared.status.Ask.TheVariants as ask
use Rattle.osek_values.specs.declared.status.Status.TheVariants as status
use Rattle.osek_standard.specs.{declared.{app.App.{App}, state.State.{State}}, Priority.{base_priority, ceiling}, States.{task_state}, TaskStates.{held}}
use Rattle.osek_standard.specs.{Services.{Answer, answer, is_on_top, release_resource, with_held}, Well.{Well}}
use Rattle.osek_standard.proofs.ResourceKeeps.{release_resource_keeps}
use Rattle.ceiling_rules.proofs.Stacks.{with_stack_of}
use Rattle.ceiling_rules.proofs.release_resource.Goals as goal

abbrev shorter : List ResNo → List ResNo
shorter l = take (length l - 1) l

releases : (app : App) (s : State) (t : ℕ) (r : ResNo) (u : State) → nat_lt (ceiling app r.0) (base_priority app t) ≡ false → is_on_top r.0 (held (task_state s t)) ≡ true
    → u ≡ with_held s t (shorter (held (task_state s t))) → release_resource app s t r ≡ answer u (Some status.Ok) None ask.Maybe
unfolding release_resource
releases app s t r u low top e = rw (low, top) (ap (λ (x : State). answer x (Some status.Ok) None ask.Maybe) (sym e))

keeps_order : (app : App) (s : State) (t : ℕ) (r : ResNo) → nat_lt (ceiling app r.0) (base_priority app t) ≡ false → is_on_top r.0 (held (task_state s t)) ≡ false
    → release_resource app s t r ≡ answer s (Some status.NoFunc) None ask.No
unfolding release_resource
keeps_order app s t r low top = rw (low, top) refl

pub returns-then-not-is_on_top-clause-row : goal.returns-then-not-is_on_top-clause-row
returns-then-not-is_on_top-clause-row c =
    let low : nat_lt (ceiling c.args.app.now c.args.resource.0) (base_priority c.args.app.now c.args.task.0) ≡ false = search rules in
    let top : is_on_top c.args.resource.0 (held (task_state c.args.state.now c.args.task.0)) ≡ false = search rules in
    keeps_order _ _ _ _ low top

pub returns-in-Live-clause-row : goal.returns-in-Live-clause-row
returns-in-Live-clause-row c =
    let low : nat_lt (ceiling c.args.app.now c.args.resource.0) (base_priority c.args.app.now c.args.task.0) ≡ false = search rules in
    let top : is_on_top c.args.resource.0 (held (task_state c.args.state.now c.args.task.0)) ≡ true = search rules in
    releases _ _ _ _ _ low top (with_stack_of _ _ _ _ _ shorter c.task_mut.ensures.value c.in-Live.is assumption)

pub returns-in-Live-clause-well : goal.returns-in-Live-clause-well
returns-in-Live-clause-well c =
    subst (Well c.args.app.now) (ap (λ (x : Answer). x.state) (returns-in-Live-clause-row c))
    (release_resource_keeps c.args.app.now c.args.state.now c.args.task.0 c.args.resource c.requires.well c.requires.known c.requires.live)
