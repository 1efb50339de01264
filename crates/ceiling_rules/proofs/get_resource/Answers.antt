-- the stack has room, since its resources are distinct and the new one is not among them; the state is the row's, and
-- the row keeps it well-formed
use Rattle.std.proofs.Common.{◌≡◌, ◌∙◌, ℕ, Bool, true, false, ◌||◌, nat_lt, None, Some, List, [], ◌∷◌, ◌++◌, refl, sym, ap, subst, rules}
use Rattle.osek_values.specs.declared.numbers.ResNo.{ResNo}
use Rattle.osek_values.specs.declared.status.Ask.TheVariants as ask
use Rattle.osek_values.specs.declared.status.Status.TheVariants as status
use Rattle.osek_standard.specs.{declared.{app.App.{App}, state.State.{State}}, Priority.{base_priority, ceiling}, States.{is_taken, task_state}, TaskStates.{held}}
use Rattle.osek_standard.specs.{Services.{Answer, answer, get_resource, with_held}, Well.{Well}}
use Rattle.osek_standard.proofs.{StackLaws.{room_at}, ResourceKeeps.{get_resource_keeps}}
use Rattle.ceiling_rules.proofs.Stacks.{with_stack_of}
use Rattle.ceiling_rules.proofs.get_resource.Goals as goal
use Rattle.ceiling_rules.proofs.get_resource.Goals.{then-is_taken-via-then-is_taken, then-is_taken-via-else-is_taken+then-ceiling-base_priority}

abbrev is_refused : App → State → ℕ → ResNo → Bool
is_refused app s t r = is_taken s r.0 || nat_lt (ceiling app r.0) (base_priority app t)

gets : (app : App) (s : State) (t : ℕ) (r : ResNo) (u : State) → is_refused app s t r ≡ false → u ≡ with_held s t (held (task_state s t) ++ r ∷ []) → get_resource app s t r ≡ answer u (Some status.Ok) None ask.No
unfolding get_resource
gets app s t r u free e = rw free (ap (λ (x : State). answer x (Some status.Ok) None ask.No) (sym e))

refuses : (app : App) (s : State) (t : ℕ) (r : ResNo) → is_refused app s t r ≡ true → get_resource app s t r ≡ answer s (Some status.Access) None ask.No
unfolding get_resource
refuses app s t r e = rw e refl

pub returns-then-is_taken-clause-row : goal.returns-then-is_taken-clause-row
returns-then-is_taken-clause-row c =
    let refused : is_refused c.args.app.now c.args.state.now c.args.task.0 c.args.resource ≡ true =
    elim c.then-is_taken.branch [ then-is_taken-via-then-is_taken w ↦ search rules | then-is_taken-via-else-is_taken+then-ceiling-base_priority w ↦ search rules ] in
    refuses _ _ _ _ refused

pub push-requires : goal.push-requires
push-requires c =
    room_at c.args.app.now c.args.state.now c.requires.well c.args.task.0 c.args.resource c.requires.known (c.requires.resource, c.requires.takable)
    (sym c.is_taken.ensures ∙ c.if-is_taken.false) _ c.task_mut.ensures.value _ c.in-Live.is

pub returns-in-Live-clause-row : goal.returns-in-Live-clause-row
returns-in-Live-clause-row c =
    let free : is_refused c.args.app.now c.args.state.now c.args.task.0 c.args.resource ≡ false = search rules in
    gets _ _ _ _ _ free (with_stack_of _ _ _ _ _ (λ (l : List ResNo). l ++ c.args.resource ∷ []) c.task_mut.ensures.value c.in-Live.is assumption)

pub returns-in-Live-clause-well : goal.returns-in-Live-clause-well
returns-in-Live-clause-well c =
    subst (Well c.args.app.now) (ap (λ (x : Answer). x.state) (returns-in-Live-clause-row c))
    (get_resource_keeps c.args.app.now c.args.state.now c.args.task.0 c.args.resource c.requires.well c.requires.known c.requires.live (c.requires.resource, c.requires.takable))
