-- once the caller ended there is room for the task that it chains
use Rattle.std.proofs.Common.{rules, ◌≡◌, ◌∙◌, false, refl, None, not, ◌&&◌, nat_eq, ap, sym, subst}
use Rattle.std.specs.Prelude.{ℕ}
use Rattle.osek_values.specs.declared.numbers.TaskNo.{TaskNo}
use Rattle.osek_values.specs.declared.status.Ask.TheVariants as ask
use Rattle.osek_standard.specs.Services.{chain_task, Answer, activate_task, activated, answer, ended, holds_some, is_full, left}
use Rattle.osek_standard.specs.{declared.{app.App.{App}, state.{State.{State}, Caller.TheVariants.{Task}}}, States.{caller}, Well.{Well}}
use Rattle.osek_standard.specs.declared.state.Processor.TheVariants as processor
use Rattle.osek_standard.proofs.{Callers.{IsAtProcessor, at_processor}, TaskServiceKeeps.{ended_keeps, room_to_chain}}
use Rattle.generic_kernel.proofs.services.chain_task.Goals as goal

activates : (app : App) (s : State) (t : ℕ) → is_full app s t ≡ false → (activate_task app s t).state ≡ activated app s t
unfolding activate_task
activates app s t e = rw e refl

chains : (app : App) (s : State) (c : TaskNo) (t : ℕ) (u : State) → holds_some s c.0 ≡ false → (not (nat_eq t c.0) && is_full app s t) ≡ false
    → activated app (left (ended app s c.0)) t ≡ u →
    chain_task app s (Task c) t ≡ answer u None None ask.Left
unfolding chain_task
chains app s c t u e f g = rw (e, f) (ap (λ (r : State). answer r None None ask.Left) g)

runs : (s : State) (t : TaskNo) → caller s.processor ≡ Task t → s.processor ≡ processor.Running t
runs s t e = subst (IsAtProcessor s) e (at_processor s)

pub activate-requires-clause-well : goal.activate-requires-clause-well
activate-requires-clause-well c =
    let s = c.args.state.now in
    subst (Well c.args.app.now) c.leave.ensures (ended_keeps c.args.app.now s c.in-Task.task c.requires.well (runs s c.in-Task.task (sym c.caller.ensures ∙ c.in-Task.is)))

pub returns : goal.returns
returns c =
    let app = c.args.app.now in
    let s = c.args.state.now in
    let t = c.in-Task.task in
    let calls : caller s.processor ≡ Task t = sym c.caller.ensures ∙ c.in-Task.is in
    let holds : holds_some s t.0 ≡ false = search rules in
    let open_to : (not (nat_eq c.args.to.0 t.0) && is_full app s c.args.to.0) ≡ false = search rules in
    let room = room_to_chain app s t c.args.to.0 c.requires.well (runs s t calls) open_to in
    let after = ap (λ (r : State). activated app r c.args.to.0) c.leave.ensures in
    let done = sym (activates app c.leave.new.state c.args.to.0 (subst (λ (r : State). is_full app r c.args.to.0 ≡ false) c.leave.ensures room))
    ∙ ap (λ (x : Answer). x.state) c.activate.ensures.row in
    rw calls (chains app s t c.args.to.0 _ holds open_to (after ∙ done))
