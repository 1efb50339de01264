-- the line has room for an activation that is accepted, and the state after it is well-formed
use Rattle.std.proofs.Common.{◌≡◌, sym, ap, subst, ◌<◌, List, [], ◌∷◌, ◌++◌, length, ◌∙◌}
use Rattle.osek_values.specs.declared.{limits.TheConstants.{MAX_LINE}, numbers.TaskNo.{TaskNo}}
use Rattle.osek_standard.specs.{declared.state.State.{State}, Well.{Well}, Line.{last_in_line}}
use Rattle.osek_standard.proofs.{LineRoom.{room_to_activate}, ActivationKeeps.{activated_keeps}}
use Rattle.activation.proofs.activate.Goals as goal

pushed : (u r : State) (line : List TaskNo) (t : TaskNo) → u ≡ r → line ≡ u.line ++ t ∷ [] → record u { line = line } ≡ last_in_line r t.0
pushed u r line t e f = ap (λ (l : List TaskNo). record u { line = l }) f ∙ ap (λ (s : State). last_in_line s t.0) e

pub push_last-requires : goal.push_last-requires
push_last-requires c =
    subst (λ (l : List TaskNo). length l < MAX_LINE) (ap (λ (s : State). s.line) (sym c.begin_or_count.ensures))
    (room_to_activate c.args.app.now c.args.state.now c.requires.well c.args.task.0 c.requires.known (sym c.is_full.ensures ∙ c.if-is_full.false))

pub returns-clause-well : goal.returns-clause-well
returns-clause-well c =
    subst (Well c.args.app.now) (sym (pushed _ _ _ c.args.task c.begin_or_count.ensures c.push_last.ensures))
    (activated_keeps c.args.app.now c.args.state.now c.args.task.0 c.requires.well c.requires.known (sym c.is_full.ensures ∙ c.if-is_full.false))
