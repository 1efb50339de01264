-- a copy's activity and events
use Rattle.std.proofs.Common.{◌≡◌, refl}
use Rattle.osek_standard.proofs.task_state.TaskState.copy.Goals as goal
use Rattle.osek_standard.proofs.task_state.TaskState.copy.Goals.{in-Suspended, in-Live, in-Waiting}

pub returns : goal.returns
returns c =
    let same : c.match-self.activity ≡ c.args.self.now.activity = elim c.match-self.branch [ in-Suspended w ↦ cc | in-Live w ↦ cc | in-Waiting w ↦ cc ] in
    rw same refl
