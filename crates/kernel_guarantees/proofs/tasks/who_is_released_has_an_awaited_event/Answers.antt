use Rattle.kernel_guarantees.proofs.{EventMoves.{step_follows}, Letters.{waits_beside}, Reaching.{reached_is_well}}
use Rattle.kernel_guarantees.proofs.tasks.who_is_released_has_an_awaited_event.Goals as goal

pub returns : goal.returns
returns c = λ app s e u b reached waits live.
    let well = reached_is_well app s reached in
    (step_follows app s u (waits_beside app s well u b waits) e well).released b waits live
