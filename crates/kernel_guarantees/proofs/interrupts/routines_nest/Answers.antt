use Rattle.kernel_guarantees.proofs.{Nesting.{reached_is_nested}, RoutineAccess.{priorities_differ}}
use Rattle.kernel_guarantees.proofs.interrupts.routines_nest.Goals as goal

pub returns : goal.returns
returns c = record {
  priorities = λ app s k l reached. priorities_differ app s (reached_is_nested app s reached) k l;
  greatest = λ app s k over l reached. (reached_is_nested app s reached).greatest k over l;
  levels = λ app s k l reached. (reached_is_nested app s reached).apart k l;
  task = λ app s k reached. (reached_is_nested app s reached).task k;
}
