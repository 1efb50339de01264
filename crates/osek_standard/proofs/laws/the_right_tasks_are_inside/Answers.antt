use Rattle.osek_standard.proofs.InsideLaws.{instruction_inside, kept_is_same, start_inside, step_inside}
use Rattle.osek_standard.proofs.laws.the_right_tasks_are_inside.Goals as goal

pub returns : goal.returns
returns c = record {
  start = start_inside;
  instruction = instruction_inside;
  step = step_inside;
  kept = kept_is_same;
}
