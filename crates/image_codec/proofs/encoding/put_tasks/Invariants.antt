use Rattle.std.proofs.Common.{◌≡◌, ◌++◌, take}
use Rattle.std.specs.List.{flat_map}
use Rattle.image_codec.specs.Spelling.{task_bytes}
use Rattle.image_codec.proofs.encoding.put_tasks.Given as goal

abbrev pub invariant-loop-task : goal.invariant-loop-task
invariant-loop-task l = l.out.items ≡ l.fn.out.items ++ flat_map (task_bytes l.version) (take l.task-index l.tasks)
