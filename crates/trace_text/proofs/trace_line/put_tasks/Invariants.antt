-- the text so far, and that of the rest, are the whole, and it is that of what is kept
use Rattle.std.proofs.Common.{◌≡◌, ℕ, ◌*◌, ◌<◌, ◌≤◌, ◌++◌, length, take, drop, get_or}
use Rattle.std.specs.List.{flat_map, enumerate_from, sum_by}
use Rattle.osek_standard.specs.TraceText.{task_text}
use Rattle.trace_text.specs.LineParts.{IsKept, kept_texts, not_shown, shown_before, shown_of, tasks_text}
use Rattle.trace_text.proofs.trace_line.put_tasks.Given as goal

abbrev pub invariant-loop-task : goal.invariant-loop-task
invariant-loop-task l = record {
  text : take l.at l.buf ++ flat_map (task_text l.app l.state) (enumerate_from l.task (drop l.task l.app.tasks)) ≡ tasks_text l.app l.state;
  most : l.at ≤ l.task * 634;
  count : length l.kept.items ≡ l.task;
  shown : (t : ℕ) → t < l.task → shown_before l.kept.items t ≡ shown_of l.state t;
  kept : (t : ℕ) → t < length l.kept.items → IsKept l.app t (get_or l.kept.items t not_shown);
  same : take l.at l.buf ≡ kept_texts l.app 0 l.kept.items;
  size : l.at ≡ sum_by (λ k. k.size) l.kept.items;
}
