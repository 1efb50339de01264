-- the best of all tasks is the best, after one scan fewer than there are Live tasks
use Rattle.std.proofs.{Common.{◌≡◌, ℕ, ◌+◌, ◌≤◌, false, length, take, refl, sym, ap, arith, Some, None, inl, inr, IfNone, IfSome}, lemmas.Bool.{cases_Bool, cases_lt}}
use Rattle.std.proofs.lemmas.List.{take_all, Sums.{count_by_more_yes, count_by_more_no, count_by-le-length}}
use Rattle.std.specs.{List.{count_by}, declared.option.Option.{Option}}
use Rattle.osek_values.specs.declared.numbers.TaskNo.{TaskNo}
use Rattle.osek_standard.specs.{declared.{app.App.{App}, state.State.{State}}, TaskStates.{is_live, suspended}, States.{task_state}, Priority.{best, current_priority}}
use Rattle.osek_standard.specs.Well.{Well, HasProcessor}
use Rattle.osek_standard.proofs.PriorityLaws.{best_found, best_none, live_known, none_live}
use Rattle.generic_kernel.specs.{BestBelow.{IsBestBelow}, Levels.{count_of, level, level_if}}
use Rattle.generic_kernel.proofs.ready.Ready.best.Goals as goal

best_of_all : (app : App) (s : State) (n : ℕ) → length s.tasks ≤ n → (found : Option TaskNo) → IsBestBelow app s n found → found ≡ best app s
best_of_all app s n e None none = sym (best_none app s (λ u h. none u (omega (arith, h, e))))
best_of_all app s n e (Some t) b = sym (best_found app s t.0 (live_known s t.0 b.live) b.live (λ u h live. b.first u (omega (arith, h, e)) live))

none_of_all : (app : App) (s : State) (found : Option TaskNo) → found ≡ best app s → IfNone found ((t : ℕ) → is_live (task_state s t) ≡ false)
none_of_all app s None e = none_live app s (sym e)
none_of_all app s (Some t) e = tt

-- The best of the tasks can have the processor.
has_processor : (app : App) (s : State) (n : ℕ) → Well app s → (found : Option TaskNo) → IsBestBelow app s n found → IfSome found (HasProcessor app s)
has_processor app s n w None none = tt
has_processor app s n w (Some t) b = (omega (arith, live_known s t.0 b.live, w.tasks_len), b.live)

-- One task more is counted where it is Live.
count_more : (app : App) (s : State) (n : ℕ) → count_by is_live (take (n + 1) s.tasks) ≡ count_by is_live (take n s.tasks) + count_of (level app s n)
count_more app s n = elim (cases_Bool (is_live (task_state s n))) [
  | inl live ↦ omega (arith, count_by_more_yes is_live s.tasks n suspended (live_known s n live) live, ap (λ b. count_of (level_if b (current_priority app s n))) live)
  | inr dead ↦ elim (cases_lt n (length s.tasks)) [
    | inl lt ↦ omega (arith, count_by_more_no is_live s.tasks n suspended lt dead, ap (λ b. count_of (level_if b (current_priority app s n))) dead)
    | inr past ↦ omega (
      arith,
      ap (count_by is_live) (take_all n s.tasks past),
      ap (count_by is_live) (take_all (n + 1) s.tasks (omega (arith, past))),
      ap (λ b. count_of (level_if b (current_priority app s n))) dead,
    )
  ]
]

few_tasks : (app : App) (s : State) (n : ℕ) → Well app s → 16 ≤ n → length s.tasks ≤ n
few_tasks app s n w e = omega (arith, w.tasks_len, app.valid.few_tasks, e)

pub loop-task-init : goal.loop-task-init
loop-task-init g c = record { below = tt; has = tt; highest = λ app ready u h. absurd (omega (arith, h)); scans = λ app ready. refl }

pub loop-task-preserved : goal.loop-task-preserved
loop-task-preserved g c = record {
  below = c.higher-found.ensures.below;
  has = c.higher-found.ensures.has;
  highest = λ app ready. c.higher-found.ensures.highest app c.args.state.now ready (c.loop-task.invariant.highest app ready);
  scans = λ app ready. omega (
    arith,
    c.loop-task.invariant.scans app ready,
    c.higher-found.ensures.scans,
    ap count_of (ready c.loop-task.task),
    count_more app c.args.state.now c.loop-task.task,
  );
}

pub returns-clause-best : goal.returns-clause-best
returns-clause-best g c app w ready = let s = c.args.state.now in
    best_of_all app s c.loop-task.task (few_tasks app s c.loop-task.task w c.loop-task-test.false) c.chosen.result (c.chosen.ensures.best app c.loop-task.task ready (c.loop-task.invariant.highest app ready))

pub returns-clause-none : goal.returns-clause-none
returns-clause-none g c app w ready = let s = c.args.state.now in
    none_of_all app s c.chosen.result (best_of_all app s c.loop-task.task (few_tasks app s c.loop-task.task w c.loop-task-test.false) c.chosen.result
    (c.chosen.ensures.best app c.loop-task.task ready (c.loop-task.invariant.highest app ready)))

pub returns-clause-live : goal.returns-clause-live
returns-clause-live g c app w ready = let s = c.args.state.now in has_processor app s c.loop-task.task w c.chosen.result (c.chosen.ensures.best app c.loop-task.task ready (c.loop-task.invariant.highest app ready))

pub returns-clause-scans : goal.returns-clause-scans
returns-clause-scans g c app w ready = let s = c.args.state.now in
    omega (
      arith,
      c.loop-task.invariant.scans app ready,
      c.chosen.ensures.some,
      ap (count_by is_live) (take_all c.loop-task.task s.tasks (few_tasks app s c.loop-task.task w c.loop-task-test.false)),
    )

pub returns-clause-few : goal.returns-clause-few
returns-clause-few g c app w ready = let s = c.args.state.now in
    omega (
      arith,
      c.loop-task.invariant.scans app ready,
      c.chosen.ensures.some,
      ap (count_by is_live) (take_all c.loop-task.task s.tasks (few_tasks app s c.loop-task.task w c.loop-task-test.false)),
      count_by-le-length is_live s.tasks,
      w.tasks_len,
    )
