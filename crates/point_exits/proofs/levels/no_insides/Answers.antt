use Rattle.std.proofs.Common.{◌≡◌, ◌<◌, ◌+◌, ◌∷◌, ◌++◌, [], ◌∙◌, true, ℕ, List, length, get_or, refl, sym, ap, subst, arith}
use Rattle.std.specs.Prelude.{is_some}
use Rattle.osek_standard.specs.{declared.objects.Task.{Task}, Internal.{internal_of}}
use Rattle.osek_values.specs.Numbers.{task_no}
use Rattle.point_exits.specs.{declared.insides.Insides.{Insides}, Levels.{AreNaming, inside_tasks}}
use Rattle.point_exits.proofs.InsideLevels.{none_named, named_skip, named_next, none_more, tasks_more}
use Rattle.point_exits.proofs.levels.no_insides.Goals as goal
use Rattle.point_exits.proofs.levels.no_insides.Goals.{then-is_some+in_ok-push, else-is_some}

pub loop-task-init : goal.loop-task-init
loop-task-init c = record {
  tasks = subst (λ (xs : List Insides). AreNaming c.args.app.now 0 (inside_tasks xs)) (sym c.new-insides.ensures) (none_named c.args.app.now);
  none = λ i d lt. absurd (omega (arith, lt, ap length c.new-insides.ensures));
}

pub loop-task-preserved : goal.loop-task-preserved
loop-task-preserved c =
    let app = c.args.app.now in
    let n = c.loop-task.task in
    let insides = c.loop-task.insides in
    let inv = c.loop-task.invariant in
    elim c.if-is_some.branch [
      | then-is_some+in_ok-push w ↦
          (let x : Insides = record { task = task_no n; numbers = w.new-numbers.result } in
          let now : c.if-is_some.insides ≡ insides ++ x ∷ [] = w.insides-is ∙ w.in_ok-push.ensures.ok in
          let number : x.task.0 ≡ n = refl in
          let named : is_some (internal_of app n) ≡ true = ap (λ (y : Task). is_some y.internal) c.task.ensures ∙ sym c.is_some.ensures ∙ w.if-is_some.true in
          record {
            tasks = subst (λ (xs : List Insides). AreNaming app (n + 1) (inside_tasks xs)) (sym now)
                (subst (AreNaming app (n + 1)) (sym (tasks_more insides x)) (named_next app n (inside_tasks insides) inv.tasks x.task number (ap (λ (k : ℕ). is_some (internal_of app k)) number ∙ named)));
            none = subst (λ (xs : List Insides). (i : ℕ) (d : Insides) → i < length xs → (get_or xs i d).numbers ≡ []) (sym now) (none_more insides x w.new-numbers.ensures inv.none);
          })
      | else-is_some w ↦
          (let named = ap (λ (y : Task). is_some y.internal) c.task.ensures ∙ sym c.is_some.ensures ∙ w.if-is_some.false in
          record {
            tasks = subst (λ (xs : List Insides). AreNaming app (n + 1) (inside_tasks xs)) (sym w.insides-is) (named_skip app n (inside_tasks insides) inv.tasks named);
            none = subst (λ (xs : List Insides). (i : ℕ) (d : Insides) → i < length xs → (get_or xs i d).numbers ≡ []) (sym w.insides-is) inv.none;
          })
    ]
