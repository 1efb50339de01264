-- one more task
use Rattle.std.proofs.Common.{◌≡◌, ℕ, zero, suc, ◌+◌, ◌≤◌, Bool, true, false, List, [], ◌∷◌, ◌++◌, cond, length, map, length-append, refl, sym, ◌∙◌, ap, subst, arith}
use Rattle.std.specs.List.{filter, range_with_len}
use Rattle.osek_values.specs.{declared.numbers.TaskNo.{TaskNo}, Numbers.{task_no}, Bits.{has_bit}}
use Rattle.osek_standard.specs.Apps.{the_task}
use Rattle.generic_kernel.proofs.startup.started_line.Goals as goal

-- the numbers in a row that pass, as a line: one number more
row_by : (b : Bool) (a : ℕ) (f g x : List ℕ) → map task_no f ≡ map task_no g ++ map task_no x → map task_no (cond b (a ∷ f) f) ≡ map task_no (cond b (a ∷ g) g) ++ map task_no x
row_by true a f g x e = ap (λ (l : List TaskNo). task_no a ∷ l) e
row_by false a f g x e = e

row_more : (q : ℕ → Bool) (a n m : ℕ) → a + n ≡ m → map task_no (filter q (range_with_len a (n + 1))) ≡ map task_no (filter q (range_with_len a n)) ++ map task_no (cond (q m) (m ∷ []) [])
row_more q a zero m e = let same : a ≡ m = omega (arith, e) in subst (λ (k : ℕ). map task_no (filter q (range_with_len a 1)) ≡ map task_no (cond (q k) (k ∷ []) [])) same refl
row_more q a (suc n) m e =
    let next : suc (n + 1) ≡ suc n + 1 = omega arith in
    subst (λ (k : ℕ). map task_no (filter q (range_with_len a k)) ≡ map task_no (filter q (range_with_len a (suc n))) ++ map task_no (cond (q m) (m ∷ []) [])) next
    (row_by (q a) a (filter q (range_with_len (a + 1) (n + 1))) (filter q (range_with_len (a + 1) n)) (cond (q m) (m ∷ []) []) (row_more q (a + 1) n m (omega (arith, e))))

one_at_most : (b : Bool) (n : ℕ) → length (map task_no (cond b (n ∷ []) [])) ≤ 1
one_at_most true n = omega arith
one_at_most false n = omega arith

pub line_up-requires-clause-room : goal.line_up-requires-clause-room
line_up-requires-clause-room c = omega (arith, c.loop-task.invariant.few, c.loop-task-test.true, c.loop-task.auto.task-end, c.len-task-end.ensures, c.args.app.now.valid.few_tasks)

pub loop-task-preserved : goal.loop-task-preserved
loop-task-preserved c =
    let q : ℕ → Bool = λ t. has_bit (the_task c.args.app.now t).autostart c.args.mode.0 in
    let i = c.loop-task.task in
    let x = map task_no (cond (q i) (i ∷ []) []) in
    record {
      line = c.line_up.ensures ∙ ap (λ (l : List TaskNo). l ++ x) c.loop-task.invariant.line ∙ sym (row_more q 0 i i (omega arith));
      few = omega (arith, ap (λ (l : List TaskNo). length l) c.line_up.ensures, length-append c.loop-task.line x, one_at_most (q i) i, c.loop-task.invariant.few);
    }
