-- one more task is put behind those before it, and kept
use Rattle.std.proofs.Common.{below_more, ◌∷◌, [], ◌≡◌, ℕ, ◌+◌, ◌-◌, ◌<◌, ◌≤◌, List, ◌++◌, length, take, sym, ◌∙◌, ap, subst, arith, sum_by, length-append}
use Rattle.std.proofs.lemmas.{List.{get_or_append_left, get_or_push, length-take-le, length_push}, List.Sums.{sum_by_push}}
use Rattle.osek_standard.specs.{Apps.{the_task}, TraceText.{task_text}}
use Rattle.trace_text.specs.{declared.shown.KeptTask.{KeptTask}, LineParts.{IsKept, kept_texts, not_shown, shown_before}}
use Rattle.trace_text.proofs.KeptLaws.{size_of, AreKept, put_is, kept_push, push_texts, text_in, one_more}
use Rattle.trace_text.proofs.trace_line.put_tasks.Goals as goal

pub overflow_sub-end : goal.overflow_sub-end
overflow_sub-end c =
    let text = ap (λ (l : List ℕ). length l) c.put_task-end.ensures.text in
    let low : c.loop-task.at ≤ length c.loop-task.buf = omega arith in
    let high : c.put_task-end.result ≤ length c.put_task-end.new.buf = omega arith in
    let app = c.args.app.now in
    let old = take c.loop-task.at c.loop-task.buf in
    let more = task_text app c.args.state.now (c.loop-task.task, the_task app c.loop-task.task) in
    omega (arith, text, length-append old more, length-take-le c.loop-task.at c.loop-task.buf low, length-take-le c.put_task-end.result c.put_task-end.new.buf high)

pub loop-task-preserved : goal.loop-task-preserved
loop-task-preserved c =
    let inv = c.loop-task.invariant in
    let app = c.args.app.now in
    let s = c.args.state.now in
    let t = c.loop-task.task in
    let ks = c.loop-task.kept.items in
    let at = c.loop-task.at in
    let end = c.put_task-end.result in
    let old = c.loop-task.buf in
    let new = c.put_task-end.new.buf in
    let within : t < length app.tasks = omega arith in
    let y : KeptTask = record { shown = c.shown_of.result; size = end - at } in
    let text : take end new ≡ take at old ++ task_text app s (t, the_task app t) = c.put_task-end.ensures.text in
    let low : at ≤ length old = omega arith in
    let high : end ≤ length new = omega arith in
    let is : IsKept app t y = put_is app s t y old new at end c.shown_of.ensures (omega arith) low high text c.put_task-end.ensures.most in
    let same = ap (λ (l : List ℕ). length l) text in
    let count : length (take at old ++ task_text app s (t, the_task app t)) ≡ length (take at old) + length (task_text app s (t, the_task app t)) = length-append (take at old) (task_text app s (t, the_task app t)) in
    record {
      text = one_more app s t (take at old) (take end new) within text inv.text;
      most = omega (arith, c.put_task-end.ensures.most, inv.most);
      count = ap (λ (l : List KeptTask). length l) c.push.ensures.items ∙ length_push ks y ∙ ap (λ (n : ℕ). n + 1) inv.count;
      shown = below_more _ _
          (λ u low. ap (λ (l : List KeptTask). shown_before l u) c.push.ensures.items
          ∙ ap (λ (k : KeptTask). k.shown) (get_or_append_left ks (y ∷ []) not_shown u (omega (arith, low, inv.count))) ∙ inv.shown u low)
          (ap (λ (l : List KeptTask). shown_before l t) c.push.ensures.items ∙ ap (λ (k : KeptTask). k.shown) (get_or_push ks y not_shown t inv.count) ∙ c.shown_of.ensures);
      kept = subst (AreKept app) (sym c.push.ensures.items) (kept_push app ks y inv.kept (subst (λ (n : ℕ). IsKept app n y) (sym inv.count) is));
      same = text ∙ ap (λ (l : List ℕ). l ++ task_text app s (t, the_task app t)) inv.same
          ∙ ap (λ (l : List ℕ). kept_texts app 0 ks ++ l) (sym (text_in app s t y c.shown_of.ensures)) ∙ sym (push_texts app ks y t inv.count) ∙ ap (kept_texts app 0) (sym c.push.ensures.items);
      size = omega (arith, inv.size, same, count, length-take-le at old low, length-take-le end new high, sum_by_push size_of ks y, ap (λ (l : List KeptTask). sum_by size_of l) c.push.ensures.items);
    }

pub returns-clause-shown : goal.returns-clause-shown
returns-clause-shown c =
    let inv = c.loop-task.invariant in
    let end : length c.args.app.now.tasks ≡ c.loop-task.task = omega (arith, c.len-task-end.ensures) in
    record { count = inv.count ∙ sym end; each = λ t within. inv.shown t (omega (arith, within, end)) }
