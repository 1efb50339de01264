-- the text of the task stands between those before it and those behind it
use Rattle.std.proofs.Common.{◌≡◌, ℕ, ◌≤◌, List, length, take, set, sum_by, sym, ◌∙◌, ap, arith, rules}
use Rattle.std.proofs.lemmas.List.{length-take-le}
use Rattle.trace_text.specs.{declared.shown.{Shown.{Shown}, KeptTask.{KeptTask}}}
use Rattle.trace_text.proofs.{KeptLaws.{size_of}, OpenedParts.{Opened, placed, order, total, total_few, anew}}
use Rattle.trace_text.proofs.line_parts.LineParts.put_anew.Goals as goal

pub put_part-end-requires-clause-order : goal.put_part-end-requires-clause-order
put_part-end-requires-clause-order c =
    let self = c.self.inside in
    let o : Opened c.args.app.now self.labels self.kept.items self.tasks self.size c.args.self.now c.args.task.0 c.place_of-at.result =
    record {
      is = c.self.view_is;
      parts = c.requires.parts;
      whole = c.requires.whole;
      known = c.requires.known;
      place = placed _ _ _ _ _ c.place_of-at.ensures c.as_slice.ensures.value c.index.ensures;
      all = c.self.invariant.1;
    } in
    order c.args.app.now self.labels self.kept.items self.tasks self.size c.args.self.now c.args.task.0 c.place_of-at.result o c.as_slice-2.result.now c.index-2.result
    c.index-as_slice-index.result c.as_slice-2.ensures.value c.index-2.ensures

pub put_part-end-requires-clause-room : goal.put_part-end-requires-clause-room
put_part-end-requires-clause-room c =
    let self = c.self.inside in
    let o : Opened c.args.app.now self.labels self.kept.items self.tasks self.size c.args.self.now c.args.task.0 c.place_of-at.result =
    record {
      is = c.self.view_is;
      parts = c.requires.parts;
      whole = c.requires.whole;
      known = c.requires.known;
      place = placed _ _ _ _ _ c.place_of-at.ensures c.as_slice.ensures.value c.index.ensures;
      all = c.self.invariant.1;
    } in
    let room : length c.put_task-size.new.buf ≡ 10224 = search rules in
    let most : c.put_task-size.result ≤ 634 = omega (arith, c.put_task-size.ensures.most) in
    let few = total_few c.args.app.now self.labels self.kept.items self.tasks self.size c.args.self.now c.args.task.0 c.place_of-at.result o c.as_slice-2.result.now
    c.index-2.result c.index-as_slice-index.result c.as_slice-2.ensures.value c.index-2.ensures
    c.args.state.now c.put_task-size.result self.spare c.put_task-size.new.buf (omega (arith, room, most)) most c.put_task-size.ensures.text in
    omega (arith, room, few)

pub put-self-inside-requires : goal.put-self-inside-requires
put-self-inside-requires c =
    let self = c.self.inside in
    let o : Opened c.args.app.now self.labels self.kept.items self.tasks self.size c.args.self.now c.args.task.0 c.place_of-at.result =
    record {
      is = c.self.view_is;
      parts = c.requires.parts;
      whole = c.requires.whole;
      known = c.requires.known;
      place = placed _ _ _ _ _ c.place_of-at.ensures c.as_slice.ensures.value c.index.ensures;
      all = c.self.invariant.1;
    } in
    let made : length c.put_task-size.new.buf ≡ 10224 = search rules in
    let room : length self.tasks ≡ 10224 = search rules in
    let joined : length c.put_part-end.new.buf ≡ 10224 = search rules in
    let most : c.put_task-size.result ≤ 634 = omega (arith, c.put_task-size.ensures.most) in
    let few = total_few c.args.app.now self.labels self.kept.items self.tasks self.size c.args.self.now c.args.task.0 c.place_of-at.result o c.as_slice-2.result.now
    c.index-2.result c.index-as_slice-index.result c.as_slice-2.ensures.value c.index-2.ensures
    c.args.state.now c.put_task-size.result self.spare c.put_task-size.new.buf (omega (arith, made, most)) most c.put_task-size.ensures.text in
    let count : length (take c.put_part-end.result c.put_part-end.new.buf) ≡ c.put_part-end.result = length-take-le c.put_part-end.result
    c.put_part-end.new.buf (omega (arith, few, joined, c.put_part-end.ensures.end)) in
    record { room = omega (arith, few, count, room, c.put_part-end.ensures.end) }

pub invariant_of-self : goal.invariant_of-self
invariant_of-self c =
    let self = c.self.inside in
    let o : Opened c.args.app.now self.labels self.kept.items self.tasks self.size c.args.self.now c.args.task.0 c.place_of-at.result =
    record {
      is = c.self.view_is;
      parts = c.requires.parts;
      whole = c.requires.whole;
      known = c.requires.known;
      place = placed _ _ _ _ _ c.place_of-at.ensures c.as_slice.ensures.value c.index.ensures;
      all = c.self.invariant.1;
    } in
    let made : length c.put_task-size.new.buf ≡ 10224 = search rules in
    let joined : length c.put_part-end.new.buf ≡ 10224 = search rules in
    let most : c.put_task-size.result ≤ 634 = omega (arith, c.put_task-size.ensures.most) in
    let few = total_few c.args.app.now self.labels self.kept.items self.tasks self.size c.args.self.now c.args.task.0 c.place_of-at.result o c.as_slice-2.result.now
    c.index-2.result c.index-as_slice-index.result c.as_slice-2.ensures.value c.index-2.ensures
    c.args.state.now c.put_task-size.result self.spare c.put_task-size.new.buf (omega (arith, made, most)) most c.put_task-size.ensures.text in
    let all = total c.args.app.now self.labels self.kept.items self.tasks self.size c.args.self.now c.args.task.0 c.place_of-at.result o c.as_slice-2.result.now
    c.index-2.result c.index-as_slice-index.result c.as_slice-2.ensures.value c.index-2.ensures
    c.args.state.now c.put_task-size.result self.spare c.put_task-size.new.buf (omega (arith, made, most)) most c.put_task-size.ensures.text in
    let count : length (take c.put_part-end.result c.put_part-end.new.buf) ≡ c.put_part-end.result = length-take-le c.put_part-end.result
    c.put_part-end.new.buf (omega (arith, few, joined, c.put_part-end.ensures.end)) in
    let kept = c.keep.ensures ∙ ap (λ (i : ℕ). set self.kept.items i (record { shown = c.shown_of.result; size = c.put_task-size.result })) c.index-3.ensures
    ∙ ap (λ (x : Shown). set self.kept.items c.args.task.0 (record { shown = x; size = c.put_task-size.result })) c.shown_of.ensures in
    let sum = all ∙ sym (ap (λ (ks : List KeptTask). sum_by size_of ks) kept) in (
      omega (arith, few, count, c.put_part-end.ensures.end, c.put-self-inside.ensures.end),
      omega (arith, sum, count, c.put_part-end.ensures.end, c.put-self-inside.ensures.end),
    )

pub returns-clause-parts : goal.returns-clause-parts
returns-clause-parts c =
    let self = c.self.inside in
    let o : Opened c.args.app.now self.labels self.kept.items self.tasks self.size c.args.self.now c.args.task.0 c.place_of-at.result =
    record {
      is = c.self.view_is;
      parts = c.requires.parts;
      whole = c.requires.whole;
      known = c.requires.known;
      place = placed _ _ _ _ _ c.place_of-at.ensures c.as_slice.ensures.value c.index.ensures;
      all = c.self.invariant.1;
    } in
    let made : length c.put_task-size.new.buf ≡ 10224 = search rules in
    let most : c.put_task-size.result ≤ 634 = omega (arith, c.put_task-size.ensures.most) in
    anew c.args.app.now self.labels self.kept.items self.tasks self.size c.args.self.now c.args.task.0 c.place_of-at.result o c.as_slice-2.result.now c.index-2.result
    c.index-as_slice-index.result c.as_slice-2.ensures.value c.index-2.ensures
    c.args.state.now c.put_task-size.result self.spare c.put_task-size.new.buf (omega (arith, made, most)) most c.put_task-size.ensures.text
    (record { shown = c.shown_of.result; size = c.put_task-size.result }) c.keep.new.kept.items c.index-3.result c.put_part-end.result
    c.put-self-inside.result c.put_part-end.new.buf c.put-self-inside.new.buf
    (ap (λ (x : Shown). record { shown = x; size = c.put_task-size.result }) c.shown_of.ensures) c.index-3.ensures c.keep.ensures
    c.put_part-end.ensures.text c.put-self-inside.ensures.text
