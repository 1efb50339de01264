use Rattle.std.proofs.Common.{List, ◌++◌, ◌∷◌, [], map, sym, ◌∙◌, arith}
use Rattle.std.specs.Prelude.{codes, filter}
use Rattle.oil_tree.specs.declared.tree.Object.{Object}
use Rattle.oil_system.specs.declared.objects.Alarm.{Alarm}
use Rattle.oil_tree.specs.AttrLists.{attr_list}
use Rattle.oil_model.specs.{LookUp.{word}, Objects.{is_kind, objects_of, cycle_time, start}, Rules.{counter_of}}
use Rattle.oil_model.proofs.{Clean.{at_passing}, Facts.{IsInTime, maxima, times, maximum_named, cycle_small}}
use Rattle.oil_model.specs.Systems.{names_of, alarm}
use Rattle.oil_model.proofs.Collected.{collects, passes_over, collected}
use Rattle.oil_model.proofs.alarms.alarms.Goals as goal
use Rattle.oil_model.proofs.alarms.alarms.Goals.{then-is_kind+in_ok-alarm+in_ok-push, else-is_kind}

pub alarm-requires-clause-time : goal.alarm-requires-clause-time
alarm-requires-clause-time c =
    let in_time = at_passing (λ (o : Object). IsInTime (counter_of c.args.objects.now o) (attr_list o.attrs)) (is_kind (codes "ALARM")) c.args.objects.now c.loop-object.object-index c.object-item.result (times c.args.objects.now c.requires.inside) c.loop-object-test.true c.object-item.is (sym c.is_kind.ensures ∙ c.if-is_kind.true) in
    let max = maximum_named (word (codes "COUNTER") (attr_list c.object-item.result.attrs)) (objects_of (codes "COUNTER") c.args.objects.now) (maxima c.args.objects.now c.requires.allowed) in
    let time = in_time.time in
    omega (arith, time, max)

pub alarm-requires-clause-cycle : goal.alarm-requires-clause-cycle
alarm-requires-clause-cycle c =
    let in_time = at_passing (λ (o : Object). IsInTime (counter_of c.args.objects.now o) (attr_list o.attrs)) (is_kind (codes "ALARM")) c.args.objects.now c.loop-object.object-index c.object-item.result (times c.args.objects.now c.requires.inside) c.loop-object-test.true c.object-item.is (sym c.is_kind.ensures ∙ c.if-is_kind.true) in
    let max = maximum_named (word (codes "COUNTER") (attr_list c.object-item.result.attrs)) (objects_of (codes "COUNTER") c.args.objects.now) (maxima c.args.objects.now c.requires.allowed) in
    cycle_small (counter_of c.args.objects.now c.object-item.result) (cycle_time (start (attr_list c.object-item.result.attrs))) 4294967295 max in_time.cycle

pub loop-object-init : goal.loop-object-init
loop-object-init c = λ i. c.new-found.ensures.items i ++ map (alarm (names_of (codes "COUNTER") c.args.objects.now) (names_of (codes "TASK") c.args.objects.now) c.args.modes.now c.args.events.now) (filter (is_kind (codes "ALARM")) c.args.objects.now)

pub loop-object-preserved : goal.loop-object-preserved
loop-object-preserved c =
    let before : List Alarm = c.loop-object.found.items in
    elim c.if-is_kind.branch [
      | then-is_kind+in_ok-alarm+in_ok-push w ↦ collects (is_kind (codes "ALARM")) (alarm (names_of (codes "COUNTER") c.args.objects.now) (names_of (codes "TASK") c.args.objects.now) c.args.modes.now c.args.events.now) c.args.objects.now c.loop-object.object-index before c.loop-object.invariant c.object-item.result c.loop-object-test.true c.object-item.is (sym c.is_kind.ensures ∙ w.if-is_kind.true) ((λ i. (w.found-is i).items) ∙ w.in_ok-push.ensures.items ∙ (λ i. before ++ w.in_ok-alarm.ensures i ∷ []))
      | else-is_kind w ↦ passes_over (is_kind (codes "ALARM")) (alarm (names_of (codes "COUNTER") c.args.objects.now) (names_of (codes "TASK") c.args.objects.now) c.args.modes.now c.args.events.now) c.args.objects.now c.loop-object.object-index before c.loop-object.invariant c.object-item.result c.loop-object-test.true c.object-item.is (sym c.is_kind.ensures ∙ w.if-is_kind.false) (λ i. (w.found-is i).items)
    ]

pub returns : goal.returns
returns c = c.of.ensures ∙ collected (is_kind (codes "ALARM")) (alarm (names_of (codes "COUNTER") c.args.objects.now) (names_of (codes "TASK") c.args.objects.now) c.args.modes.now c.args.events.now) c.args.objects.now c.loop-object.object-index c.loop-object.found.items c.loop-object.invariant c.loop-object-test.false
