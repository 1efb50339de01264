-- the lines of the seven kinds
use Rattle.std.proofs.Common.{◌≡◌, ℕ, List, ◌++◌, filter, sym, ap, ◌∙◌}
use Rattle.std.specs.Prelude.{codes}
use Rattle.oil_tree.specs.declared.tree.Object.{Object}
use Rattle.oil_model.specs.{declared.objects.Category.TheVariants.{Two}, Lines.{sooner, least}, Objects.{objects_of, has_scheduler, is_isr, is_other_mode, is_ordinary}}
use Rattle.oil_model.specs.Rules.{first_beyond, resource_limit}
use Rattle.oil_model.proofs.Leasts.{least_append}
use Rattle.oil_model.proofs.limits.beyond_limit.Goals as goal

least_seven : (a b c d e f g : List ℕ) → least (a ++ (b ++ (c ++ (d ++ (e ++ (f ++ g)))))) ≡ sooner (least a) (sooner (least b) (sooner (least c) (sooner (least d) (sooner (least e) (sooner (least f) (least g))))))
least_seven a b c d e f g =
    least_append a _ ∙ ap (sooner (least a)) (least_append b _ ∙ ap (sooner (least b)) (least_append c _ ∙ ap (sooner (least c)) (least_append d _ ∙ ap (sooner (least d)) (least_append e _ ∙ ap (sooner (least e)) (least_append f g)))))

pub returns : goal.returns
returns c =
    let objects : List Object = c.args.objects.now in
    let resources : List ℕ = first_beyond (resource_limit (has_scheduler objects)) (filter (is_ordinary (has_scheduler objects)) objects) in
    let scheduler = c.has_scheduler-scheduler.ensures in
    let limit : c.resource_limit.result ≡ resource_limit (has_scheduler objects) = c.resource_limit.ensures ∙ ap resource_limit scheduler in
    let resource : c.beyond-resource.result ≡ least resources = c.beyond-resource.ensures ∙ (λ i. least (first_beyond (limit i) (filter (is_ordinary (scheduler i)) objects))) in
    let behind_event = c.sooner.ensures ∙ (λ i. sooner (resource i) (c.beyond-mode.ensures i)) in
    let behind_alarm = c.sooner-behind_alarm.ensures ∙ (λ i. sooner (c.beyond-event.ensures i) (behind_event i)) in
    let behind_counter = c.sooner-2.ensures ∙ (λ i. sooner (c.beyond-alarm.ensures i) (behind_alarm i)) in
    let behind_isr = c.sooner-3.ensures ∙ (λ i. sooner (c.beyond-counter.ensures i) (behind_counter i)) in
    let behind_task = c.sooner-4.ensures ∙ (λ i. sooner (c.beyond-isr.ensures i) (behind_isr i)) in
    c.sooner-5.ensures ∙ (λ i. sooner (c.beyond-task.ensures i) (behind_task i))
    ∙ sym (least_seven
    (first_beyond 16 (objects_of (codes "TASK") objects))
    (first_beyond 8 (filter (is_isr Two) objects))
    (first_beyond 8 (objects_of (codes "COUNTER") objects))
    (first_beyond 16 (objects_of (codes "ALARM") objects))
    (first_beyond 32 (objects_of (codes "EVENT") objects))
    resources
    (first_beyond 7 (filter is_other_mode objects)))
