use Rattle.std.proofs.Common.{◌∙◌, sym}
use Rattle.std.specs.Prelude.{codes}
use Rattle.oil_model.specs.{Lines.{sooner}, Rules.{repeated_names}}
use Rattle.oil_model.proofs.Leasts.{least_eight}
use Rattle.oil_model.proofs.object_rules.repeated_name.Goals as goal

pub returns : goal.returns
returns c =
    let e = c.sooner.ensures ∙ (λ i. sooner (c.in_ok-event.ensures i) (c.in_ok-resource.ensures i)) in
    let d = c.sooner-2.ensures ∙ (λ i. sooner (c.in_ok-alarm.ensures i) (e i)) in
    let f = c.sooner-behind_isr.ensures ∙ (λ i. sooner (c.in_ok-counter.ensures i) (d i)) in
    let g = c.sooner-3.ensures ∙ (λ i. sooner (c.in_ok-isr.ensures i) (f i)) in
    let h = c.sooner-4.ensures ∙ (λ i. sooner (c.in_ok-task.ensures i) (g i)) in
    let k = c.sooner-5.ensures ∙ (λ i. sooner (c.in_ok-mode.ensures i) (h i)) in
    let all = c.sooner-6.ensures ∙ (λ i. sooner (c.in_ok-os.ensures i) (k i)) in
    all ∙ sym (least_eight (repeated_names (codes "OS") c.args.objects.now) (repeated_names (codes "APPMODE") c.args.objects.now) (repeated_names (codes "TASK") c.args.objects.now) (repeated_names (codes "ISR") c.args.objects.now) (repeated_names (codes "COUNTER") c.args.objects.now) (repeated_names (codes "ALARM") c.args.objects.now) (repeated_names (codes "EVENT") c.args.objects.now) (repeated_names (codes "RESOURCE") c.args.objects.now))
