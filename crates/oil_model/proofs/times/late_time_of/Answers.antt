use Rattle.std.proofs.Common.{◌≡◌, ℕ, List, ◌∙◌, ap}
use Rattle.std.specs.Prelude.{codes}
use Rattle.oil_model.specs.{LookUp.{word}, Objects.{attrs_named, objects_of, start}, Lines.{least}, Rules.{late_times_by, counter_of}}
use Rattle.oil_tree.specs.AttrLists.{attr_list}
use Rattle.oil_model.proofs.times.late_time_of.Goals as goal

pub returns : goal.returns
returns c =
    let attrs = c.as_slice-attrs.ensures.items in
    let name : c.word.result.now ≡ word (codes "COUNTER") (attr_list c.args.alarm.now.attrs) = c.word.ensures ∙ ap (word (codes "COUNTER")) attrs in
    let counter : c.attrs_named-counter.result.now ≡ counter_of c.args.objects.now c.args.alarm.now = c.attrs_named-counter.ensures ∙ ap (λ (n : List ℕ). attrs_named n (objects_of (codes "COUNTER") c.args.objects.now)) name in
    let begins : c.start.result.now ≡ start (attr_list c.args.alarm.now.attrs) = c.start.ensures ∙ ap start attrs in
    c.late_time_by.ensures ∙ (λ i. least (late_times_by (counter i) (c.line_at.ensures i) (begins i)))
