use Rattle.std.proofs.Common.{set, sym, ap, subst, ◌∙◌}
use Rattle.flow_model.specs.declared.test.Test.TheVariants as test
use Rattle.numbered_sets.specs.{Passing.{IsSifted}, Numbers.{kept_numbers}, NumberedEntries.{numbers_at}}
use Rattle.numbered_sets.proofs.SiftLaws.{put_at, kept_by}
use Rattle.numbered_sets.proofs.seen_values.SeenValues.keep_value.Goals as goal

pub returns-clause-passing : goal.returns-clause-passing
returns-clause-passing c =
    let values = c.args.self.now.values in
    let was = numbers_at c.args.entry.now c.args.component in
    let alone = c.in_ok-alone.alone in
    subst (IsSifted values (test.Is c.args.value.now) was) (sym (put_at c.args.entry.now.sets c.keep.new.self.sets c.args.component (kept_numbers was alone) c.requires c.in_ok-keep.ensures.sets))
    (kept_by values (test.Is c.args.value.now) was alone c.in_ok-alone.ensures.each)

pub returns-clause-others : goal.returns-clause-others
returns-clause-others c =
    let made = kept_numbers (numbers_at c.args.entry.now c.args.component) c.in_ok-alone.alone in
    c.in_ok-keep.ensures.sets ∙ ap (set c.args.entry.now.sets c.args.component) (sym (put_at c.args.entry.now.sets c.keep.new.self.sets c.args.component made c.requires c.in_ok-keep.ensures.sets))
