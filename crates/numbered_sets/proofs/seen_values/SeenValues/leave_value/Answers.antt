use Rattle.std.proofs.Common.{not, set, sym, ap, subst, ◌∙◌}
use Rattle.flow_model.specs.declared.test.Test.TheVariants as test
use Rattle.numbered_sets.specs.{Passing.{IsSifted}, Numbers.{other_numbers}, NumberedEntries.{numbers_at}}
use Rattle.numbered_sets.proofs.SiftLaws.{put_at, left_by}
use Rattle.numbered_sets.proofs.seen_values.SeenValues.leave_value.Goals as goal

pub returns-clause-passing : goal.returns-clause-passing
returns-clause-passing c =
    let values = c.args.self.now.values in
    let was = numbers_at c.args.entry.now c.args.component in
    let alone = c.in_ok-alone.alone in
    subst (IsSifted values (test.IsNot c.args.value.now) was) (sym (put_at c.args.entry.now.sets c.leave_out.new.self.sets c.args.component (other_numbers was alone) c.requires c.in_ok-leave_out.ensures.sets))
    (left_by values (test.IsNot c.args.value.now) was alone (λ n d lt. ap not (c.in_ok-alone.ensures.each n d lt)))

pub returns-clause-others : goal.returns-clause-others
returns-clause-others c =
    let made = other_numbers (numbers_at c.args.entry.now c.args.component) c.in_ok-alone.alone in
    c.in_ok-leave_out.ensures.sets ∙ ap (set c.args.entry.now.sets c.args.component) (sym (put_at c.args.entry.now.sets c.leave_out.new.self.sets c.args.component made c.requires c.in_ok-leave_out.ensures.sets))
