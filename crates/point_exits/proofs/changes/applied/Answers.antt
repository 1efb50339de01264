use Rattle.std.proofs.{Common.{length, refl, sym, subst, List, ◌∙◌, arith}, lemmas.Bool.{OnTrue_at, OnFalse_at}}
use Rattle.flow_model.specs.declared.test.Condition.{Condition}
use Rattle.numbered_sets.specs.{declared.numbered_entry.NumberedEntry.{NumberedEntry}, NumberedEntries.{AreFilled}, Pools.{Values}}
use Rattle.numbered_sets.proofs.NumberingLaws.{longer_onward}
use Rattle.point_exits.specs.{Applying.{bare_rule}, Changing.{up_to, AreInOrder, AreAllPassed}, Sifting.{AreSifted, LeavesNone}}
use Rattle.point_exits.proofs.{NumbersPassing.{made_applies}, SiftedSets.{all_sifted, sifted_domains, taken_of_filled, none_taken}, ChangedSets.{stays_within, all_changes}}
use Rattle.point_exits.proofs.changes.applied.Goals as goal

pub returns-then-not-may_pass-clause-none : goal.returns-then-not-may_pass-clause-none
returns-then-not-may_pass-clause-none c =
    let rule = bare_rule c.args.conditions.now c.args.changes.now in
    let pool = c.args.pool.now in
    let none : LeavesNone pool rule.conditions c.args.entry.now =
    subst (λ (xs : List Condition). LeavesNone pool xs c.args.entry.now) c.as_slice.ensures (OnFalse_at c.if-not-may_pass.true c.may_pass.ensures) in
    none_taken pool rule c.args.entry.now none

pub sift-requires-clause-filled : goal.sift-requires-clause-filled
sift-requires-clause-filled c = subst AreFilled (sym c.in_ok-made.ensures) c.requires.filled

pub returns-then-not-branch-clause-none : goal.returns-then-not-branch-clause-none
returns-then-not-branch-clause-none c =
    let rule = bare_rule c.args.conditions.now c.args.changes.now in
    let pool = c.args.pool.now in
    let none : LeavesNone pool rule.conditions c.args.entry.now =
    subst (λ (xs : List Condition). LeavesNone pool xs c.args.entry.now) c.as_slice-2.ensures
    (subst (LeavesNone pool c.as_slice-2.result.now) c.in_ok-made.ensures (OnFalse_at c.if-not-branch.true c.in_ok-sift.ensures.none)) in
    none_taken pool rule c.args.entry.now none

pub loop-place-init : goal.loop-place-init
loop-place-init c =
    let rule = bare_rule c.args.conditions.now c.args.changes.now in
    let pool = c.args.pool.now in
    let entry = c.args.entry.now in
    let sifted : AreSifted pool rule.conditions entry c.sift.new.entry =
    subst (λ (xs : List Condition). AreSifted pool xs entry c.sift.new.entry) c.as_slice-2.ensures
    (subst (λ (e : NumberedEntry). AreSifted pool c.as_slice-2.result.now e c.sift.new.entry) c.in_ok-made.ensures (OnTrue_at c.if-not-branch.false c.in_ok-sift.ensures.sifted)) in (
      subst (λ (after : List Values). AreAllPassed (up_to rule 0) pool entry (length entry.sets) after c.sift.new.entry.sets) (sym c.sift.ensures.same) (all_sifted pool rule entry c.sift.new.entry c.requires.numbers sifted),
      sifted_domains pool rule.conditions entry c.sift.new.entry sifted,
    )

pub loop-place-preserved : goal.loop-place-preserved
loop-place-preserved c = (
  c.in_ok-make.ensures.passed c.args.conditions.now c.args.pool.now c.args.entry.now c.loop-place.invariant.0,
  c.in_ok-make.ensures.alike ∙ c.loop-place.invariant.1,
)

pub invariant_of-placed : goal.invariant_of-placed
invariant_of-placed c = record {
  known = omega (arith, c.loop-place-test.true, c.len-place-end.ensures);
  there = c.at.ensures.item;
  order = λ is. subst AreInOrder c.as_slice-3.ensures (OnTrue_at is c.are_in_order-in_order.ensures);
}

pub make-requires-clause-domain : goal.make-requires-clause-domain
make-requires-clause-domain c =
    let rule = bare_rule c.args.conditions.now c.args.changes.now in
    let pool = c.args.pool.now in
    let entry = c.args.entry.now in
    let sifted : AreSifted pool rule.conditions entry c.sift.new.entry =
    subst (λ (xs : List Condition). AreSifted pool xs entry c.sift.new.entry) c.as_slice-2.ensures
    (subst (λ (e : NumberedEntry). AreSifted pool c.as_slice-2.result.now e c.sift.new.entry) c.in_ok-made.ensures (OnTrue_at c.if-not-branch.false c.in_ok-sift.ensures.sifted)) in
    let passed : AreAllPassed (up_to rule c.loop-place.place) pool entry (length entry.sets) c.loop-place.pool c.loop-place.made.sets = c.loop-place.invariant.0 in
    let taken = taken_of_filled pool rule entry c.sift.new.entry c.requires.numbers sifted (OnTrue_at c.if-not-branch.false c.in_ok-sift.ensures.filled) in
    stays_within rule pool entry c.loop-place.place c.loop-place.pool c.loop-place.made c.requires.numbers (c.requires.kept.sets taken) passed

pub returns-clause-some : goal.returns-clause-some
returns-clause-some c =
    let rule = bare_rule c.args.conditions.now c.args.changes.now in
    let pool = c.args.pool.now in
    let entry = c.args.entry.now in
    let sifted : AreSifted pool rule.conditions entry c.sift.new.entry =
    subst (λ (xs : List Condition). AreSifted pool xs entry c.sift.new.entry) c.as_slice-2.ensures
    (subst (λ (e : NumberedEntry). AreSifted pool c.as_slice-2.result.now e c.sift.new.entry) c.in_ok-made.ensures (OnTrue_at c.if-not-branch.false c.in_ok-sift.ensures.sifted)) in
    let passed : AreAllPassed (up_to rule c.loop-place.place) pool entry (length entry.sets) c.loop-place.pool c.loop-place.made.sets = c.loop-place.invariant.0 in
    let taken = taken_of_filled pool rule entry c.sift.new.entry c.requires.numbers sifted (OnTrue_at c.if-not-branch.false c.in_ok-sift.ensures.filled) in
    let whole : AreAllPassed (λ k. rule) pool entry (length entry.sets) c.loop-place.pool c.loop-place.made.sets =
    all_changes rule c.loop-place.place pool entry (length entry.sets) c.loop-place.pool c.loop-place.made.sets (omega (arith, c.loop-place-test.false, c.len-place-end.ensures)) passed in
    made_applies rule pool entry (length entry.sets) c.loop-place.pool c.loop-place.made refl c.requires.numbers whole taken

pub returns-in_err-make-clause-pool : goal.returns-in_err-make-clause-pool
returns-in_err-make-clause-pool c =
    longer_onward c.args.pool.now c.loop-place.pool c.make.new.pool c.loop-place.invariant.0.longer c.make.ensures.pool
