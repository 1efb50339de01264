use Rattle.std.proofs.Common.{◌<◌, ◌≤◌, ◌∙◌, length, refl, arith}
use Rattle.std.specs.Prelude.{◌==◌}
use Rattle.std.proofs.lemmas.List.{length-set}
use Rattle.point_exits.specs.declared.group.NumberEnd.{NumberEnd}
use Rattle.point_exits.proofs.SettlingSteps.{ends_begun, ends_ended, ends_next}
use Rattle.point_exits.proofs.insides.Insides.settle_each.Goals as goal

pub loop-place-init : goal.loop-place-init
loop-place-init c = record { size = refl; done = λ pool h size. ends_begun (λ k. k == c.args.self.now.task.0) pool c.args.ends.now }

pub loop-place-preserved : goal.loop-place-preserved
loop-place-preserved c =
    let t = c.args.self.now.task.0 in
    let inv = c.loop-place.invariant in
    let k = c.loop-place.place in
    let x = c.at_mut-end.result.now in
    let y : NumberEnd = c.settle_end.new.end in
    let lt : k < length c.args.ends.now = omega (arith, c.loop-place-test.true, c.len-place-end.ensures) in
    record {
      size = length-set c.loop-place.ends k y ∙ inv.size;
      done = λ pool h size. ends_next (λ n. n == t) pool c.args.ends.now k c.loop-place.ends x y lt c.at_mut-end.ensures.item (inv.done pool h size) (c.in_ok-settle_end.ensures pool h size);
    }

pub returns : goal.returns
returns c =
    let past : length c.args.ends.now ≤ c.loop-place.place = omega (arith, c.loop-place-test.false, c.len-place-end.ensures) in
    λ pool h size. ends_ended (λ k. k == c.args.self.now.task.0) pool c.args.ends.now c.loop-place.place c.loop-place.ends past (c.loop-place.invariant.done pool h size)
