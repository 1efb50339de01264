use Rattle.std.proofs.Common.{sym, ap, subst, ◌∙◌, ◌<◌, length, arith}
use Rattle.std.proofs.lemmas.Bool.{eqb-true}
use Rattle.osek_values.specs.Numbers.{block_no}
use Rattle.numbered_sets.specs.Numbers.{Numbers, with_number}
use Rattle.block_sets.specs.{declared.sets.{BlockSet.{BlockSet}, BlockSets.{BlockSets}}, AtBlocks.{AreBlockSets}}
use Rattle.block_sets.proofs.PutLaws.{put_there, put_last}
use Rattle.block_sets.proofs.sets.BlockSets.put.Goals as goal

pub returns-then-eq : goal.returns-then-eq
returns-then-eq c = λ vs v h is stands.
    let its = c.at_mut-set.result.now in
    let k = c.loop-place.place in
    let known : k < length c.loop-place.self.sets = omega (arith, c.loop-place-test.true, ap (λ (x : BlockSets). length x.sets) c.loop-place.invariant, c.len-place-end.ensures) in
    put_there vs v c.args.number is c.loop-place.self.sets k its c.put.new.self
    (subst (λ (x : BlockSets). AreBlockSets vs x.sets) (sym c.loop-place.invariant) h) known (c.at_mut-set.ensures.item its)
    (stands ∙ sym (ap (λ (x : BlockSet). x.block) (sym (c.at_mut-set.ensures.item its) ∙ c.at.ensures.item its) ∙ ap block_no (eqb-true c.at.result.now.block.0 c.args.block.0 (sym c.if-eq.ensures)))) c.in_ok-put.ensures.set

pub returns : goal.returns
returns c = λ vs v h is stands.
    put_last vs v c.args.number is c.loop-place.self.sets c.loop-place.self.domain c.args.block c.put-2.new.self c.push.new.self (subst (λ (x : BlockSets). AreBlockSets vs x.sets) (sym c.loop-place.invariant) h) stands
    (c.in_ok-put-2.ensures.set ∙ ap (λ (x : Numbers). with_number x c.args.number) c.new-numbers.ensures) c.in_ok-push.ensures.ok
