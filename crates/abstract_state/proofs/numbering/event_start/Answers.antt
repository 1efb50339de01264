use Rattle.std.proofs.Common.{◌≡◌, ◌<◌, ◌^◌, ap, sym, subst, arith}
use Rattle.std.specs.Prelude.{count_ones}
use Rattle.osek_standard.specs.{declared.objects.Task.{Task}, Apps.{the_task, no_task}}
use Rattle.abstract_state.proofs.Numbers.{start_after}
use Rattle.abstract_state.proofs.numbering.event_start.Goals as goal

pub loop-below-preserved : goal.loop-below-preserved
loop-below-preserved c =
    let app = c.args.app.now in
    let same : the_task app c.loop-below.below ≡ c.at.result.now = c.at.ensures.item no_task in
    let own : count_ones (the_task app c.loop-below.below).own.0 ≡ count_ones c.at.result.now.own.0 = ap (λ (x : Task). count_ones x.own.0) same in
    let more = start_after app c.loop-below.below (subst (λ (x : Task). x.own.0 < 2 ^ 64) (sym same) c.size-start.ensures.mask) in
    record {
      value = omega (arith, own, more, c.size-start.ensures.value, c.loop-below.invariant.value);
      few = omega (arith, c.size-start.ensures.few, c.loop-below.invariant.few);
    }
