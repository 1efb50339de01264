use Rattle.std.proofs.Common.{◌≡◌, ℕ, ◌+◌, ◌<◌, ◌++◌, length, List, ◌∙◌, ap, drop, arith}
use Rattle.oil_system.specs.declared.objects.Alarm.{Alarm}
use Rattle.osek_standard.specs.Validity.{due_of}
use Rattle.block_graph.specs.Blocks.{routine, routine_size, routines}
use Rattle.block_graph.proofs.BlocksTicks.{ticks_laid_out}
use Rattle.block_graph.proofs.ticks.lay_out_routines.Goals as goal

pub loop-counter-preserved : goal.loop-counter-preserved
loop-counter-preserved c =
    let s = c.args.system.now in
    let k = c.loop-counter.counter in
    let n = c.loop-counter.number in
    let ends = c.len-counter-end.ensures in
    let before_end = c.loop-counter-test.true in
    let lt : k < length s.counters = omega (arith, ends, before_end) in
    let same_alarms = c.as_slice-alarms.ensures in
    let sized : c.routine_size-number.result ≡ routine_size (due_of s.alarms k) = c.routine_size-number.ensures.is ∙ ap (λ (xs : List Alarm). routine_size (due_of xs k)) same_alarms in
    let adds : c.lay_out_routine.new.blocks.items ≡ c.loop-counter.blocks.items ++ routine (due_of s.alarms k) n = c.in_ok-lay_out_routine.ensures ∙ ap (λ (xs : List Alarm). c.loop-counter.blocks.items ++ routine (due_of xs k) n) same_alarms in
    record {
      same = ap (λ (m : ℕ). c.lay_out_routine.new.blocks.items ++ routines s (drop (k + 1) s.counters) (k + 1) (n + m)) sized
          ∙ ticks_laid_out s k n lt c.loop-counter.blocks.items c.lay_out_routine.new.blocks.items _ c.loop-counter.invariant.same adds;
      room = let few = c.routine_size-number.ensures.few in let before = c.loop-counter.invariant.room in omega (arith, few, before);
    }
