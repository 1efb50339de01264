-- one alarm more
use Rattle.std.proofs.{Common.{◌≡◌, ℕ, ◌+◌, List, [], ◌∷◌, ◌++◌, append_assoc, drop, eqb, true, false, sym, ap, ◌∙◌, arith}, lemmas.Bool.Decides.{nat_tests}}
use Rattle.osek_values.specs.Numbers.{alarm_no}
use Rattle.osek_standard.specs.declared.block.Kind.TheVariants as kind
use Rattle.osek_standard.proofs.DueAlarms.{due_from, due_here, due_later}
use Rattle.block_graph.specs.Blocks.{tick_block, expiries}
use Rattle.block_graph.proofs.ticks.lay_out_expiries.Goals as goal
use Rattle.block_graph.proofs.ticks.lay_out_expiries.Goals.{then-index-counter+in_ok-push, else-index-counter}

pub loop-i-preserved : goal.loop-i-preserved
loop-i-preserved c =
    let alarms = c.args.alarms.now in
    let x = c.index-alarms-i.result in
    let n = c.loop-i.number in
    let before = c.loop-i.blocks.items in
    let room = c.loop-i.invariant.room in
    let later : List ℕ = due_from (c.loop-i.i + 1) (drop (c.loop-i.i + 1) alarms) c.args.counter in
    let all = λ (due : List ℕ). before ++ expiries due n in
    elim c.if-index-counter.branch [
      | then-index-counter+in_ok-push w ↦
          let is : eqb x.counter.0 c.args.counter ≡ true = let e = sym c.index.ensures ∙ w.if-index-counter.true in grind (arith, nat_tests, e) in
          let tick : w.tick_block.result ≡ tick_block (kind.Expire (alarm_no c.loop-i.i)) (n + 1) = w.tick_block.ensures ∙ (λ i. tick_block (kind.Expire (alarm_no (w.alarm_no.ensures i))) (n + 1)) in
          let number = w.number-is in record {
            same =
                (λ i. (w.blocks-is i).items ++ expiries later (number i))
                ∙ (λ i. (w.in_ok-push.ensures.items ∙ (λ j. before ++ tick j ∷ [])) i ++ expiries later (n + 1))
                ∙ append_assoc before (tick_block (kind.Expire (alarm_no c.loop-i.i)) (n + 1) ∷ []) (expiries later (n + 1))
                ∙ sym (ap all (due_here alarms c.loop-i.i c.args.counter x x c.loop-i-test.true (sym c.index-alarms-i.is) is))
                ∙ c.loop-i.invariant.same;
            room = omega (arith, number, room);
          }
      | else-index-counter w ↦
          let is : eqb x.counter.0 c.args.counter ≡ false = let e = c.index.ensures in let other = w.if-index-counter.false in grind (arith, nat_tests, e, other) in
          let number = w.number-is in record {
            same =
                (λ i. (w.blocks-is i).items ++ expiries later (number i))
                ∙ sym (ap all (due_later alarms c.loop-i.i c.args.counter x x c.loop-i-test.true (sym c.index-alarms-i.is) is))
                ∙ c.loop-i.invariant.same;
            room = omega (arith, number, room);
          }
    ]
