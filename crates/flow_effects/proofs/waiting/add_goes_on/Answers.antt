use Rattle.std.proofs.Common.{◌≡◌, ℕ, ◌∙◌, arith, List, [], ◌∷◌, ◌++◌, map, sym, ap}
use Rattle.osek_values.specs.Bits.{has_bit, bits_of}
use Rattle.osek_standard.specs.Apps.{the_task}
use Rattle.flow_model.specs.declared.case.EffectCase.{EffectCase}
use Rattle.flow_model.proofs.BitsOf.{bit_within}
use Rattle.flow_effects.specs.Waiting.{goes_on_by}
use Rattle.flow_services.proofs.ListLaws.{passed_after, failed_after}
use Rattle.flow_effects.proofs.ListLaws.{bits_by}
use Rattle.flow_effects.proofs.waiting.add_goes_on.Goals as goal
use Rattle.flow_effects.proofs.waiting.add_goes_on.Goals.{then-has+in_ok-goes_on_by+in_ok-push, else-has}

pub goes_on_by-requires-clause-own : goal.goes_on_by-requires-clause-own
goes_on_by-requires-clause-own c =
    bit_within c.args.mask.0 (the_task c.args.app.now c.args.task.0).own.0 c.loop-bit.bit (ap (λ (n : ℕ). has_bit n c.loop-bit.bit) (sym c.awaited-events.ensures) ∙ sym c.has.ensures ∙ c.if-has.true)

pub loop-bit-preserved : goal.loop-bit-preserved
loop-bit-preserved c = elim c.if-has.branch [
  | then-has+in_ok-goes_on_by+in_ok-push w ↦
      w.cases-is ∙ w.in_ok-push.ensures.ok ∙ ap (λ (x : EffectCase). c.loop-bit.cases ++ x ∷ []) w.in_ok-goes_on_by.ensures
      ∙ passed_after c.args.cases.now c.loop-bit.cases (has_bit c.awaited-events.result.0) (goes_on_by c.args.app.now c.args.task c.args.next) c.loop-bit.bit c.loop-bit.invariant (sym c.has.ensures ∙ w.if-has.true)
  | else-has w ↦
      w.cases-is ∙ failed_after c.args.cases.now c.loop-bit.cases (has_bit c.awaited-events.result.0) (goes_on_by c.args.app.now c.args.task c.args.next) c.loop-bit.bit c.loop-bit.invariant (sym c.has.ensures ∙ w.if-has.false)
]

pub returns : goal.returns
returns c =
    let last = c.loop-bit-test.false in
    let end : c.loop-bit.bit ≡ 64 = omega (arith, last, c.loop-bit.auto.bit-end) in
    c.loop-bit.invariant ∙ ap (λ (xs : List ℕ). c.args.cases.now ++ map (goes_on_by c.args.app.now c.args.task c.args.next) xs) (bits_by c.awaited-events.result.0 c.loop-bit.bit end ∙ ap bits_of c.awaited-events.ensures)
