use Rattle.std.proofs.{Common.{◌≡◌, ◌∙◌, ◌<◌, ◌+◌, ℕ, eqb, drop, get_or, sym, ap, arith}, lemmas.Bool.{ne_eqb}}
use Rattle.osek_standard.specs.Validity.{due_of}
use Rattle.osek_standard.proofs.DueAlarms.{due_from}
use Rattle.image_fields.proofs.Due.{due_found, due_passed, due_missing}
use Rattle.image_fields.proofs.placing.is_alarm_at.Goals as goal

pub returns-then-is_here : goal.returns-then-is_here
returns-then-is_here c =
    ap (λ (n : ℕ). eqb n c.args.alarm)
    (due_found c.args.alarms.now c.loop-number.number c.args.counter c.loop-number.left (get_or (due_of c.args.alarms.now c.args.counter) c.args.place 256) c.index-alarms-number.result
    c.loop-number-test.true (sym c.is_here.ensures ∙ c.if-is_here.true) c.loop-number.invariant)

pub loop-number-preserved : goal.loop-number-preserved
loop-number-preserved c =
    ap (λ (k : ℕ). get_or (due_from (c.loop-number.number + 1) (drop (c.loop-number.number + 1) c.args.alarms.now) c.args.counter) k 256) c.left_after-left.ensures
    ∙ due_passed c.args.alarms.now c.loop-number.number c.args.counter c.loop-number.left (get_or (due_of c.args.alarms.now c.args.counter) c.args.place 256) c.index-alarms-number.result
    c.loop-number-test.true (sym c.is_here.ensures ∙ c.if-is_here.false) c.loop-number.invariant

pub returns : goal.returns
returns c =
    let missing : 256 ≡ get_or (due_of c.args.alarms.now c.args.counter) c.args.place 256 = due_missing c.args.alarms.now c.loop-number.number c.args.counter c.loop-number.left _ c.loop-number-test.false c.loop-number.invariant in
    let byte : c.args.alarm < 256 = omega (arith, c.ranges.alarm) in
    sym (ne_eqb 256 c.args.alarm (λ e. omega (arith, e, byte))) ∙ ap (λ (n : ℕ). eqb n c.args.alarm) missing
