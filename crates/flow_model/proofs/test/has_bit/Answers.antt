use Rattle.std.proofs.{Common.{◌≡◌, ◌∙◌, sym, arith, false, nat_lt}, lemmas.Bool.Decides.{nat_tests}}
use Rattle.flow_model.proofs.BitRange.{no_such_bit}
use Rattle.flow_model.proofs.test.has_bit.Goals as goal

pub returns-else-bit-lt64 : goal.returns-else-bit-lt64
returns-else-bit-lt64 c =
    let past = c.if-bit-lt64.false in
    let not_below : nat_lt c.args.bit 64 ≡ false = grind (arith, nat_tests) in
    not_below ∙ sym (no_such_bit c.args.bits c.args.bit c.ranges.bits.fits past)
