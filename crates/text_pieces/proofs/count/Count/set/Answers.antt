-- one more differs in the last digit, which is there
use Rattle.std.proofs.Common.{◌≡◌, ◌+◌, ◌≤◌, length, arith, rules}
use Rattle.text_pieces.proofs.CountLaws.{some_digit, counted}
use Rattle.text_pieces.proofs.count.Count.set.Goals as goal

pub overflow_sub-self : goal.overflow_sub-self
overflow_sub-self c =
    let within : c.self.inside.size ≤ length c.self.inside.digits = search rules in
    some_digit c.self.inside.digits c.self.inside.size c.self.inside.number (omega (arith, c.ranges.number.fits, c.if-self-number.true, c.if-last_digit-gt0.true)) within c.self.invariant.1

pub invariant_of-self : goal.invariant_of-self
invariant_of-self c =
    let within : c.self.inside.size ≤ length c.self.inside.digits = search rules in
    let next : c.self.inside.number + 1 ≡ c.args.number = omega (arith, c.if-self-number.true, c.if-last_digit-gt0.true) in
    (c.self.invariant.0, counted c.self.inside.digits c.self.inside.size c.self.inside.number c.args.number c.ranges.number.fits next c.if-last_digit-gt0.true within c.self.invariant.1)
