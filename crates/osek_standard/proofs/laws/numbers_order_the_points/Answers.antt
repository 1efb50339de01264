use Rattle.std.proofs.Common.{arith}
use Rattle.osek_standard.proofs.PointLaws.{after_halted, after_idle, by_block, one_number}
use Rattle.osek_standard.proofs.laws.numbers_order_the_points.Goals as goal

pub returns : goal.returns
returns c = record {
  one_each = one_number;
  halted_first = after_halted;
  idle_next = after_idle;
  by_block = by_block;
  over_none_first = λ b t. omega arith;
  by_task = λ b t u lt. omega (arith, lt);
}
