use Rattle.std.proofs.Common.{ℕ, ◌+◌, ◌*◌, ◌≤◌, ◌∙◌, ap, arith}
use Rattle.osek_standard.proofs.CountLaws.{few_stacks, few_products, more_stacks}
use Rattle.osek_standard.proofs.counts.stacks.Goals as goal

found : (c : goal.In-loop-fewer) → c.loop-fewer.found ≤ 109601
found c = omega (arith, c.loop-fewer.invariant, few_stacks c.loop-fewer.fewer (omega (arith, c.loop-fewer.auto.fewer-end, c.requires)))

pub overflow_mul-found : goal.overflow_mul-found
overflow_mul-found c = omega (arith, few_products c.loop-fewer.fewer c.loop-fewer.found (omega (arith, c.loop-fewer-test.true, c.requires)) (found c))

pub overflow_add-found-in-loop-fewer : goal.overflow_add-found-in-loop-fewer
overflow_add-found-in-loop-fewer c = omega (arith, few_products c.loop-fewer.fewer c.loop-fewer.found (omega (arith, c.loop-fewer-test.true, c.requires)) (found c))

pub loop-fewer-preserved : goal.loop-fewer-preserved
loop-fewer-preserved c = ap (λ (n : ℕ). 1 + (c.loop-fewer.fewer + 1) * n) c.loop-fewer.invariant ∙ more_stacks c.loop-fewer.fewer

pub returns-clause-few : goal.returns-clause-few
returns-clause-few c = omega (arith, c.loop-fewer.invariant, few_stacks c.loop-fewer.fewer (omega (arith, c.loop-fewer.auto.fewer-end, c.requires)))
