use Rattle.std.proofs.Common.{ℕ, ◌∙◌, ◌+◌, ◌<◌, List, [], false, sym, subst, arith}
use Rattle.std.specs.{Prelude.{All, Contains}, List.{IsDistinct}}
use Rattle.std.proofs.{Math.Nat.{min-le_left}, lemmas.{Bool.{false≢true}, List.Elements.{All-nil}}}
use Rattle.osek_values.specs.{Numbers.{block_no}, declared.numbers.ResNo.{ResNo}}
use Rattle.osek_standard.specs.Well.{same_resource}
use Rattle.abstract_state.specs.declared.value.{Domain.{Domain}, PartValue.{PartValue, TheVariants.{OfTask}}, Val.TheVariants.{Live}}
use Rattle.abstract_state.specs.{Components.{live_val}, Domains.{IsWithin, resources_in}}
use Rattle.numbered_sets.specs.Pools.{IsLonger}
use Rattle.numbered_sets.proofs.{ViewLaws.{longer_with}, NumberingLaws.{longer_itself, longer_onward, as_long, same_domain}}
use Rattle.state_flow.proofs.least_table.number_free.Goals as goal

none_twice : IsDistinct same_resource []
unfolding IsDistinct
none_twice = tt

abbrev free_at : ℕ → List ResNo → PartValue
free_at block held = OfTask (Live (live_val (block_no block) 0 false held))

pub loop-block-init : goal.loop-block-init
loop-block-init c = longer_itself c.args.pool.now

pub number-requires-clause-known : goal.number-requires-clause-known
number-requires-clause-known c = omega (arith, c.requires, as_long c.args.pool.now c.loop-block.pool c.loop-block.invariant)

pub number-requires-clause-within : goal.number-requires-clause-within
number-requires-clause-within c =
    let least = min-le_left (c.in-Task.first.0 + c.in-Task.count) 65535 in
    let up : c.loop-block.block < c.in-Task.first.0 + c.in-Task.count = omega (arith, c.loop-block-test.true, c.saturating_add-block-end.ensures, least) in
    subst (λ (d : Domain). IsWithin d (free_at c.loop-block.block c.new.result))
    (sym (same_domain c.args.pool.now c.loop-block.pool c.args.component c.loop-block.invariant ∙ sym c.domain.ensures ∙ c.in-Task.is))
    (record {
      own = (c.loop-block.auto.block, up);
      further = omega (arith, c.if-activation-eq0.false);
      named = λ e. absurd (false≢true e);
      distinct = subst (IsDistinct same_resource) (sym c.new.ensures) none_twice;
      known = subst (All (λ (r : ResNo). Contains (resources_in c.in-Task.takable) r)) (sym c.new.ensures) (All-nil (λ (r : ResNo). Contains (resources_in c.in-Task.takable) r));
    })

pub loop-block-preserved : goal.loop-block-preserved
loop-block-preserved c =
    let pool = c.loop-block.pool in
    longer_onward c.args.pool.now pool c.number.new.self c.loop-block.invariant
    (subst (IsLonger pool) (sym c.in_ok-number.ensures.pool) (longer_with pool c.args.component (free_at c.loop-block.block c.new.result)
    (omega (arith, c.requires, as_long c.args.pool.now pool c.loop-block.invariant))))

pub returns : goal.returns
returns c = c.loop-block.invariant
