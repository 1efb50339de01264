use Rattle.std.proofs.Common.{◌∙◌, ap}
use Rattle.std.proofs.lemmas.Bool.{OnTrue_at}
use Rattle.abstract_state.specs.declared.value.Domain.{Domain}
use Rattle.numbered_sets.specs.{Numbers.{Numbers, numbers, with_number}, Pools.{values_at}}
use Rattle.point_exits.proofs.SetValues.{same_number}
use Rattle.point_exits.proofs.bare_rule.second_alone.Goals as goal

pub returns : goal.returns
returns c = record {
  number = 1;
  is = OnTrue_at c.if-not-is.false (same_number c.is.result (values_at c.args.pool.now c.args.component) c.value.result c.args.value.now 1 c.is.ensures c.value.ensures);
  only = c.in_ok-put.ensures.set ∙ ap (λ (x : Numbers). with_number x 1) (c.new-alone.ensures ∙ ap (λ (d : Domain). numbers d 0) c.domain.ensures);
}
