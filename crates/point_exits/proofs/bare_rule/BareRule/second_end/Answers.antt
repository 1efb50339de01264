use Rattle.std.proofs.Common.{refl, subst, arith}
use Rattle.std.specs.{Prelude.{IfSome}, declared.option.Option.{Option}}
use Rattle.numbered_sets.specs.Numbers.{Numbers}
use Rattle.point_exits.specs.Applying.{IsAloneIn}
use Rattle.point_exits.proofs.{ArrivingGroups.{one_change}, BlockLaws.{pool_has}}
use Rattle.point_exits.proofs.bare_rule.BareRule.second_end.Goals as goal

pub at-change-requires : goal.at-change-requires
at-change-requires c = omega (arith, one_change c.args.self.now.rule.now c.args.self.now.bare)

pub second_alone-requires : goal.second_alone-requires
second_alone-requires c = (
    let x = c.at-change.result.now in
    pool_has c.args.pool.now c.args.self.now.entry.now x.component.0 c.index-component.result c.requires (c.args.self.now.known x (c.at-change.ensures.item x)) c.index-component.ensures)

pub returns : goal.returns
returns c =
    let x = c.at-change.result.now in
    record {
      change = x;
      first = c.at-change.ensures.item x;
      value = c.in-Set.to;
      sets = c.in-Set.is;
      component = c.index-component.ensures;
      target = refl;
      alone = subst (λ (o : Option Numbers). IfSome o (IsAloneIn c.args.pool.now c.index-component.result c.in-Set.to)) c.in-Some.is c.in_ok-numbers.ensures;
    }
