use Rattle.std.proofs.Common.{◌++◌, ◌∷◌, [], ℕ, subst, ap, ◌∙◌}
use Rattle.std.specs.{Prelude.{IfSome}, declared.option.Option.{Option}}
use Rattle.osek_standard.specs.declared.point.Point.{Point}
use Rattle.numbered_sets.proofs.NumberingLaws.{longer_itself}
use Rattle.point_exits.specs.{declared.group.NumberEnd.{NumberEnd}, Applying.{IsAloneIn}, Leaving.{IsSetEnd}}
use Rattle.point_exits.proofs.ArrivingGroups.{end_alone}
use Rattle.point_exits.proofs.bare_rule.BareRule.push_end.Goals as goal

pub returns-clause-pool : goal.returns-clause-pool
returns-clause-pool c = longer_itself c.args.pool.now

pub returns-clause-added : goal.returns-clause-added
returns-clause-added c =
    let rule = c.args.self.now.rule.now in
    let pool = c.args.pool.now in
    let entry = c.args.self.now.entry.now in
    let end = c.in-Some.end in
    let its : IsSetEnd rule pool end = subst (λ (o : Option NumberEnd). IfSome o (IsSetEnd rule pool)) c.in-Some.is c.in_ok-end.ensures in
    let x = its.change in
    record {
      end = record { component = x.component.0; numbers = end.numbers; target = rule.target };
      added = c.in_ok-push.ensures.ok
          ∙ ap (λ (k : ℕ). c.args.shared.now ++ (record { component = k; numbers = end.numbers; target = end.target }) ∷ []) its.component
          ∙ ap (λ (p : Point). c.args.shared.now ++ (record { component = x.component.0; numbers = end.numbers; target = p }) ∷ []) its.target;
      is = end_alone rule c.args.self.now.bare pool entry c.requires.numbers c.args.self.now.filled x its.first (c.args.self.now.known x its.first) its.value its.sets end.numbers
          (subst (λ (k : ℕ). IsAloneIn pool k its.value end.numbers) its.component its.alone);
    }
