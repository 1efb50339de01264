use Rattle.std.proofs.Common.{sym, subst}
use Rattle.std.specs.Prelude.{IfOk}
use Rattle.flow_model.specs.Tests.{updated}
use Rattle.flow_model.specs.declared.change.Update.{Update}
use Rattle.numbered_sets.specs.Made.{AreMade}
use Rattle.numbered_sets.proofs.seen_values.SeenValues.pass_seen.Goals as goal

pub returns-in-Block-clause-made : goal.returns-in-Block-clause-made
returns-in-Block-clause-made c =
    let vs = c.args.self.now.values in
    let old = c.args.numbers.now in
    subst (λ (u : Update). IfOk c.pass_at.result (λ n. AreMade (updated u) vs old c.args.from c.args.made.now → AreMade (updated u) vs old n c.pass_at.new.made)) (sym c.in-Block.is) c.pass_at.ensures.made

pub returns-in-Release-clause-made : goal.returns-in-Release-clause-made
returns-in-Release-clause-made c =
    let vs = c.args.self.now.values in
    let old = c.args.numbers.now in
    subst (λ (u : Update). IfOk c.pass_released.result (λ n. AreMade (updated u) vs old c.args.from c.args.made.now → AreMade (updated u) vs old n c.pass_released.new.made)) (sym c.in-Release.is) c.pass_released.ensures.made
