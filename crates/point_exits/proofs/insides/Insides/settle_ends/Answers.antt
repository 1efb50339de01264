use Rattle.std.proofs.Common.{sym, subst}
use Rattle.std.specs.Prelude.{◌==◌}
use Rattle.std.proofs.lemmas.Result.{on_ok_weaker}
use Rattle.point_exits.specs.declared.group.Ends.{Ends}
use Rattle.point_exits.specs.declared.group.Ends.TheVariants as ends
use Rattle.point_exits.specs.Settling.{AreSettledEnds}
use Rattle.point_exits.proofs.SettlingSteps.{ends_at}
use Rattle.point_exits.proofs.insides.Insides.settle_ends.Goals as goal

pub returns-in-With : goal.returns-in-With
returns-in-With c =
    let t = c.args.self.now.task.0 in
    on_ok_weaker c.settle_each.result
    (λ each pool inside size. subst (λ (e : Ends). AreSettledEnds (λ k. k == t) pool e (ends.With c.settle_each.new.ends)) (sym c.in-With.is) (each pool inside size)) c.settle_each.ensures

pub returns-in-At : goal.returns-in-At
returns-in-At c = λ pool inside size. ends_at c.args.self.now.task.0 pool c.args.ends.now c.in-At.field-0 c.in-At.is
