use Rattle.point_exits.proofs.WholeLaws.{asked_vacant, vacant_adds}
use Rattle.point_exits.proofs.after_effect.AfterEffect.push_vacant.Goals as goal

pub invariant_of-contest : goal.invariant_of-contest
invariant_of-contest c =
    let x = c.args.self.now in
    record { needed = c.in_ok-needs.ensures; asked = asked_vacant x.app.now x.pool.now x.after x.leaving.asked c.requires }

pub returns : goal.returns
returns c =
    let x = c.args.self.now in
    vacant_adds x.app.now x.pool.now x.leaving x.after c.requires c.args.groups.now.items c.push_nobody.new.groups.items c.push_winners.new.groups.items c.in_ok-push_nobody.ensures c.in_ok-push_winners.ensures
