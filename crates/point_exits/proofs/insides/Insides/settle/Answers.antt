use Rattle.std.proofs.Common.{refl}
use Rattle.std.proofs.lemmas.Result.{on_ok_weaker}
use Rattle.numbered_sets.specs.Pools.{values_at}
use Rattle.point_exits.proofs.SettlingSteps.{entry_brought}
use Rattle.point_exits.proofs.insides.Insides.settle.Goals as goal

pub returns : goal.returns
returns c =
    let t = c.args.self.now.task.0 in
    let e = c.in_ok-settle_entry.ensures in
    on_ok_weaker c.settle_ends.result
    (λ ends pool inside size. record {
      decision = refl;
      status = refl;
      entry = entry_brought t pool c.args.group.now.entry c.settle_entry.new.entry c.requires e.rest (e.made (values_at pool t) inside size);
      ends = ends pool inside size;
    }) c.settle_ends.ensures
