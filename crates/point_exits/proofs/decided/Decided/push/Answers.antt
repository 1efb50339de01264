use Rattle.std.proofs.Common.{refl}
use Rattle.std.specs.Prelude.{Some}
use Rattle.point_exits.proofs.decided.Decided.push.Goals as goal

pub returns : goal.returns
returns c =
    let x = c.args.self in
    record {
      group = record { decision = Some x.decision; status = x.leaving.status; entry = x.left; ends = c.in_ok-ends.ends };
      added = c.in_ok-push.ensures.items;
      decision = refl;
      status = refl;
      numbers = refl;
      ends = c.in_ok-ends.ensures;
    }
