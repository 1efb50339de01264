use Rattle.point_exits.proofs.WholeLaws.{vacant_by}
use Rattle.point_exits.proofs.after_effect.AfterEffect.push_decided.Goals as goal

pub push_vacant-requires : goal.push_vacant-requires
push_vacant-requires c = vacant_by c.args.self.leaving.asked c.in-Left.is
