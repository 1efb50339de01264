use Rattle.oil_tree.proofs.ObjectsRead.{reads_object}
use Rattle.oil_tree.proofs.file.object.Goals as goal

pub returns : goal.returns
returns c = reads_object _ _ _ _ _ _ _ _ _ _ _ c.in_ok-kind.ensures c.in_ok-name.ensures c.in_ok-attrs.ensures c.in_ok-kind-2.ensures c.in_ok-name-2.ensures
