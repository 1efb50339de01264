use Rattle.block_graph.proofs.Numbered.{one_more}
use Rattle.block_graph.proofs.names.numbered.Goals as goal

pub loop-object-preserved : goal.loop-object-preserved
loop-object-preserved g c =
    one_more g.T.Named.name c.args.objects.now c.loop-object.object-index c.object-item.result c.loop-object-test.true c.object-item.is c.requires
    c.loop-object.names.keys c.insert.new.self.keys c.name.result c.name.ensures c.loop-object.invariant c.in_ok-insert.ensures.keys
