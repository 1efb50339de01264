use Rattle.global_cfg.proofs.EdgeLists.{of_all_rows}
use Rattle.global_cfg.proofs.graph.edges_with.Goals as goal

pub returns-clause-exact : goal.returns-clause-exact
returns-clause-exact c = of_all_rows c.args.app.now c.args.table.now c.fold_rows.new.made.edges c.requires.written c.in_ok-fold_rows.ensures
