use Rattle.flow_report.proofs.NotedHooks.{rows_begun}
use Rattle.flow_report.proofs.noting.hooks_of_rows.Goals as goal

pub fold_rows-requires-clause-begun : goal.fold_rows-requires-clause-begun
fold_rows-requires-clause-begun c = rows_begun c.args.app.now c.none-hooks.result c.none-hooks.ensures
