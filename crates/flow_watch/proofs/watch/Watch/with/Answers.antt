use Rattle.std.proofs.Common.{◌↔◌, List, IsTrue, refl, sym, subst}
use Rattle.std.specs.Prelude.{Contains}
use Rattle.osek_standard.specs.{declared.point.Point.{Point}, Points.{point_number}}
use Rattle.abstract_state.specs.Tables.{sets_of}
use Rattle.table_rows.specs.Order.{AscendBy}
use Rattle.flow_watch.proofs.{Entries.{in_order, are_entries}, QuietRuns.{quiet_run}}
use Rattle.flow_watch.proofs.watch.Watch.with.Goals as goal

pub returns-in_err-entries-clause-quiet : goal.returns-in_err-entries-clause-quiet
returns-in_err-entries-clause-quiet c = quiet_run c.args.app (sets_of c.args.table.now) c.requires.least.inductive

pub returns-in_err-edges-clause-quiet : goal.returns-in_err-edges-clause-quiet
returns-in_err-edges-clause-quiet c = quiet_run c.args.app (sets_of c.args.table.now) c.requires.least.inductive

pub returns-in_err-hints-clause-quiet : goal.returns-in_err-hints-clause-quiet
returns-in_err-hints-clause-quiet c = quiet_run c.args.app (sets_of c.args.table.now) c.requires.least.inductive

pub invariant_of-result : goal.invariant_of-result
invariant_of-result c = record {
  in_order = subst (AscendBy point_number) (sym c.in_ok-entries.ensures) (in_order c.args.app c.args.table.now c.requires.written);
  ascending = c.in_ok-edges.ensures.ascending;
}

pub returns-clause-watch : goal.returns-clause-watch
returns-clause-watch c =
    let table = c.args.table.now in
    record {
      of = refl;
      entries = λ p. subst (λ (points : List Point). Contains points p ↔ IsTrue ((sets_of table).entry p)) (sym c.in_ok-entries.ensures) (are_entries c.args.app table c.requires.written p);
      edges = c.in_ok-edges.ensures.exact;
      seen = refl;
      last = refl;
      alarm = refl;
    }

pub returns-clause-quiet : goal.returns-clause-quiet
returns-clause-quiet c = quiet_run c.args.app (sets_of c.args.table.now) c.requires.least.inductive
