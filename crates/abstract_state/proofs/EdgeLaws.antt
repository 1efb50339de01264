-- Where an edge begins and ends.
use Rattle.std.proofs.Common.{IsTrue, subst}
use Rattle.osek_standard.specs.declared.{app.App.{App}, point.Point.{Point}}
use Rattle.abstract_state.specs.{Tables.{Sets, Inductive}, Edges.{Edge}}

module _ (app : App) (table : Sets) (p q : Point) where
  pub edge_begins : Edge app table p q → IsTrue (table.entry p)
  edge_begins x = subst (λ (r : Point). IsTrue (table.entry r)) x.begins x.inside.entry

  pub edge_ends : Inductive app table → Edge app table p q → IsTrue (table.entry q)
  edge_ends h x = subst (λ (r : Point). IsTrue (table.entry r)) x.ends (h.step x.from x.event x.inside).entry
