-- The answers of `show`, each with its cause and what it leaves.
use Rattle.std.specs.Prelude.{◌≡◌, ◌↔◌, ℕ, List, Contains, Result, Err}
use Rattle.osek_standard.specs.declared.{app.App.{App}, point.Point.{Point}}
use Rattle.abstract_state.specs.{declared.{table.PlainTable.{PlainTable}, edge.FlowEdge.{FlowEdge}}, Edges.{Edge}, Tables.{sets_of, value_count}}
use Rattle.dictated_forms.specs.Forms.{HasDictatedForms}
use Rattle.abstract_state.specs.Edges.{flow_edge}
use Rattle.global_cfg.specs.Edges.{AreAscending}
use Rattle.flow_text.specs.Texts.{show_text}
use Rattle.commands.specs.{Compiling.{OfApp, CompileStops}, Fitting.{IsLeastTable}}
use Rattle.command_runs.specs.Outside.{Outside}
use Rattle.commands.specs.Printing.{PrintAnswers}
use Rattle.command_runs.specs.declared.stop.Stop.{Stop}
use Rattle.commands.specs.declared.showing.Dictated.{Dictated}

-- these are the edges of the global control-flow graph, in order, none twice
pub record AreEdges (app : App) (table : PlainTable) (edges : List FlowEdge) : Type 0 where
  pub exact : (p q : Point) → Contains edges (flow_edge p q) ↔ Edge app (sets_of table) p q
  pub ascending : AreAscending edges

-- What the least table of an application dictates: the form of each call site, and the edges of the global control-flow
-- graph; with the number of its values.
pub record IsDictated (app : App) (x : Dictated) : Type 0 where
  pub table : PlainTable
  pub least : IsLeastTable app table
  pub is : x.image.app ≡ app
  pub forms : HasDictatedForms (sets_of table) x.image
  pub edges : AreEdges app table x.edges
  pub values : x.values ≡ value_count table

-- the text tells what the least table of the application dictates
pub record TellsLeast (app : App) (text : List ℕ) : Type 0 where
  pub dictated : Dictated
  pub is : IsDictated app dictated
  pub told : text ≡ show_text app dictated.image.sites dictated.edges dictated.values

-- `show` stops at the texts and prints nothing, or prints what the least table of their application dictates.
pub data ShowAnswers (before after : Outside) (oil code : List ℕ) : Result (Unit {0}) Stop → Type 0 where
  stops : (s : Stop) → CompileStops before.shelf after.shelf oil code s → after.out ≡ before.out → ShowAnswers before after oil code (Err s)
  tells : (r : Result (Unit {0}) Stop) → OfApp before.shelf.files oil code (λ app. (text : List ℕ) × TellsLeast app text × PrintAnswers before after text r) → ShowAnswers before after oil code r
