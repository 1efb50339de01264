-- What is said of an image and a table, by what is found of the starts, of the steps and of the sites.
use Rattle.std.proofs.Common.{◌≡◌, ◌<◌, List, length, refl, sym, subst, ◌∙◌}
use Rattle.std.specs.declared.option.Option.{Option}
use Rattle.osek_values.specs.{declared.{event.Event.{Event}, numbers.ModeNo.{ModeNo}}}
use Rattle.osek_standard.specs.{declared.point.Point.{Point}, Points.{point_of}}
use Rattle.image_model.specs.{declared.image.Image.{Image}, Laws.{IsKernelsRun}}
use Rattle.abstract_state.specs.{declared.table.{PlainTable.{PlainTable}}, Tables.{Inductive, sets_of}, Written.{IsWritten}}
use Rattle.dictated_forms.proofs.ImageLaws.{fitting_run}
use Rattle.numbered_sets.specs.{declared.table.NumberedRow.{NumberedRow}, Pools.{Values, IsLonger}, PlainTables.{plain_table, AreRowsFor}}
use Rattle.flow_check.specs.{declared.{found.Findings.{Findings}, verdict.Verdict.{Verdict}}, Outcomes.{AreFound}, Flows.{IsFlow}}
use Rattle.flow_check.specs.declared.flow.Flow.TheVariants as flow
use Rattle.flow_check.specs.declared.verdict.Verdict.TheVariants as verdict
use Rattle.flow_check.specs.Verdicts.{StartsIn, IsFirstStartOut, IsVerdict}
use Rattle.table_rows.{specs.Rows.{AreRowsFrom}, proofs.TableRows.{same_table}}

module _ (i : Image) (table : PlainTable) (written : IsWritten i.app table) (pool : List Values) (rows : List NumberedRow) (are : AreRowsFor table.rows pool rows) where
  table_is : plain_table pool rows ≡ table
  table_is = λ j. record { rows = are.same j }

  pub rows_from : AreRowsFrom i.app pool rows
  rows_from = record { known = are.known; written = subst (IsWritten i.app) (sym table_is) written }

  pub first_out : (m : ModeNo) → IsFirstStartOut i.app (sets_of (plain_table pool rows)) m → IsVerdict i (sets_of table) (verdict.N1 m)
  first_out m h = subst (λ (t : PlainTable). IsFirstStartOut i.app (sets_of t) m) table_is h

  module _ (starts : StartsIn i.app (sets_of (plain_table pool rows)) (length i.app.modes)) (after : List Values) (longer : IsLonger pool after) where
    its_starts : StartsIn i.app (sets_of table) (length i.app.modes)
    its_starts = subst (λ (t : PlainTable). StartsIn i.app (sets_of t) (length i.app.modes)) table_is starts

    then_is : plain_table after rows ≡ table
    then_is = same_table pool after rows longer are.known ∙ table_is

    pub left : (p : Point) → IsFlow i.app (plain_table after rows) (flow.Leaves p) → IsVerdict i (sets_of table) (verdict.N2 p)
    left p h = (let here = subst (λ (t : PlainTable). IsFlow i.app t (flow.Leaves p)) then_is h in record { starts = its_starts; before = here.0; leaves = here.1 })

    pub inductive : (sites : List (Option Findings)) → IsFlow i.app (plain_table after rows) (flow.Stays sites) → Inductive i.app (sets_of table)
    inductive sites h = (let here = subst (λ (t : PlainTable). IsFlow i.app t (flow.Stays sites)) then_is h in record { start = λ mode lt. its_starts mode lt; step = λ s e inside. here.0 (point_of s) s e inside refl })

    pub all_found : (sites : List (Option Findings)) → IsFlow i.app (plain_table after rows) (flow.Stays sites) → AreFound i.app table.rows sites
    all_found sites h = (subst (λ (t : PlainTable). IsFlow i.app t (flow.Stays sites)) then_is h).1

  -- with yes the image runs as the kernel
  pub kernel_by : (said : Verdict) → IsVerdict i (sets_of table) said → said ≡ verdict.Yes → (mode : ModeNo) (es : List Event) → mode.0 < length i.app.modes → IsKernelsRun i mode es
  kernel_by said h is mode es there = (let both = subst (IsVerdict i (sets_of table)) is h in fitting_run i (sets_of table) both.1 both.0 mode es there)
