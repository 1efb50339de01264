-- The image that is fitted has a table of which the findings of the least one are.
use Rattle.std.proofs.Common.{sym, subst, inr}
use Rattle.osek_standard.specs.declared.app.App.{App}
use Rattle.image_model.specs.declared.image.Image.{Image}
use Rattle.dictated_forms.specs.Forms.{Fits}
use Rattle.abstract_state.specs.Tables.{Sets, Inductive, sets_of}
use Rattle.abstract_state.proofs.ContainmentLaws.{one_least}
use Rattle.flow_report.specs.{declared.finding.Finding.{Finding}, Findings.{Holds}}
use Rattle.commands.specs.{Fitting.{IsFitted, IsLeastTable}}
use Rattle.abstract_state.specs.declared.table.PlainTable.{PlainTable}

module _ (app : App) (i : Image) (fitted : IsFitted app i) where
  abbrev its_table : Sets
  its_table = fitted.forms.table

  pub own_inductive : Inductive i.app its_table
  own_inductive = subst (λ (a : App). Inductive a its_table) (sym fitted.kernel.is) fitted.forms.least.inductive

  pub own_fits : Fits its_table i
  own_fits = record { forms = λ b x e. inr (inr (fitted.forms.forms b x e)); statuses = λ b k e. inr (inr (fitted.forms.statuses b k e)) }

  pub own_holds : (table : PlainTable) (f : Finding) → IsLeastTable app table → Holds app (sets_of table) f → Holds i.app its_table f
  own_holds table f least h =
      subst (λ (a : App). Holds a its_table f) (sym fitted.kernel.is)
      (subst (λ (t : Sets). Holds app t f) (one_least app (sets_of table) its_table least.least fitted.forms.least) h)
