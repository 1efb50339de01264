use Rattle.std.proofs.Common.{◌≡◌, ◌<◌, ◌∙◌, List, length, map, Option, sym, ap, subst}
use Rattle.osek_values.specs.declared.{event.Event.{Event}, numbers.ModeNo.{ModeNo}}
use Rattle.image_model.specs.{declared.{image.Image.{Image}, site.Site.{Site}}, Laws.{IsKernelsRun}, Sites.{AreSites}}
use Rattle.abstract_state.specs.Tables.{Sets, Inductive, sets_of}
use Rattle.dictated_forms.specs.Forms.{HasDictatedForms, HasDictatedStatuses}
use Rattle.dictated_forms.proofs.ImageLaws.{runs_as_kernel, dictated_statuses as no_more_than_dictated}
use Rattle.flow_check.specs.declared.found.Findings.{Findings}
use Rattle.call_tailor.specs.Tailored.{site_of}
use Rattle.call_tailor.proofs.DictatedForms.{are_sites, dictated_forms, dictated_statuses}
use Rattle.call_tailor.proofs.tailoring.tailor_with.Goals as goal

runs : (i : Image) (table : Sets) (mode : ModeNo) (es : List Event) → Inductive i.app table → HasDictatedForms table i → HasDictatedStatuses table i → mode.0 < length i.app.modes → IsKernelsRun i mode es
runs i table mode es inductive forms statuses known = runs_as_kernel i table mode es inductive forms (no_more_than_dictated i table statuses) known

pub invariant_of-result-clause-valid : goal.invariant_of-result-clause-valid
invariant_of-result-clause-valid c =
    let is : c.of.result ≡ map site_of c.in_ok-found.found = c.of.ensures ∙ c.in_ok-sites.ensures ∙ ap (λ (xs : List (Option Findings)). map site_of xs) c.as_slice.ensures in
    subst (λ (xs : List (Option Site)). AreSites c.args.app xs) (sym is) (are_sites c.args.app c.args.table.now c.requires.written c.in_ok-found.found c.in_ok-found.ensures)

pub returns-clause-forms : goal.returns-clause-forms
returns-clause-forms c =
    let is : c.of.result ≡ map site_of c.in_ok-found.found = c.of.ensures ∙ c.in_ok-sites.ensures ∙ ap (λ (xs : List (Option Findings)). map site_of xs) c.as_slice.ensures in
    dictated_forms c.args.app c.args.table.now c.requires.written c.in_ok-found.found c.in_ok-found.ensures c.of.result is

pub returns-clause-statuses : goal.returns-clause-statuses
returns-clause-statuses c =
    let is : c.of.result ≡ map site_of c.in_ok-found.found = c.of.ensures ∙ c.in_ok-sites.ensures ∙ ap (λ (xs : List (Option Findings)). map site_of xs) c.as_slice.ensures in
    dictated_statuses c.args.app c.args.table.now c.requires.written c.in_ok-found.found c.in_ok-found.ensures c.of.result is

pub returns-clause-kernel : goal.returns-clause-kernel
returns-clause-kernel c = λ inductive mode es known.
    let is : c.of.result ≡ map site_of c.in_ok-found.found = c.of.ensures ∙ c.in_ok-sites.ensures ∙ ap (λ (xs : List (Option Findings)). map site_of xs) c.as_slice.ensures in
    let forms = dictated_forms c.args.app c.args.table.now c.requires.written c.in_ok-found.found c.in_ok-found.ensures c.of.result is in
    let statuses = dictated_statuses c.args.app c.args.table.now c.requires.written c.in_ok-found.found c.in_ok-found.ensures c.of.result is in
    runs _ (sets_of c.args.table.now) mode es inductive forms statuses known
