-- The sites by what is found over all rows of a written table have the forms and the known statuses that it dictates.
use Rattle.std.proofs.Common.{◌≡◌, ℕ, ◌<◌, List, length, map, get_or, Some, None, sym, ap, subst, ◌∙◌, inl, inr, arith}
use Rattle.std.specs.{Prelude.{option_map}, declared.option.Option.{Option}}
use Rattle.std.proofs.lemmas.{Bool.{cases_lt}, List.{length-map, get_or-map, get_or_past}}
use Rattle.osek_values.specs.declared.numbers.TaskNo.{TaskNo}
use Rattle.osek_standard.specs.declared.{app.App.{App}, state.State.{State}}
use Rattle.osek_standard.specs.{Apps.{is_site}, Effects.{effect}, Dispatch.{Outcome, To, outcome, settled, instruction}, Well.{Well}}
use Rattle.osek_standard.proofs.StepKeeps.{instruction_keeps}
use Rattle.image_model.specs.{declared.site.{Form.{Form}, Known.{Known}, Site.{Site}}, Sites.{IsForm, IsSiteAt, AreSites}}
use Rattle.abstract_state.specs.{declared.table.PlainTable.{PlainTable}, Tables.{sets_of}, Written.{IsWritten}}
use Rattle.dictated_forms.specs.Forms.{FormOf, KnownOf}
use Rattle.flow_model.specs.declared.case.Decision.TheVariants as decision
use Rattle.flow_model.specs.Scheduling.{outcome_of_decision}
use Rattle.flow_check.specs.declared.found.{Found.{Found}, Findings.{Findings}}
use Rattle.flow_check.specs.declared.found.Found.TheVariants as found
use Rattle.flow_check.specs.{Found.{IsSeen, outcome_seen, form_of, known_of}, Outcomes.{ArisesAt, IsFoundAt, AreFound}}
use Rattle.flow_check.proofs.FoundForms.{AreAt, form_found, known_found}
use Rattle.call_tailor.specs.Tailored.{site_of}

module _ (app : App) (table : PlainTable) (written : IsWritten app table) where
  -- what is dispatched is a task of the application
  dispatched_known : (s : State) (o : Outcome) (t : TaskNo) → o ≡ To (Some t) → Well app (settled app s o) → t.0 < length app.tasks
  dispatched_known s o t e well = (subst (λ (x : Outcome). Well app (settled app s x)) e well).processor.running.0

  task_known : (b : ℕ) (t : TaskNo) → ArisesAt app (outcome app) table.rows b (To (Some t)) → t.0 < length app.tasks
  unfolding instruction
  task_known b t x =
      dispatched_known (effect app x.arises.from x.arises.choice).state (outcome app x.arises.from x.arises.choice) t x.arises.is
      (instruction_keeps app x.arises.from x.arises.choice x.arises.at.well)

  is_form : (b : ℕ) (x : Found) → IsSeen outcome_of_decision (ArisesAt app (outcome app) table.rows b) (outcome_seen x) → IsForm (length app.tasks) (form_of x)
  is_form b found.None h = tt
  is_form b (found.One decision.Keep) h = tt
  is_form b (found.One (decision.To None)) h = tt
  is_form b (found.One (decision.To (Some t))) h = task_known b t h.0
  is_form b found.Several h = tt

  module _ (sites : List (Option Findings)) (all : AreFound app table.rows sites) where
    site_at_block : (b : ℕ) → b < length app.blocks → get_or (map site_of sites) b None ≡ site_of (get_or sites b None)
    site_at_block b lt = get_or-map site_of sites b None None (omega (arith, lt, all.count))

    is_site_at : (b : ℕ) (x : Option Findings) → IsFoundAt app table.rows b x → IsSiteAt app (is_site app b) (site_of x)
    is_site_at b None f = f
    is_site_at b (Some x) f = (f.0, is_form b x.outcome f.1.outcome)

    pub are_sites : AreSites app (map site_of sites)
    are_sites = record {
      count = length-map sites site_of ∙ all.count;
      each = λ b lt. subst (IsSiteAt app (is_site app b)) (sym (site_at_block b lt)) (is_site_at b (get_or sites b None) (all.each b lt));
    }

    -- what the sites have of a kind, form or known status, is what the table dictates of it
    module _ {Y : Type 0} (of : Site → Y) (Dictated : ℕ → Y → Type 0) (right : (b : ℕ) (x : Findings) → AreAt app table written b x → Dictated b (of (record { form = form_of x.outcome; known = known_of x.status }))) where
      abbrev in_site : Option Site → Option Y
      in_site x = option_map of x

      dictated_by : (b : ℕ) (y : Y) (x : Option Findings) → IsFoundAt app table.rows b x → in_site (site_of x) ≡ Some y → Dictated b y
      dictated_by b y None h e = absurd (cc)
      dictated_by b y (Some x) h e =
          let site : Site = record { form = form_of x.outcome; known = known_of x.status } in
          let same : of site ≡ y = cc in
          subst (Dictated b) same (right b x h.1)

      dictated_at : (b : ℕ) (y : Y) → in_site (get_or (map site_of sites) b None) ≡ Some y → Dictated b y
      dictated_at b y e = elim (cases_lt b (length app.blocks)) [
        | inl lt ↦ dictated_by b y (get_or sites b None) (all.each b lt) (ap in_site (sym (site_at_block b lt)) ∙ e)
        | inr past ↦
            (let long = length-map sites site_of in
            let none : get_or (map site_of sites) b None ≡ None = get_or_past (map site_of sites) b None (omega (arith, past, long, all.count)) in
            let wrong : in_site None ≡ Some y = ap in_site (sym none) ∙ e in
            absurd (cc))
      ]

    -- an image with these sites has the forms that the table dictates, and knows of their statuses what it says
    pub dictated_forms : (xs : List (Option Site)) → xs ≡ map site_of sites → (b : ℕ) (f : Form) → option_map (λ (site : Site). site.form) (get_or xs b None) ≡ Some f → FormOf app (sets_of table) b f
    dictated_forms xs is b f e =
        dictated_at (λ (site : Site). site.form) (FormOf app (sets_of table)) (form_found app table written) b f (ap (λ (ys : List (Option Site)). option_map (λ (site : Site). site.form) (get_or ys b None)) (sym is) ∙ e)

    pub dictated_statuses : (xs : List (Option Site)) → xs ≡ map site_of sites → (b : ℕ) (k : Known) → option_map (λ (site : Site). site.known) (get_or xs b None) ≡ Some k → KnownOf app (sets_of table) b k
    dictated_statuses xs is b k e =
        dictated_at (λ (site : Site). site.known) (KnownOf app (sets_of table)) (known_found app table written) b k (ap (λ (ys : List (Option Site)). option_map (λ (site : Site). site.known) (get_or ys b None)) (sym is) ∙ e)
