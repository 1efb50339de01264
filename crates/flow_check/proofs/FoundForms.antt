-- What is found at a block over the rows of a written table is what the table dictates there.
use Rattle.std.proofs.Common.{◌≡◌, ℕ, Bool, Some, None, refl, sym, ap, subst, inl, inr}
use Rattle.std.specs.declared.option.Option.{Option}
use Rattle.osek_values.specs.{Numbers.{block_no}, declared.{status.Status.{Status}, numbers.BlockNo.{BlockNo}}}
use Rattle.osek_standard.specs.declared.{app.App.{App}, state.{State.{State}, Processor.{Processor}}, point.Point.{Point}}
use Rattle.osek_standard.specs.declared.state.Processor.TheVariants as processor
use Rattle.osek_standard.specs.{States.{here}, Dispatch.{Outcome, outcome}, Points.{StandsAt, point_at, point_of}, Well.{IsActive}}
use Rattle.image_model.specs.declared.site.Known.{Known}
use Rattle.image_model.specs.declared.site.Known.TheVariants as known
use Rattle.abstract_state.specs.{declared.table.PlainTable.{PlainTable}, Tables.{Sets, In, sets_of}, Written.{IsWritten}}
use Rattle.dictated_forms.specs.Forms.{Occurs, FormOf, Noted, KnownOf}
use Rattle.abstract_state.proofs.EqualityLaws.{written_entry}
use Rattle.flow_model.specs.declared.case.Decision.TheVariants as decision
use Rattle.flow_model.specs.Scheduling.{outcome_of_decision}
use Rattle.flow_check.specs.declared.found.{Found.{Found}, Findings.{Findings}}
use Rattle.flow_check.specs.declared.found.Found.TheVariants as found
use Rattle.flow_check.specs.{Found.{IsSeen, outcome_seen, status_seen, AreFindings, form_of, known_of}, Outcomes.{status_noted, ArisesAt}}
use Rattle.flow_check.proofs.{Joining.{same_status, same_seen}, RowOutcomes.{stands_once}}
use Rattle.table_rows.proofs.TableRows.{in_row, row_in}

-- who has the processor stands at its block
stands_by : (b : BlockNo) (p : Processor) → IsActive p → StandsAt (point_at b p) b
stands_by b processor.Halted active = absurd active
stands_by b processor.Idle active = absurd active
stands_by b (processor.Running t) active = refl
stands_by b (processor.Interrupted k over) active = refl

-- a state of a table at block b, of whose instruction this is read
record Stands {X : Type 0} (app : App) (read : State → Bool → X) (table : Sets) (b : ℕ) (x : X) : Type 0 where
  from : State
  choice : Bool
  inside : In app table from
  active : IsActive from.processor
  stands : (here from).block.0 ≡ b
  is : read from choice ≡ x

module _ (app : App) (table : PlainTable) (written : IsWritten app table) where
  module _ {X : Type 0} (read : State → Bool → X) (b : ℕ) (x : X) where
    stands_arises : Stands app read (sets_of table) b x → ArisesAt app read table.rows b x
    stands_arises h =
        let s = h.from in
        let p = point_of s in
        let r = (written_entry table p).0 h.inside.entry in
        let stands : StandsAt p (block_no b) = subst (λ (n : ℕ). StandsAt p (block_no n)) h.stands (stands_by (here s).block s.processor h.active) in
        record {
          row = r.row;
          among = r.among;
          stands = subst (λ (q : Point). StandsAt q (block_no b)) (sym r.point) stands;
          arises = record { from = s; choice = h.choice; at = in_row app table written r.row r.among s h.inside (sym r.point); active = h.active; is = h.is };
        }

    arises_stands : ArisesAt app read table.rows b x → Stands app read (sets_of table) b x
    arises_stands h =
        let s = h.arises.from in
        let p = point_of s in
        let at : h.row.point ≡ p = sym h.arises.at.point in
        record {
          from = s;
          choice = h.arises.choice;
          inside = row_in app table written h.row h.among s h.arises.at;
          active = h.arises.active;
          stands = ap (λ (k : BlockNo). k.0) (stands_once p (here s).block (block_no b) (stands_by (here s).block s.processor h.arises.active) (subst (λ (q : Point). StandsAt q (block_no b)) at h.stands));
          is = h.arises.is;
        }

  occurs_arises : (b : ℕ) (o : Outcome) → Occurs app (sets_of table) b o → ArisesAt app (outcome app) table.rows b o
  occurs_arises b o h = stands_arises (outcome app) b o (record { from = h.from; choice = h.choice; inside = h.inside; active = h.active; stands = h.stands; is = h.is })

  arises_occurs : (b : ℕ) (o : Outcome) → ArisesAt app (outcome app) table.rows b o → Occurs app (sets_of table) b o
  arises_occurs b o x = (let h = arises_stands (outcome app) b o x in record { from = h.from; choice = h.choice; inside = h.inside; active = h.active; stands = h.stands; is = h.is })

  noted_arises : (b : ℕ) (x : Option Status) → Noted app (sets_of table) b x → ArisesAt app (status_noted app) table.rows b x
  noted_arises b x h = stands_arises (status_noted app) b x (record { from = h.from; choice = h.choice; inside = h.inside; active = h.active; stands = h.stands; is = h.is })

  arises_noted : (b : ℕ) (x : Option Status) → ArisesAt app (status_noted app) table.rows b x → Noted app (sets_of table) b x
  arises_noted b x a = (let h = arises_stands (status_noted app) b x a in record { from = h.from; choice = h.choice; inside = h.inside; active = h.active; stands = h.stands; is = h.is })

  form_by : (b : ℕ) (x : Found) → IsSeen outcome_of_decision (Occurs app (sets_of table) b) (outcome_seen x) → FormOf app (sets_of table) b (form_of x)
  form_by b found.None h = h
  form_by b (found.One decision.Keep) h = record { occurs = h.0; alone = h.1 }
  form_by b (found.One (decision.To x)) h = record { occurs = h.0; alone = h.1 }
  form_by b found.Several h = record { one = h.one; other = h.other; one_occurs = h.one_holds; other_occurs = h.other_holds; differ = h.differ }

  known_by : (b : ℕ) (x : Option Known) → IsSeen same_status (Noted app (sets_of table) b) (status_seen x) → KnownOf app (sets_of table) b (known_of x)
  known_by b None h = inl h
  known_by b (Some (known.Always x)) h = record { noted = h.0; alone = h.1 }
  known_by b (Some known.Any) h = inr (record { one = h.one; other = h.other; one_noted = h.one_holds; other_noted = h.other_holds; differ = h.differ })

  abbrev pub AreAt : ℕ → Findings → Type 0
  AreAt b x = AreFindings (ArisesAt app (outcome app) table.rows b) (ArisesAt app (status_noted app) table.rows b) x

  pub form_found : (b : ℕ) (x : Findings) → AreAt b x → FormOf app (sets_of table) b (form_of x.outcome)
  form_found b x h =
      form_by b x.outcome (same_seen outcome_of_decision (ArisesAt app (outcome app) table.rows b) (Occurs app (sets_of table) b) (arises_occurs b) (occurs_arises b) (outcome_seen x.outcome) h.outcome)

  pub known_found : (b : ℕ) (x : Findings) → AreAt b x → KnownOf app (sets_of table) b (known_of x.status)
  known_found b x h =
      known_by b x.status (same_seen same_status (ArisesAt app (status_noted app) table.rows b) (Noted app (sets_of table) b) (arises_noted b) (noted_arises b) (status_seen x.status) h.status)
