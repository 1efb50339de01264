-- What is read of the instructions of the states of a row is told by the exits of its point.
use Rattle.std.proofs.Common.{◌≡◌, ◌⊎◌, Bool, List, [], ◌∷◌, ◌++◌, Some, None, refl, sym, ap, subst, ◌∙◌, inl, inr, arith}
use Rattle.std.specs.declared.option.Option.{Option}
use Rattle.std.proofs.lemmas.List.Elements.{Contains-append_left, Contains-push, Contains-push_cases}
use Rattle.osek_values.specs.declared.status.Status.{Status}
use Rattle.osek_standard.specs.{declared.{app.App.{App}, state.State.{State}}, Effects.{effect}, Dispatch.{outcome}, Outcomes.{Did, shows}}
use Rattle.abstract_state.specs.declared.table.TableRow.{TableRow}
use Rattle.abstract_state.proofs.MarkLaws.{shown_instruction}
use Rattle.flow_model.specs.{declared.case.Decision.{Decision}, Rules.{mark_by}, Scheduling.{outcome_of_decision}}
use Rattle.flow_exits.proofs.ExactExits.{some_step}
use Rattle.table_rows.specs.{declared.bare.BareExit.{BareExit}, BareExits.{bare_exit, AreBareExitsOf}}
use Rattle.flow_check.specs.{declared.found.Findings.{Findings}, Found.{Seen, Nothing, Alone, IsSeen, AreJoined, outcome_seen, status_seen}}
use Rattle.flow_check.specs.Outcomes.{status_noted, Arises, IsOfExit, IsOfExits, AreOfRow, AreOfExits}
use Rattle.flow_check.proofs.Joining.{same_decision, same_status, status_once, joined_nothing, same_seen, joined_seen}

module _ {X V : Type 0} (meant : V → X) (once : (v w : V) → meant v ≡ meant w → v ≡ w) (tells : BareExit → Decision → V) where
  abbrev told : BareExit → Decision → X
  told x d = meant (tells x d)

  none_of_none : (y : X) → IsOfExits told [] y → ⊥
  none_of_none y h = absurd (omega (arith, h.among.1))

  -- what some exits tell, and one more
  module _ (done : List BareExit) (more : BareExit) where
    earlier : (y : X) → IsOfExits told done y → IsOfExits told (done ++ more ∷ []) y
    earlier y h = record { exit = h.exit; among = Contains-append_left done (more ∷ []) h.exit h.among; is = h.is }

    later : (y : X) → IsOfExit told more y → IsOfExits told (done ++ more ∷ []) y
    later y h = record { exit = more; among = Contains-push done more; is = h }

    either : (y : X) → IsOfExits told (done ++ more ∷ []) y → IsOfExits told done y ⊎ IsOfExit told more y
    either y h = elim (Contains-push_cases done more h.exit h.among) [
      | inl old ↦ inl (record { exit = h.exit; among = old; is = h.is })
      | inr same ↦ inr (subst (λ (x : BareExit). IsOfExit told x y) (sym same) h.is)
    ]

    with_this : (before this after : Seen V) → AreJoined before this after → IsSeen meant (IsOfExit told more) this → IsSeen meant (IsOfExits told done) before → IsSeen meant (IsOfExits told (done ++ more ∷ [])) after
    with_this before this after joined new old = joined_seen meant once (IsOfExits told done) (IsOfExit told more) (IsOfExits told (done ++ more ∷ [])) earlier later either before this after joined old new

    -- the begin of a routine tells nothing
    seen_begin : (before : Seen V) → more.decision ≡ None → IsSeen meant (IsOfExits told done) before → IsSeen meant (IsOfExits told (done ++ more ∷ [])) before
    seen_begin before begins = with_this before Nothing before (joined_nothing before) (λ y h. (let both : Some h.decision ≡ None = sym h.decides ∙ begins in absurd (cc)))

    -- another exit tells this alone
    seen_one : (d : Decision) → more.decision ≡ Some d → (before after : Seen V) → AreJoined before (Alone (tells more d)) after → IsSeen meant (IsOfExits told done) before → IsSeen meant (IsOfExits told (done ++ more ∷ [])) after
    seen_one d decides before after joined =
        with_this before (Alone (tells more d)) after joined (
          record { decision = d; decides = decides; is = refl },
          λ y h.
              let both : Some h.decision ≡ Some d = sym h.decides ∙ decides in
              let same : h.decision ≡ d = cc in
              h.is ∙ ap (told more) same,
        )

abbrev decided : BareExit → Decision → Decision
decided x d = d

abbrev noting : BareExit → Decision → Option Status
noting x d = x.status

pub findings_of_none : (x : Findings) → outcome_seen x.outcome ≡ Nothing → status_seen x.status ≡ Nothing → AreOfExits [] x
findings_of_none x no_outcome no_status = record {
  outcome = subst (IsSeen outcome_of_decision (IsOfExits (told outcome_of_decision same_decision decided) [])) (sym no_outcome) (none_of_none outcome_of_decision same_decision decided);
  status = subst (IsSeen same_status (IsOfExits (told same_status status_once noting) [])) (sym no_status) (none_of_none same_status status_once noting);
}

module _ (done : List BareExit) (more : BareExit) (before : Findings) (h : AreOfExits done before) where
  pub with_begin : more.decision ≡ None → AreOfExits (done ++ more ∷ []) before
  with_begin begins = record {
    outcome = seen_begin outcome_of_decision same_decision decided done more (outcome_seen before.outcome) begins h.outcome;
    status = seen_begin same_status status_once noting done more (status_seen before.status) begins h.status;
  }

  pub with_one : (d : Decision) → more.decision ≡ Some d → (after : Findings) → AreJoined (outcome_seen before.outcome) (Alone d) (outcome_seen after.outcome)
      → AreJoined (status_seen before.status) (Alone more.status) (status_seen after.status) → AreOfExits (done ++ more ∷ []) after
  with_one d decides after outcomes statuses = record {
    outcome = seen_one outcome_of_decision same_decision decided done more d decides (outcome_seen before.outcome) (outcome_seen after.outcome) outcomes h.outcome;
    status = seen_one same_status status_once noting done more d decides (status_seen before.status) (status_seen after.status) statuses h.status;
  }

module _ (app : App) (row : TableRow) (exits : List BareExit) (of : AreBareExitsOf app row exits) where
  -- what an exit tells is read of the instructions that are its own
  module _ {X : Type 0} (read : State → Bool → X) (told : BareExit → Decision → X)
      (right : (x : BareExit) (s : State) (choice : Bool) (d : Decision) → outcome app s choice ≡ outcome_of_decision d → (effect app s choice).notes.status ≡ x.status → read s choice ≡ told x d) where
    shown_by_exits : (y : X) → IsOfExits told exits y → Arises app read row y
    shown_by_exits y h =
        let bare = of.bare.each h.exit h.among in
        let x = bare.exit in
        let step = some_step app row.point row.entry x (of.are.exact x bare.listed) in
        let d = h.is.decision in
        let decides : x.decision ≡ Some d = sym (ap (λ (z : BareExit). z.decision) bare.is) ∙ h.is.decides in
        let did : shows app step.from step.event ≡ Did (outcome_of_decision d) x.status = step.shows ∙ ap (λ (z : Option Decision). mark_by z x.status) decides in
        let i = shown_instruction app step.from step.event (outcome_of_decision d) x.status did in
        let notes : (effect app step.from i.choice).notes.status ≡ h.exit.status = i.status ∙ sym (ap (λ (z : BareExit). z.status) bare.is) in
        record { from = step.from; choice = i.choice; at = step.at; active = i.active; is = right h.exit step.from i.choice d i.does notes ∙ sym h.is.is }

    told_by_exits : (y : X) → Arises app read row y → IsOfExits told exits y
    told_by_exits y a =
        let by = of.are.instructions a.from a.choice a.at a.active in
        let x = bare_exit by.exit in
        record {
          exit = x;
          among = of.bare.all by.exit by.listed;
          is = record { decision = by.decision; decides = by.decides; is = sym a.is ∙ right x a.from a.choice by.decision by.outcome by.status };
        }

    by_all_exits : {V : Type 0} (meant : V → X) (x : Seen V) → IsSeen meant (IsOfExits told exits) x → IsSeen meant (Arises app read row) x
    by_all_exits meant x h = same_seen meant (IsOfExits told exits) (Arises app read row) shown_by_exits told_by_exits x h

  -- all exits are done
  pub of_all_exits : (x : Findings) → AreOfExits exits x → AreOfRow app row x
  of_all_exits x h = record {
    outcome = by_all_exits (outcome app) (λ (x : BareExit) (d : Decision). outcome_of_decision d) (λ x s choice d does notes. does) outcome_of_decision (outcome_seen x.outcome) h.outcome;
    status = by_all_exits (status_noted app) noting (λ x s choice d does notes. notes) same_status (status_seen x.status) h.status;
  }
