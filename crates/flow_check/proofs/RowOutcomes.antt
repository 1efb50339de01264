-- What is found at each block, row by row.
use Rattle.std.proofs.Common.{◌≡◌, ◌⊎◌, ℕ, ◌+◌, ◌<◌, Bool, true, false, List, [], ◌∷◌, ◌++◌, length, map, get_or, set, Some, None, refl, sym, ap, subst, ◌∙◌, inl, inr, arith}
use Rattle.std.specs.{Prelude.{if◌then◌else◌}, List.{range_with_len}, declared.option.Option.{Option}}
use Rattle.std.proofs.lemmas.{Bool.{cases_eq}, List.{length-set, get_or-set_same, get_or-set_other, Elements.{Contains-push, Contains-push_cases, Contains-append_left}}}
use Rattle.std.proofs.lemmas.List.FromFn.{get_or-map-range_with_len, length-map-range_with_len}
use Rattle.osek_values.specs.{Numbers.{block_no}, declared.numbers.BlockNo.{BlockNo}}
use Rattle.osek_standard.specs.declared.{app.App.{App}, point.Point.{Point}}
use Rattle.osek_standard.specs.declared.point.Point.TheVariants as point
use Rattle.osek_standard.specs.{Apps.{is_site}, declared.state.State.{State}, Dispatch.{outcome}, Points.{StandsAt, IsPoint}}
use Rattle.osek_standard.proofs.WellLaws.{own_known, routine_known}
use Rattle.abstract_state.specs.declared.table.TableRow.{TableRow}
use Rattle.flow_model.specs.Scheduling.{outcome_of_decision}
use Rattle.flow_check.specs.declared.found.Findings.{Findings}
use Rattle.flow_check.specs.declared.found.Found.TheVariants as found
use Rattle.flow_check.specs.Found.{Seen, IsSeen, AreJoined, outcome_seen, status_seen, AreJoinedFindings}
use Rattle.flow_check.specs.Outcomes.{status_noted, Arises, ArisesAt, AreOfRow, IsFoundAt, AreFound, first_found}
use Rattle.flow_check.proofs.Joining.{same_decision, same_status, status_once, same_seen, joined_seen}

-- a point stands at one block, which is the application's
pub stands_once : (p : Point) (b c : BlockNo) → StandsAt p b → StandsAt p c → b ≡ c
stands_once point.Halted b c h k = absurd h
stands_once point.Idle b c h k = absurd h
stands_once (point.Task d) b c h k = sym h ∙ k
stands_once (point.Routine d over) b c h k = sym h ∙ k

pub stands_known : (app : App) (p : Point) (b : BlockNo) → IsPoint app p → StandsAt p b → b.0 < length app.blocks
stands_known app point.Halted b at h = absurd h
stands_known app point.Idle b at h = absurd h
stands_known app (point.Task d) b at h = subst (λ (k : BlockNo). k.0 < length app.blocks) h (own_known app at.task d.0 at.known at.own)
stands_known app (point.Routine d over) b at h = subst (λ (k : BlockNo). k.0 < length app.blocks) h (routine_known app at.source d.0 at.known at.own)

module _ (app : App) where
  -- before the first row
  first_at : (b : ℕ) (site : Bool) → is_site app b ≡ site → IsFoundAt app [] b (if site then Some (record { outcome = found.None; status = None }) else None)
  first_at b true e = (e, record { outcome = λ x h. absurd (omega (arith, h.among.1)); status = λ x h. absurd (omega (arith, h.among.1)) })
  first_at b false e = rw e refl

  pub first_outcomes : (n : ℕ) (sites : List (Option Findings)) → n ≡ length app.blocks → sites ≡ map (first_found app) (range_with_len 0 n) → AreFound app [] sites
  first_outcomes n sites all e = subst (AreFound app []) (sym e) (record {
    count = length-map-range_with_len (first_found app) 0 n ∙ all;
    each = λ b lt.
        let below : b < n = omega (arith, lt, all) in
        let same : 0 + b ≡ b = omega arith in
        subst (IsFoundAt app [] b) (sym (get_or-map-range_with_len (first_found app) 0 n b b None below same)) (first_at b (is_site app b) refl);
  })

  -- what is read of the instructions at a block, with one row more
  module _ {X V : Type 0} (read : State → Bool → X) (meant : V → X) (once : (v w : V) → meant v ≡ meant w → v ≡ w) (rows : List TableRow) (row : TableRow) where
    earlier : (b : ℕ) (x : X) → ArisesAt app read rows b x → ArisesAt app read (rows ++ row ∷ []) b x
    earlier b x h = record { row = h.row; among = Contains-append_left rows (row ∷ []) h.row h.among; stands = h.stands; arises = h.arises }

    -- it arises at an earlier row, or at the last one
    either : (b : ℕ) (x : X) → ArisesAt app read (rows ++ row ∷ []) b x → ArisesAt app read rows b x ⊎ (StandsAt row.point (block_no b) × Arises app read row x)
    either b x h = elim (Contains-push_cases rows row h.row h.among) [
      | inl old ↦ inl (record { row = h.row; among = old; stands = h.stands; arises = h.arises })
      | inr same ↦ inr (subst (λ (r : TableRow). StandsAt r.point (block_no b)) (sym same) h.stands, subst (λ (r : TableRow). Arises app read r x) (sym same) h.arises)
    ]

    seen_elsewhere : (b : ℕ) (y : Seen V) → (StandsAt row.point (block_no b) → ⊥) → IsSeen meant (ArisesAt app read rows b) y → IsSeen meant (ArisesAt app read (rows ++ row ∷ []) b) y
    seen_elsewhere b y other h = same_seen meant (ArisesAt app read rows b) (ArisesAt app read (rows ++ row ∷ []) b) (earlier b) (λ x k. elim (either b x k) [
      | inl old ↦ old
      | inr new ↦ absurd (other new.0)
    ]) y h

    seen_here : (b : ℕ) (before new after : Seen V) → StandsAt row.point (block_no b) → AreJoined before new after → IsSeen meant (Arises app read row) new → IsSeen meant (ArisesAt app read rows b) before → IsSeen meant (ArisesAt app read (rows ++ row ∷ []) b) after
    seen_here b before new after here joined h old =
        joined_seen meant once (ArisesAt app read rows b) (Arises app read row) (ArisesAt app read (rows ++ row ∷ []) b) (earlier b)
        (λ x a. record { row = row; among = Contains-push rows row; stands = here; arises = a })
        (λ x a. elim (either b x a) [ inl first ↦ inl first | inr last ↦ inr last.1 ])
        before new after joined old h

  module _ (rows : List TableRow) (row : TableRow) where
    abbrev more_rows : List TableRow
    more_rows = rows ++ row ∷ []

    -- the row stands elsewhere, or where nothing is sought
    row_elsewhere : (b : ℕ) (x : Option Findings) → (StandsAt row.point (block_no b) → x ≡ None) → IsFoundAt app rows b x → IsFoundAt app more_rows b x
    row_elsewhere b None other f = f
    row_elsewhere b (Some y) other f =
        let away : StandsAt row.point (block_no b) → ⊥ = λ stands. (let e : Some y ≡ None = other stands in cc) in (
          f.0,
          record {
            outcome = seen_elsewhere (outcome app) outcome_of_decision same_decision rows row b (outcome_seen y.outcome) away f.1.outcome;
            status = seen_elsewhere (status_noted app) same_status status_once rows row b (status_seen y.status) away f.1.status;
          },
        )

    -- the row stands there
    row_here : (b : ℕ) (before new after : Findings) → StandsAt row.point (block_no b) → AreJoinedFindings before new after → AreOfRow app row new → IsFoundAt app rows b (Some before) → IsFoundAt app more_rows b (Some after)
    row_here b before new after here joined h f = (
      f.0,
      record {
        outcome = seen_here (outcome app) outcome_of_decision same_decision rows row b (outcome_seen before.outcome) (outcome_seen new.outcome) (outcome_seen after.outcome) here joined.outcome h.outcome f.1.outcome;
        status = seen_here (status_noted app) same_status status_once rows row b (status_seen before.status) (status_seen new.status) (status_seen after.status) here joined.status h.status f.1.status;
      },
    )

    pub row_passed : (sites : List (Option Findings)) → ((b : ℕ) → StandsAt row.point (block_no b) → get_or sites b None ≡ None) → AreFound app rows sites → AreFound app more_rows sites
    row_passed sites other f = record { count = f.count; each = λ b lt. row_elsewhere b (get_or sites b None) (other b) (f.each b lt) }

    pub row_added : (sites : List (Option Findings)) (k : BlockNo) (before new after : Findings) → k.0 < length sites → StandsAt row.point k → get_or sites k.0 None ≡ Some before → AreOfRow app row new → AreJoinedFindings before new after → AreFound app rows sites → AreFound app more_rows (set sites k.0 (Some after))
    row_added sites k before new after known here was h joined f = record {
      count = length-set sites k.0 (Some after) ∙ f.count;
      each = λ b lt. elim (cases_eq b k.0) [
        | inl same ↦
            subst (λ (c : ℕ). IsFoundAt app more_rows c (get_or (set sites k.0 (Some after)) c None)) (sym same)
            (subst (IsFoundAt app more_rows k.0) (sym (get_or-set_same sites k.0 (Some after) None known))
            (row_here k.0 before new after here joined h (subst (IsFoundAt app rows k.0) was (f.each k.0 (omega (arith, known, f.count))))))
        | inr differ ↦
            subst (IsFoundAt app more_rows b) (sym (get_or-set_other sites k.0 b (Some after) None differ))
            (row_elsewhere b (get_or sites b None) (λ stands. absurd (differ (ap (λ (c : BlockNo). c.0) (stands_once row.point (block_no b) k stands here)))) (f.each b lt))
      ];
    }
