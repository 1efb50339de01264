-- What is found of the instructions at a block: of their outcomes and of the statuses that they note.
use Rattle.std.specs.{Prelude.{◌≡◌, ◌≢◌, ◌⊎◌, Some, None}, declared.option.Option.{Option}}
use Rattle.osek_values.specs.declared.status.Status.{Status}
use Rattle.osek_standard.specs.Dispatch.{Outcome}
use Rattle.image_model.specs.declared.site.{Form.{Form}, Known.{Known}}
use Rattle.image_model.specs.declared.site.Form.TheVariants as form
use Rattle.image_model.specs.declared.site.Known.TheVariants as known
use Rattle.flow_model.specs.declared.case.Decision.{Decision}
use Rattle.flow_model.specs.declared.case.Decision.TheVariants as decision
use Rattle.flow_model.specs.Scheduling.{outcome_of_decision}
use Rattle.flow_check.specs.declared.found.{Found.{Found}, Findings.{Findings}}
use Rattle.flow_check.specs.declared.found.Found.TheVariants as found

-- what is seen so far: nothing, this alone, or several
pub data Seen (V : Type 0) : Type 0 where
  Nothing : Seen V
  Alone : V → Seen V
  Several : Seen V

module _ {X : Type 0} (P : X → Type 0) where
  -- P holds of two
  pub record HoldsOfTwo : Type 0 where
    pub one : X
    pub other : X
    pub one_holds : P one
    pub other_holds : P other
    pub differ : one ≢ other

module _ {X V : Type 0} (meant : V → X) (P : X → Type 0) where
  -- this is seen of all of which P holds
  abbrev pub IsSeen : Seen V → Type 0
  IsSeen Nothing = (x : X) → P x → ⊥
  IsSeen (Alone v) = P (meant v) × ((x : X) → P x → x ≡ meant v)
  IsSeen Several = HoldsOfTwo P

module _ {V : Type 0} where
  -- what two searches saw together
  abbrev pub AreJoined : Seen V → Seen V → Seen V → Type 0
  AreJoined Nothing y z = z ≡ y
  AreJoined (Alone v) Nothing z = z ≡ Alone v
  AreJoined (Alone v) (Alone w) z = ((v ≡ w) × (z ≡ Alone v)) ⊎ ((v ≢ w) × (z ≡ Several))
  AreJoined (Alone v) Several z = z ≡ Several
  AreJoined Several y z = z ≡ Several

abbrev pub outcome_seen : Found → Seen Decision
outcome_seen found.None = Nothing
outcome_seen (found.One d) = Alone d
outcome_seen found.Several = Several

abbrev pub status_seen : Option Known → Seen (Option Status)
status_seen None = Nothing
status_seen (Some known.Any) = Several
status_seen (Some (known.Always x)) = Alone x

-- P holds of these outcomes, and Q of these statuses
pub record AreFindings (P : Outcome → Type 0) (Q : Option Status → Type 0) (x : Findings) : Type 0 where
  pub outcome : IsSeen outcome_of_decision P (outcome_seen x.outcome)
  pub status : IsSeen (λ (s : Option Status). s) Q (status_seen x.status)

-- what two searches found together
pub record AreJoinedFindings (x y z : Findings) : Type 0 where
  pub outcome : AreJoined (outcome_seen x.outcome) (outcome_seen y.outcome) (outcome_seen z.outcome)
  pub status : AreJoined (status_seen x.status) (status_seen y.status) (status_seen z.status)

-- one more instruction with this outcome and this status tells nothing new
pub record IsTold (x : Findings) (d : Decision) (s : Option Status) : Type 0 where
  pub outcome : AreJoined (outcome_seen x.outcome) (Alone d) (outcome_seen x.outcome)
  pub status : AreJoined (status_seen x.status) (Alone s) (status_seen x.status)

-- the form of a site where this is found, and what is known of its status
abbrev pub form_of : Found → Form
form_of found.None = form.Never
form_of (found.One decision.Keep) = form.Stay
form_of (found.One (decision.To x)) = form.Direct x
form_of found.Several = form.General

abbrev pub known_of : Option Known → Known
known_of None = known.Any
known_of (Some x) = x
