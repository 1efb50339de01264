-- What two searches saw together is seen of all that either sought.
use Rattle.std.proofs.Common.{◌≡◌, ◌≢◌, ◌⊎◌, refl, sym, ap, subst, ◌∙◌, inl, inr}
use Rattle.std.specs.declared.option.Option.{Option}
use Rattle.osek_values.specs.declared.status.Status.{Status}
use Rattle.flow_model.specs.declared.case.Decision.{Decision}
use Rattle.flow_model.specs.declared.case.Decision.TheVariants as decision
use Rattle.flow_model.specs.Scheduling.{outcome_of_decision}
use Rattle.flow_check.specs.Found.{Seen, Nothing, Alone, Several, HoldsOfTwo, IsSeen, AreJoined}

pub same_decision : (d e : Decision) → outcome_of_decision d ≡ outcome_of_decision e → d ≡ e
same_decision decision.Keep decision.Keep h = refl
same_decision decision.Keep (decision.To y) h = absurd (cc)
same_decision (decision.To x) decision.Keep h = absurd (cc)
same_decision (decision.To x) (decision.To y) h = ap decision.To (cc)

abbrev pub same_status : Option Status → Option Status
same_status x = x

pub status_once : (x y : Option Status) → same_status x ≡ same_status y → x ≡ y
status_once x y e = e

pub joined_nothing : {V : Type 0} (x : Seen V) → AreJoined x Nothing x
joined_nothing Nothing = refl
joined_nothing (Alone v) = refl
joined_nothing Several = refl

-- the same is seen where it is called otherwise
module _ {X V : Type 0} (meant : V → X) (P R : X → Type 0) (on : (x : X) → P x → R x) (back : (x : X) → R x → P x) where
  pub same_seen : (x : Seen V) → IsSeen meant P x → IsSeen meant R x
  same_seen Nothing h = λ x r. h x (back x r)
  same_seen (Alone v) h = (on (meant v) h.0, λ x r. h.1 x (back x r))
  same_seen Several h = record { one = h.one; other = h.other; one_holds = on h.one h.one_holds; other_holds = on h.other h.other_holds; differ = h.differ }

module _ {X V : Type 0} (meant : V → X) (once : (v w : V) → meant v ≡ meant w → v ≡ w) (P Q R : X → Type 0) (left : (x : X) → P x → R x) (right : (x : X) → Q x → R x) (from : (x : X) → R x → P x ⊎ Q x) where
  several_left : HoldsOfTwo P → HoldsOfTwo R
  several_left h = record { one = h.one; other = h.other; one_holds = left h.one h.one_holds; other_holds = left h.other h.other_holds; differ = h.differ }

  several_right : HoldsOfTwo Q → HoldsOfTwo R
  several_right h = record { one = h.one; other = h.other; one_holds = right h.one h.one_holds; other_holds = right h.other h.other_holds; differ = h.differ }

  only_right : ((x : X) → P x → ⊥) → (y : Seen V) → IsSeen meant Q y → IsSeen meant R y
  only_right none y h = same_seen meant Q R right (λ x r. elim (from x r) [ inl p ↦ absurd (none x p) | inr q ↦ q ]) y h

  only_left : ((x : X) → Q x → ⊥) → (y : Seen V) → IsSeen meant P y → IsSeen meant R y
  only_left none y h = same_seen meant P R left (λ x r. elim (from x r) [ inl p ↦ p | inr q ↦ absurd (none x q) ]) y h

  both_alone : (v w : V) → v ≡ w → IsSeen meant P (Alone v) → IsSeen meant Q (Alone w) → IsSeen meant R (Alone v)
  both_alone v w same p q = (
    left (meant v) p.0,
    λ x r. elim (from x r) [
      | inl h ↦ p.1 x h
      | inr h ↦ q.1 x h ∙ ap meant (sym same)
    ],
  )

  both_differ : (v w : V) → v ≢ w → IsSeen meant P (Alone v) → IsSeen meant Q (Alone w) → HoldsOfTwo R
  both_differ v w differ p q = record {
    one = meant v;
    other = meant w;
    one_holds = left (meant v) p.0;
    other_holds = right (meant w) q.0;
    differ = λ same. differ (once v w same);
  }

  pub joined_seen : (x y z : Seen V) → AreJoined x y z → IsSeen meant P x → IsSeen meant Q y → IsSeen meant R z
  joined_seen Nothing y z j p q = subst (IsSeen meant R) (sym j) (only_right p y q)
  joined_seen (Alone v) Nothing z j p q = subst (IsSeen meant R) (sym j) (only_left q (Alone v) p)
  joined_seen (Alone v) (Alone w) z (inl j) p q = subst (IsSeen meant R) (sym j.1) (both_alone v w j.0 p q)
  joined_seen (Alone v) (Alone w) z (inr j) p q = subst (IsSeen meant R) (sym j.1) (both_differ v w j.0 p q)
  joined_seen (Alone v) Several z j p q = subst (IsSeen meant R) (sym j) (several_right q)
  joined_seen Several y z j p q = subst (IsSeen meant R) (sym j) (several_left p)
