-- Containment, the meet of two tables, and the least table.
use Rattle.std.proofs.{Common.{◌≡◌, ◌↔◌, Bool, true, false, refl, IsTrue}, lemmas.Bool.{and_from, and_parts}}
use mathlib.Core.Path.{fun_ext}
use Rattle.osek_standard.specs.{declared.{app.App.{App}, state.State.{State}}, Kernel.{start, step}, Points.{point_of}}
use Rattle.abstract_state.specs.{Components.{abstract_of}, Regular.{IsRegular}, Tables.{Sets, In, Inductive, IsContained, Least, meet, full}}
use Rattle.osek_standard.specs.Well.{Well}
use Rattle.osek_standard.proofs.StepKeeps.{start_is_well, step_keeps}
use Rattle.abstract_state.proofs.RegularLaws.{start_regular, step_regular}

same_truth : (a b : Bool) → (IsTrue a → IsTrue b) → (IsTrue b → IsTrue a) → a ≡ b
same_truth true true f g = refl
same_truth true false f g = absurd (let x : IsTrue false = f refl in cc)
same_truth false true f g = absurd (let x : IsTrue false = g refl in cc)
same_truth false false f g = refl

pub contained_itself : (a : Sets) → IsContained a a
contained_itself a = record { entry = λ p h. h; has = λ p c v h. h }

pub contained_onward : (a b c : Sets) → IsContained a b → IsContained b c → IsContained a c
contained_onward a b c x y = record { entry = λ p h. y.entry p (x.entry p h); has = λ p k v h. y.has p k v (x.has p k v h) }

pub contained_equal : (a b : Sets) → IsContained a b → IsContained b a → a ≡ b
contained_equal a b x y =
    let entries : a.entry ≡ b.entry = fun_ext (λ p. same_truth (a.entry p) (b.entry p) (x.entry p) (y.entry p)) in
    let values : a.has ≡ b.has = fun_ext (λ p. fun_ext (λ c. fun_ext (λ v. same_truth (a.has p c v) (b.has p c v) (x.has p c v) (y.has p c v)))) in
    λ i. record { entry = entries i; has = values i }

pub meet_left : (a b : Sets) → IsContained (meet a b) a
meet_left a b = record { entry = λ p h. (and_parts (a.entry p) (b.entry p) h).0; has = λ p c v h. (and_parts (a.has p c v) (b.has p c v) h).0 }

pub meet_right : (a b : Sets) → IsContained (meet a b) b
meet_right a b = record { entry = λ p h. (and_parts (a.entry p) (b.entry p) h).1; has = λ p c v h. (and_parts (a.has p c v) (b.has p c v) h).1 }

pub meet_greatest : (a b c : Sets) → IsContained c a → IsContained c b → IsContained c (meet a b)
meet_greatest a b c x y = record {
  entry = λ p h. and_from (a.entry p) (b.entry p) (x.entry p h) (y.entry p h);
  has = λ p k v h. and_from (a.has p k v) (b.has p k v) (x.has p k v h) (y.has p k v h);
}

module _ (app : App) where
  pub in_larger : (a b : Sets) (s : State) → IsContained a b → In app a s → In app b s
  in_larger a b s x h = record { well = h.well; regular = h.regular; entry = x.entry (point_of s) h.entry; within = λ c lt. x.has (point_of s) c (abstract_of app s c) (h.within c lt) }

  pub in_meet : (a b : Sets) (s : State) → In app a s → In app b s → In app (meet a b) s
  in_meet a b s x y = record {
    well = x.well;
    regular = x.regular;
    entry = and_from (a.entry (point_of s)) (b.entry (point_of s)) x.entry y.entry;
    within = λ c lt. and_from (a.has (point_of s) c (abstract_of app s c)) (b.has (point_of s) c (abstract_of app s c)) (x.within c lt) (y.within c lt);
  }

  pub meet_states : (a b : Sets) (s : State) → In app (meet a b) s ↔ (In app a s × In app b s)
  meet_states a b s = (λ h. (in_larger (meet a b) a s (meet_left a b) h, in_larger (meet a b) b s (meet_right a b) h), λ h. in_meet a b s h.0 h.1)

  pub meet_inductive : (a b : Sets) → Inductive app a → Inductive app b → Inductive app (meet a b)
  meet_inductive a b x y = record {
    start = λ mode lt. in_meet a b (start app mode).state (x.start mode lt) (y.start mode lt);
    step = λ s e h. in_meet a b (step app s e).state (x.step s e (in_larger (meet a b) a s (meet_left a b) h)) (y.step s e (in_larger (meet a b) b s (meet_right a b) h));
  }

  pub one_least : (a b : Sets) → Least app a → Least app b → a ≡ b
  one_least a b x y = contained_equal a b (x.least b y.inductive) (y.least a x.inductive)

  pub in_full : (s : State) → Well app s → IsRegular app s → In app full s
  in_full s w regular = record { well = w; regular = regular; entry = refl; within = λ c lt. refl }

  pub full_inductive : Inductive app full
  full_inductive = record {
    start = λ mode known. in_full (start app mode).state (start_is_well app mode known) (start_regular app mode known);
    step = λ s e h. in_full (step app s e).state (step_keeps app s e h.well) (step_regular app s e h.well h.regular);
  }
