-- Sets of flags: one of the two, or both, and the number of each.
use Rattle.std.proofs.Common.{◌≡◌, ℕ, ◌<◌, ◌≤◌, Bool, true, false, List, [], ◌∷◌, ◌++◌, length, refl, sym, ap, ap₂, subst, ◌∙◌, inl, inr, arith}
use Rattle.std.specs.{Prelude.{sum_by}, List.{AllByRecursion, Sorted.{IsStrictlySortedBy}}, declared.cmp.Ordering.TheVariants.{Less}}
use Rattle.std.proofs.lemmas.List.{Elements.{recursion_from_All}, Sums.{sum_by-cons}}
use Rattle.osek_values.specs.declared.numbers.{TaskNo.{TaskNo}, EventNo.{EventNo}, AlarmNo.{AlarmNo}}
use Rattle.osek_standard.specs.declared.{app.App.{App}, point.Point.{Point}}
use Rattle.abstract_state.specs.declared.value.PartValue.{PartValue, TheVariants.{OfTask, OfEvent, OfAlarm, OfSource}}
use Rattle.abstract_state.specs.declared.value.Component.TheVariants as component
use Rattle.abstract_state.specs.{ValueOrder.{part_order, IsAscending}, Components.{IsPart}}
use Rattle.table_codec.specs.{declared.fault.Fault.{Fault}, Spelling.{flags, flag_number}, Faults.{IsFlagsFault, AreGoodValues}}

-- a set of flags, and its number
pub data IsFlagSet (of : Bool → PartValue) (vs : List PartValue) (n : ℕ) : Type 0 where
  low : vs ≡ of false ∷ [] → n ≡ 1 → IsFlagSet of vs n
  high : vs ≡ of true ∷ [] → n ≡ 2 → IsFlagSet of vs n
  both : vs ≡ of false ∷ of true ∷ [] → n ≡ 3 → IsFlagSet of vs n

pub one_flag_set : (of : Bool → PartValue) (vs ws : List PartValue) (n : ℕ) → IsFlagSet of vs n → IsFlagSet of ws n → vs ≡ ws
one_flag_set of vs ws n (low e a) (low d b) = e ∙ sym d
one_flag_set of vs ws n (low e a) (high d b) = absurd (omega (arith, a, b))
one_flag_set of vs ws n (low e a) (both d b) = absurd (omega (arith, a, b))
one_flag_set of vs ws n (high e a) (low d b) = absurd (omega (arith, a, b))
one_flag_set of vs ws n (high e a) (high d b) = e ∙ sym d
one_flag_set of vs ws n (high e a) (both d b) = absurd (omega (arith, a, b))
one_flag_set of vs ws n (both e a) (low d b) = absurd (omega (arith, a, b))
one_flag_set of vs ws n (both e a) (high d b) = absurd (omega (arith, a, b))
one_flag_set of vs ws n (both e a) (both d b) = e ∙ sym d

pub flag_range : (of : Bool → PartValue) (vs : List PartValue) (n : ℕ) → IsFlagSet of vs n → (0 < n) × (n ≤ 3)
flag_range of vs n (low e a) = (omega (arith, a), omega (arith, a))
flag_range of vs n (high e a) = (omega (arith, a), omega (arith, a))
flag_range of vs n (both e a) = (omega (arith, a), omega (arith, a))

no_flags : sum_by flag_number [] ≡ 0
no_flags = refl

module _ (of : Bool → PartValue) (ones : (b c : Bool) → part_order (of b) (of c) ≡ Less → (b ≡ false) × (c ≡ true))
    (number : (b : Bool) → flag_number (of b) ≡ flag_number (OfEvent b)) where
  abbrev IsOf : PartValue → Type 0
  IsOf v = (b : Bool) × (v ≡ of b)

  less_of : (v w : PartValue) (b c : Bool) → v ≡ of b → w ≡ of c → part_order v w ≡ Less → (b ≡ false) × (c ≡ true)
  less_of v w b c e d less = ones b c (sym (ap₂ part_order e d) ∙ less)

  flag_is : (v : PartValue) (b : Bool) → v ≡ of b → flag_number v ≡ flag_number (OfEvent b)
  flag_is v b e = ap flag_number e ∙ number b

  one_of : (v : PartValue) (b : Bool) → v ≡ of b → IsFlagSet of (v ∷ []) (sum_by flag_number (v ∷ []))
  one_of v false e = low (ap (λ (w : PartValue). w ∷ []) e) (omega (arith, no_flags, sum_by-cons flag_number v [], flag_is v false e))
  one_of v true e = high (ap (λ (w : PartValue). w ∷ []) e) (omega (arith, no_flags, sum_by-cons flag_number v [], flag_is v true e))

  pub flag_set : (vs : List PartValue) → AllByRecursion IsOf vs → IsAscending vs → 0 < length vs → IsFlagSet of vs (sum_by flag_number vs)
  unfolding IsStrictlySortedBy
  flag_set [] all up some = absurd (omega (arith, some))
  flag_set (v ∷ []) all up some = one_of v all.0.0 all.0.1
  flag_set (v ∷ w ∷ []) all up some =
      let less = less_of v w all.0.0 all.1.0.0 all.0.1 all.1.0.1 up.0.0 in
      let first : v ≡ of false = all.0.1 ∙ ap of less.0 in
      let second : w ≡ of true = all.1.0.1 ∙ ap of less.1 in
      both (ap₂ (λ (x y : PartValue). x ∷ y ∷ []) first second)
      (omega (arith, no_flags, sum_by-cons flag_number v (w ∷ []), sum_by-cons flag_number w [], flag_is v false first, flag_is w true second))
  flag_set (v ∷ w ∷ x ∷ xs) all up some =
      let less = less_of v w all.0.0 all.1.0.0 all.0.1 all.1.0.1 up.0.0 in
      let more = less_of w x all.1.0.0 all.1.1.0.0 all.1.0.1 all.1.1.0.1 up.1.0.0 in
      absurd (cc (less.1, more.0))

event_ones : (b c : Bool) → part_order (OfEvent b) (OfEvent c) ≡ Less → (b ≡ false) × (c ≡ true)
event_ones false true e = (refl, refl)
event_ones false false e = absurd (cc)
event_ones true false e = absurd (cc)
event_ones true true e = absurd (cc)

alarm_ones : (b c : Bool) → part_order (OfAlarm b) (OfAlarm c) ≡ Less → (b ≡ false) × (c ≡ true)
alarm_ones false true e = (refl, refl)
alarm_ones false false e = absurd (cc)
alarm_ones true false e = absurd (cc)
alarm_ones true true e = absurd (cc)

module _ (app : App) (p : Point) where
  events : (t : TaskNo) (j : EventNo) (vs : List PartValue) → AllByRecursion (IsPart app p (component.Event t j)) vs → AllByRecursion (λ (v : PartValue). (b : Bool) × (v ≡ OfEvent b)) vs
  events t j [] all = tt
  events t j (OfTask v ∷ vs) all = absurd all.0
  events t j (OfEvent b ∷ vs) all = ((b, refl), events t j vs all.1)
  events t j (OfAlarm b ∷ vs) all = absurd all.0
  events t j (OfSource v ∷ vs) all = absurd all.0

  alarms : (a : AlarmNo) (vs : List PartValue) → AllByRecursion (IsPart app p (component.Alarm a)) vs → AllByRecursion (λ (v : PartValue). (b : Bool) × (v ≡ OfAlarm b)) vs
  alarms a [] all = tt
  alarms a (OfTask v ∷ vs) all = absurd all.0
  alarms a (OfEvent b ∷ vs) all = absurd all.0
  alarms a (OfAlarm b ∷ vs) all = ((b, refl), alarms a vs all.1)
  alarms a (OfSource v ∷ vs) all = absurd all.0

  pub event_set : (t : TaskNo) (j : EventNo) (vs : List PartValue) → AreGoodValues app p (component.Event t j) vs → IsFlagSet OfEvent vs (sum_by flag_number vs)
  event_set t j vs h = flag_set OfEvent event_ones (λ b. refl) vs (events t j vs (recursion_from_All (IsPart app p (component.Event t j)) vs h.allowed)) h.ascending h.some

  pub alarm_set : (a : AlarmNo) (vs : List PartValue) → AreGoodValues app p (component.Alarm a) vs → IsFlagSet OfAlarm vs (sum_by flag_number vs)
  alarm_set a vs h = flag_set OfAlarm alarm_ones (λ b. refl) vs (alarms a vs (recursion_from_All (IsPart app p (component.Alarm a)) vs h.allowed)) h.ascending h.some

pub one_flags : (of : Bool → PartValue) (vs ws : List PartValue) (r s : List ℕ) → IsFlagSet of vs (sum_by flag_number vs) → IsFlagSet of ws (sum_by flag_number ws) → flags vs ++ r ≡ flags ws ++ s → (vs ≡ ws) × (r ≡ s)
one_flags of vs ws r s h g e =
    let same : sum_by flag_number ws ≡ sum_by flag_number vs = cc in
    let rest : r ≡ s = cc in
    (one_flag_set of vs ws (sum_by flag_number vs) h (subst (IsFlagSet of ws) same g), rest)

pub flags_clash : (of : Bool → PartValue) (vs : List PartValue) (rest bytes : List ℕ) (f : Fault) → IsFlagSet of vs (sum_by flag_number vs)
    → bytes ≡ flags vs ++ rest → IsFlagsFault bytes f → ⊥
flags_clash of vs rest [] f h e bad = absurd (cc)
flags_clash of vs rest (n ∷ bytes) f h e bad =
    let same : n ≡ sum_by flag_number vs = cc in
    let range = flag_range of vs (sum_by flag_number vs) h in
    elim bad.0 [ inl none ↦ omega (arith, same, range.0, none) | inr above ↦ omega (arith, same, range.1, above) ]

pub one_flags_fault : (bytes : List ℕ) (f g : Fault) → IsFlagsFault bytes f → IsFlagsFault bytes g → f ≡ g
one_flags_fault [] f g h d = h ∙ sym d
one_flags_fault (n ∷ bytes) f g h d = h.1 ∙ sym d.1
