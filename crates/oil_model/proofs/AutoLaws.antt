-- The bits that AUTO chooses are the lowest that are free.
use Rattle.std.proofs.Common.{◌≡◌, ℕ, zero, suc, ◌+◌, ◌*◌, ◌<◌, ◌^◌, ◌⊎◌, inl, inr, ⊎_elim, List, [], ◌∷◌, refl, sym, ap, ◌∙◌, subst, below_more, arith}
use Rattle.std.specs.{Prelude.{Option, Some, None, bit_and, bit_or, max, slice_get, unwrap_or}, Int.{bit_at}}
use Rattle.std.proofs.lemmas.Nat.{pow_pos, Bits.{bit_at-zero, bit_at-lt, bit_at_or, and_pow}}
use Rattle.oil_system.specs.declared.system.EventObject.{EventObject}
use Rattle.oil_tree.specs.declared.tree.Object.{Object}
use Rattle.oil_model.specs.AutoBits.{declared, IsTaken, stated, chosen, IsLowestFree, lowest, none_left}
use Rattle.oil_model.specs.{Objects.{explicit, explicit_bits, free_from, free_bit, mask_by, mask_of, used_after}, Systems.{event, events, events_from}}
use Rattle.oil_model.proofs.FreeBits as free

some_same : {X : Type 0} {x y : X} → Some x ≡ Some y → x ≡ y
some_same e = cc

-- ---- bits

-- a bit is 0 or 1
each_bit : (b : ℕ) → b < 2 → (b ≡ 0) ⊎ (b ≡ 1)
each_bit zero lt = inl refl
each_bit (suc zero) lt = inr refl
each_bit (suc (suc b)) lt = absurd (omega (arith, lt))

of_two : (x y : ℕ) → max x y ≡ 1 → x < 2 → (x ≡ 1) ⊎ (y ≡ 1)
of_two zero y e lt = inr (omega (arith, e))
of_two (suc zero) y e lt = inl refl
of_two (suc (suc x)) y e lt = absurd (omega (arith, lt))

first_of_two : (x y : ℕ) → x ≡ 1 → y < 2 → max x y ≡ 1
first_of_two x y e lt = omega (arith, e, lt)

second_of_two : (x y : ℕ) → x < 2 → y ≡ 1 → max x y ≡ 1
second_of_two x y lt e = omega (arith, e, lt)

abbrev Has : ℕ → ℕ → Type 0
Has m k = bit_at m k ≡ 1

or_has : (a b k : ℕ) → Has (bit_or a b) k → Has a k ⊎ Has b k
or_has a b k h = of_two (bit_at a k) (bit_at b k) (sym (bit_at_or a b k) ∙ h) (bit_at-lt a k)

has_or_left : (a b k : ℕ) → Has a k → Has (bit_or a b) k
has_or_left a b k h = bit_at_or a b k ∙ first_of_two (bit_at a k) (bit_at b k) h (bit_at-lt b k)

has_or_right : (a b k : ℕ) → Has b k → Has (bit_or a b) k
has_or_right a b k h = bit_at_or a b k ∙ second_of_two (bit_at a k) (bit_at b k) (bit_at-lt a k) h

none_has : (k : ℕ) → Has 0 k → ⊥
none_has k h = let e : 0 ≡ 1 = sym (bit_at-zero k) ∙ h in omega (arith, e)

-- ---- the lowest free bit of a number

not_free : (used k : ℕ) → Has used k → bit_and used (2 ^ k) ≡ 0 → ⊥
not_free used k h e =
    let one : 1 * 2 ^ k ≡ 0 = ap (λ (b : ℕ). b * 2 ^ k) (sym h) ∙ (sym (and_pow used k) ∙ e) in
    let some : 0 < 2 ^ k = pow_pos k in
    omega (arith, one, some)

is_free : (used k : ℕ) → bit_at used k ≡ 0 → bit_and used (2 ^ k) ≡ 0
is_free used k e = let none : bit_and used (2 ^ k) ≡ 0 * 2 ^ k = and_pow used k ∙ ap (λ (b : ℕ). b * 2 ^ k) e in omega (arith, none)

lowest_from : (used k n : ℕ) → k + n ≡ 64 → ((l : ℕ) → l < k → Has used l) → IsLowestFree (Has used) (free_from used k n)
lowest_from used k zero e below = none_left (λ l lt. below l (omega (arith, lt, e))) (free.free_none used k)
lowest_from used k (suc n) e below =
    ⊎_elim
    (λ off. lowest k (omega (arith, e)) (λ on. let wrong : 0 ≡ 1 = sym off ∙ on in omega (arith, wrong)) below (free.here used k n (is_free used k off)))
    (λ on. subst (IsLowestFree (Has used)) (sym (free.next used k n (not_free used k on))) (lowest_from used (k + 1) n (omega (arith, e)) (below_more (Has used) k below on)))
    (each_bit (bit_at used k) (bit_at-lt used k))

lowest_by : (T U : ℕ → Type 0) (m : ℕ) → ((k : ℕ) → T k → U k) → ((k : ℕ) → U k → T k) → IsLowestFree T m → IsLowestFree U m
lowest_by T U m to from (lowest k lt free below e) = lowest k lt (λ u. free (from k u)) (λ l less. to l (below l less)) e
lowest_by T U m to from (none_left all e) = none_left (λ l lt. to l (all l lt)) e

-- ---- what the explicit masks take

record States (events : List Object) (k : ℕ) : Type 0 where
  at : ℕ
  value : ℕ
  event_there : Object
  there : slice_get events at ≡ Some event_there
  is : explicit event_there ≡ Some value
  bit : Has value k

first_states : (e : Object) (more : List Object) (k : ℕ) (o : Option ℕ) → explicit e ≡ o → Has (unwrap_or o 0) k → States (e ∷ more) k
first_states e more k None is h = absurd (none_has k h)
first_states e more k (Some v) is h = record { at = 0; value = v; event_there = e; there = refl; is = is; bit = h }

later_states : (e : Object) (more : List Object) (k : ℕ) → States more k → States (e ∷ more) k
later_states e more k s = record { at = suc s.at; value = s.value; event_there = s.event_there; there = s.there; is = s.is; bit = s.bit }

-- the bits of masks: some that were there before, or stated by an event
states : (used : ℕ) (es : List Object) (k : ℕ) → Has (explicit_bits used es) k → Has used k ⊎ States es k
states used [] k h = inl h
states used (e ∷ es) k h =
    ⊎_elim
    (λ early. ⊎_elim (λ old. inl old) (λ new. inr (first_states e es k (explicit e) refl new)) (or_has used (unwrap_or (explicit e) 0) k early))
    (λ s. inr (later_states e es k s))
    (states (bit_or used (unwrap_or (explicit e) 0)) es k h)

stays : (used : ℕ) (es : List Object) (k : ℕ) → Has used k → Has (explicit_bits used es) k
stays used [] k h = h
stays used (e ∷ es) k h = stays (bit_or used (unwrap_or (explicit e) 0)) es k (has_or_left used (unwrap_or (explicit e) 0) k h)

stated_has : (used : ℕ) (es : List Object) (k j v : ℕ) (e : Object) → slice_get es j ≡ Some e → explicit e ≡ Some v → Has v k → Has (explicit_bits used es) k
stated_has used [] k j v e there is h = absurd cc
stated_has used (x ∷ es) k zero v e there is h =
    let same : x ≡ e = cc in
    let value : unwrap_or (explicit x) 0 ≡ v = ap (λ (o : Object). unwrap_or (explicit o) 0) same ∙ ap (λ (o : Option ℕ). unwrap_or o 0) is in
    stays (bit_or used (unwrap_or (explicit x) 0)) es k (has_or_right used (unwrap_or (explicit x) 0) k (subst (λ (m : ℕ). Has m k) (sym value) h))
stated_has used (x ∷ es) k (suc j) v e there is h = stated_has (bit_or used (unwrap_or (explicit x) 0)) es k j v e there is h

-- ---- what earlier events take

-- the bits that are used before event i
abbrev used_at : ℕ → List Object → ℕ → ℕ
used_at used [] i = used
used_at used (e ∷ es) zero = used
used_at used (e ∷ es) (suc i) = used_at (used_after used e) es i

event_at : (used : ℕ) (es : List Object) (i : ℕ) (e : Object) → slice_get es i ≡ Some e → slice_get (events_from used es) i ≡ Some (event (mask_of (used_at used es i) e) e)
event_at used [] i e there = absurd cc
event_at used (x ∷ es) zero e there = let same : x ≡ e = cc in ap (λ (o : Object). Some (event (mask_of used o) o)) same
event_at used (x ∷ es) (suc i) e there = event_at (used_after used x) es i e there

record Took (used : ℕ) (events : List Object) (i k : ℕ) : Type 0 where
  at : ℕ
  event_there : Object
  before : at < i
  there : slice_get events at ≡ Some event_there
  bit : Has (mask_of (used_at used events at) event_there) k

took : (used : ℕ) (es : List Object) (i k : ℕ) → Has (used_at used es i) k → Has used k ⊎ Took used es i k
took used [] i k h = inl h
took used (x ∷ es) zero k h = inl h
took used (x ∷ es) (suc i) k h =
    ⊎_elim
    (λ early. ⊎_elim (λ old. inl old) (λ new. inr (record { at = 0; event_there = x; before = omega arith; there = refl; bit = new })) (or_has used (mask_of used x) k early))
    (λ t. inr (record { at = suc t.at; event_there = t.event_there; before = omega (arith, t.before); there = t.there; bit = t.bit }))
    (took (used_after used x) es i k h)

keeps : (used : ℕ) (es : List Object) (i k : ℕ) → Has used k → Has (used_at used es i) k
keeps used [] i k h = h
keeps used (x ∷ es) zero k h = h
keeps used (x ∷ es) (suc i) k h = keeps (used_after used x) es i k (has_or_left used (mask_of used x) k h)

took_has : (used : ℕ) (es : List Object) (i k j : ℕ) (e : Object) → j < i → slice_get es j ≡ Some e → Has (mask_of (used_at used es j) e) k → Has (used_at used es i) k
took_has used [] i k j e lt there h = absurd cc
took_has used (x ∷ es) zero k j e lt there h = absurd (omega (arith, lt))
took_has used (x ∷ es) (suc i) k zero e lt there h =
    let same : e ≡ x = cc in
    keeps (used_after used x) es i k (has_or_right used (mask_of used x) k (subst (λ (o : Object). Has (mask_of used o) k) same h))
took_has used (x ∷ es) (suc i) k (suc j) e lt there h = took_has (used_after used x) es i k j e (omega (arith, lt)) there h

-- ---- the law

module _ (objects : List Object) (i : ℕ) where
  abbrev all : ℕ
  all = explicit_bits 0 (declared objects)

  taken_by_mask : (k : ℕ) → Has all k → IsTaken objects i k
  taken_by_mask k h = ⊎_elim (λ none. absurd (none_has k none)) (λ s. stated s.at s.value s.event_there s.there s.is s.bit) (states 0 (declared objects) k h)

  taken_by_event : (k j : ℕ) (e : Object) → j < i → slice_get (declared objects) j ≡ Some e → (o : Option ℕ) → explicit e ≡ o → Has (mask_by o (used_at all (declared objects) j)) k → IsTaken objects i k
  taken_by_event k j e lt there (Some v) is h = stated j v e there is h
  taken_by_event k j e lt there None is h =
      let used = used_at all (declared objects) j in
      chosen j e (event (mask_of used e) e) lt there is (event_at all (declared objects) j e there) (subst (λ (o : Option ℕ). Has (mask_by o used) k) (sym is) h)

  taken : (k : ℕ) → Has (used_at all (declared objects) i) k → IsTaken objects i k
  taken k h =
      ⊎_elim (λ old. taken_by_mask k old) (λ t. taken_by_event k t.at t.event_there t.before t.there (explicit t.event_there) refl t.bit) (took all (declared objects) i k h)

  used : (k : ℕ) → IsTaken objects i k → Has (used_at all (declared objects) i) k
  used k (stated j v e there is h) = keeps all (declared objects) i k (stated_has 0 (declared objects) k j v e there is h)
  used k (chosen j e x lt there auto found h) =
      let same : x ≡ event (mask_of (used_at all (declared objects) j) e) e = some_same (sym found ∙ event_at all (declared objects) j e there) in
      took_has all (declared objects) i k j e lt there (subst (λ (y : EventObject). Has y.mask.0 k) same h)

  -- each event has a mask: the explicit one, or the lowest free bit
  pub event_of : (e : Object) → slice_get (declared objects) i ≡ Some e → slice_get (events objects) i ≡ Some (event (mask_of (used_at all (declared objects) i) e) e)
  event_of e there = event_at all (declared objects) i e there

  pub named : (e : Object) (x : EventObject) → slice_get (declared objects) i ≡ Some e → slice_get (events objects) i ≡ Some x → x.name ≡ e.name
  named e x there found = ap (λ (y : EventObject). y.name) (some_same (sym found ∙ event_of e there))

  pub as_stated : (e : Object) (x : EventObject) (v : ℕ) → slice_get (declared objects) i ≡ Some e → explicit e ≡ Some v → slice_get (events objects) i ≡ Some x → x.mask.0 ≡ v
  as_stated e x v there is found =
      ap (λ (y : EventObject). y.mask.0) (some_same (sym found ∙ event_of e there)) ∙ ap (λ (o : Option ℕ). mask_by o (used_at all (declared objects) i)) is

  pub lowest_free : (e : Object) (x : EventObject) → slice_get (declared objects) i ≡ Some e → explicit e ≡ None → slice_get (events objects) i ≡ Some x → IsLowestFree (IsTaken objects i) x.mask.0
  lowest_free e x there auto found =
      let before = used_at all (declared objects) i in
      let mask : x.mask.0 ≡ free_bit before =
      ap (λ (y : EventObject). y.mask.0) (some_same (sym found ∙ event_of e there)) ∙ ap (λ (o : Option ℕ). mask_by o before) auto in
      subst (IsLowestFree (IsTaken objects i)) (sym mask) (lowest_by (Has before) (IsTaken objects i) (free_bit before) taken used (lowest_from before 0 64 refl (λ l lt. absurd (omega (arith, lt)))))
