-- A number comes to those at a point: to a new end, or to the one that is there.
use Rattle.std.proofs.Common.{◌≡◌, ◌≢◌, ℕ, ◌<◌, ◌^◌, Bool, true, false, ◌||◌, List, [], ◌∷◌, ◌++◌, length, get_or, set, refl, sym, ap, subst, ◌∙◌, inl, inr, arith, get_or-set_same, get_or-set_other}
use Rattle.std.specs.Prelude.{◌==◌, Contains}
use Rattle.std.proofs.lemmas.Bool.{cases_eq, eq-eqb, eqb-true, or_cases}
use Rattle.std.proofs.lemmas.List.{length-set, Elements.{Contains-append_left, Contains-push, Contains-push_cases}}
use Rattle.bit_words.proofs.BitCounts.{has_either, has_one}
use Rattle.osek_standard.specs.declared.point.Point.{Point}
use Rattle.abstract_state.specs.declared.value.Domain.{Domain}
use Rattle.numbered_sets.specs.Numbers.{Numbers, numbers, has_number, with_number}
use Rattle.point_exits.specs.{declared.group.NumberEnd.{NumberEnd}, Deciding.{HasNumbersOf, HaveNumbersOf, IsNumberPut}}
use Rattle.point_exits.proofs.{NumberLaws.{number_fills}, NumbersPassing.{none_passes_bit}}

module _ (x : Numbers) (n : ℕ) where
  -- what a set has with a number besides
  has_with : (m : ℕ) → has_number (with_number x n) m ≡ (has_number x m || (m == n))
  has_with m = has_either x.bits (2 ^ n) m ∙ ap (λ (b : Bool). has_number x m || b) (has_one n m)

  has_it : has_number (with_number x n) n ≡ true
  has_it = has_with n ∙ ap (λ (b : Bool). has_number x n || b) (eq-eqb n n refl) ∙ or_true (has_number x n)
    where
      or_true : (b : Bool) → (b || true) ≡ true
      or_true true = refl
      or_true false = refl

  has_still : (m : ℕ) → has_number x m ≡ true → has_number (with_number x n) m ≡ true
  has_still m has = has_with m ∙ ap (λ (b : Bool). b || (m == n)) has

-- a new end
module _ (c : ℕ) (d : Domain) (p : Point) (n : ℕ) (xs : List NumberEnd) where
  abbrev first : NumberEnd
  first = record { component = c; numbers = with_number (numbers d 0) n; target = p }

  only : (m : ℕ) → has_number first.numbers m ≡ true → m ≡ n
  only m has = eqb-true m n (sym (has_with (numbers d 0) n m ∙ ap (λ (b : Bool). b || (m == n)) (none_passes_bit m)) ∙ has)

  pub end_new : (ys : List NumberEnd) → ys ≡ xs ++ first ∷ [] → IsNumberPut p n xs ys
  end_new ys pushed = subst (IsNumberPut p n xs) (sym pushed) (record {
    kept = λ q m at. record { end = at.end; listed = Contains-append_left xs (first ∷ []) at.end at.listed; target = at.target; has = at.has };
    there = record { end = first; listed = Contains-push xs first; target = refl; has = has_it (numbers d 0) n };
    from = λ q m at. elim (Contains-push_cases xs first at.end at.listed) [
      | inl old ↦ inl (record { end = at.end; listed = old; target = at.target; has = at.has })
      | inr same ↦ inr (sym at.target ∙ ap (λ (e : NumberEnd). e.target) (sym same), only m (ap (λ (e : NumberEnd). has_number e.numbers m) same ∙ at.has))
    ];
  })

  pub some_new : (ys : List NumberEnd) → ys ≡ xs ++ first ∷ [] → HaveNumbersOf c d xs → HaveNumbersOf c d ys
  some_new ys pushed h = subst (HaveNumbersOf c d) (sym pushed) (λ x m. elim (Contains-push_cases xs first x m) [
    | inl old ↦ h x old
    | inr same ↦ subst (HasNumbersOf c d) same (record { component = refl; domain = refl; some = number_fills first.numbers n (has_it (numbers d 0) n) })
  ])

-- an end that is there
module _ (p : Point) (n : ℕ) (xs : List NumberEnd) (k : ℕ) (lt : k < length xs) (old new : NumberEnd) (at : (none : NumberEnd) → get_or xs k none ≡ old) (here : old.target ≡ p) (of_it : new.component ≡ old.component) (goes : new.target ≡ old.target) (more : new.numbers ≡ with_number old.numbers n) where
  abbrev after : List NumberEnd
  after = set xs k new

  long : length after ≡ length xs
  long = length-set xs k new

  new_there : Contains after new
  new_there = (k, omega (arith, lt, long), get_or-set_same xs k new new lt)

  old_there : Contains xs old
  old_there = (k, lt, at old)

  other_there : (x : NumberEnd) (m : Contains xs x) → m.0 ≢ k → Contains after x
  other_there x m differ = (let below = m.1 in (m.0, omega (arith, below, long), get_or-set_other xs k m.0 new x differ ∙ m.2))

  other_before : (x : NumberEnd) (m : Contains after x) → m.0 ≢ k → Contains xs x
  other_before x m differ = (let below = m.1 in (m.0, omega (arith, below, long), sym (get_or-set_other xs k m.0 new x differ) ∙ m.2))

  -- who stands at the place
  is_new : (x : NumberEnd) (m : Contains after x) → m.0 ≡ k → new ≡ x
  is_new x m same = sym (get_or-set_same xs k new x lt) ∙ ap (λ (i : ℕ). get_or after i x) (sym same) ∙ m.2

  is_old : (x : NumberEnd) (m : Contains xs x) → m.0 ≡ k → old ≡ x
  is_old x m same = sym (at x) ∙ ap (λ (i : ℕ). get_or xs i x) (sym same) ∙ m.2

  has_new : (m : ℕ) → has_number new.numbers m ≡ (has_number old.numbers m || (m == n))
  has_new m = ap (λ (x : Numbers). has_number x m) more ∙ has_with old.numbers n m

  has_put : has_number new.numbers n ≡ true
  has_put = ap (λ (x : Numbers). has_number x n) more ∙ has_it old.numbers n

  put_there : IsNumberPut p n xs after
  put_there = record {
    kept = λ q m h. elim (cases_eq h.listed.0 k) [
      | inl same ↦
          (let its = is_old h.end h.listed same in
          record {
            end = new;
            listed = new_there;
            target = goes ∙ ap (λ (e : NumberEnd). e.target) its ∙ h.target;
            has = ap (λ (x : Numbers). has_number x m) more ∙ has_still old.numbers n m (ap (λ (e : NumberEnd). has_number e.numbers m) its ∙ h.has);
          })
      | inr differ ↦ record { end = h.end; listed = other_there h.end h.listed differ; target = h.target; has = h.has }
    ];
    there = record { end = new; listed = new_there; target = goes ∙ here; has = has_put };
    from = λ q m h. elim (cases_eq h.listed.0 k) [
      | inl same ↦
          (let its = is_new h.end h.listed same in
          let at_it : old.target ≡ q = sym goes ∙ ap (λ (e : NumberEnd). e.target) its ∙ h.target in
          elim (or_cases (has_number old.numbers m) (m == n) (sym (has_new m) ∙ ap (λ (e : NumberEnd). has_number e.numbers m) its ∙ h.has)) [
            | inl before ↦ inl (record { end = old; listed = old_there; target = at_it; has = before })
            | inr number ↦ inr (sym at_it ∙ here, eqb-true m n number)
          ])
      | inr differ ↦ inl (record { end = h.end; listed = other_before h.end h.listed differ; target = h.target; has = h.has })
    ];
  }

  pub end_there : (ys : List NumberEnd) → ys ≡ set xs k new → IsNumberPut p n xs ys
  end_there ys is = subst (IsNumberPut p n xs) (sym is) put_there

  pub some_there : (c : ℕ) (d : Domain) (ys : List NumberEnd) → ys ≡ set xs k new → HaveNumbersOf c d xs → HaveNumbersOf c d ys
  some_there c d ys is h = subst (HaveNumbersOf c d) (sym is) (λ x m. elim (cases_eq m.0 k) [
    | inl same ↦ subst (HasNumbersOf c d) (is_new x m same) (record { component = of_it ∙ (h old old_there).component; domain = ap (λ (y : Numbers). y.domain) more ∙ (h old old_there).domain; some = number_fills new.numbers n has_put })
    | inr differ ↦ h x (other_before x m differ)
  ])
