-- What passes, and what a set has once the values that pass were put in.
use Rattle.std.proofs.Common.{◌≡◌, ℕ, zero, suc, ◌<◌, Bool, true, false, not, ◌&&◌, ◌||◌, List, [], ◌∷◌, ◌++◌, length, IsTrue, get_or, refl, sym, ap, subst, ◌∙◌, inl, inr, arith}
use Rattle.std.specs.{Prelude.{◌==◌}, List.{list_any}}
use Rattle.std.proofs.lemmas.Bool.{cases_Bool, eq-eqb, eqb-true, or_cases, or_left, or_right}
use Rattle.abstract_state.specs.{declared.{value.{PartValue.{PartValue}, Domain.{Domain}}, table.ValueSet.{ValueSet}}, ValueOrder.{same_part, IsAscending}}
use Rattle.abstract_state.specs.Tables.{is_member, empty_of}
use Rattle.abstract_state.proofs.OrderLaws.{part_right, part_itself, ascending_none}
use Rattle.flow_model.specs.{declared.{test.Condition.{Condition}, rule.Rule.{Rule}}, Tests.{passes, is_failed, PassesAt, value_after}}
use Rattle.point_exits.specs.Passing.{Origin, ArePassed}

not_twice : (b : Bool) → not b ≡ false → b ≡ true
not_twice true e = refl
not_twice false e = absurd (cc)

-- none fails exactly where each condition on the component passes
pub none_fails : (xs : List Condition) (c : ℕ) (v : PartValue) → PassesAt xs c v → list_any (is_failed c v) xs ≡ false
none_fails [] c v h = refl
none_fails (x ∷ xs) c v h =
    let more = none_fails xs c v (λ y m e. h y (suc m.0, omega (arith, m.1), m.2) e) in
    elim (cases_Bool (x.component.0 == c)) [
      | inl same ↦ (let p : passes x.test v ≡ true = h x (zero, omega arith, refl) (eqb-true x.component.0 c same) in rw same (rw p more))
      | inr other ↦ (rw other more)
    ]

first_passes : (x : Condition) (c : ℕ) (v : PartValue) (y : Condition) → is_failed c v x ≡ false → y.component.0 ≡ c → x ≡ y → passes y.test v ≡ true
first_passes x c v y first e is =
    let same : (x.component.0 == c) ≡ true = eq-eqb x.component.0 c (ap (λ (z : Condition). z.component.0) is ∙ e) in
    let f : not (passes x.test v) ≡ false = subst (λ (b : Bool). b && not (passes x.test v) ≡ false) same first in
    ap (λ (z : Condition). passes z.test v) (sym is) ∙ not_twice (passes x.test v) f

by_place : (x : Condition) (xs : List Condition) (c : ℕ) (v : PartValue) (y : Condition) → is_failed c v x ≡ false → y.component.0 ≡ c → PassesAt xs c v → (k : ℕ) → k < length (x ∷ xs) → get_or (x ∷ xs) k y ≡ y → passes y.test v ≡ true
by_place x xs c v y first e more zero lt is = first_passes x c v y first e is
by_place x xs c v y first e more (suc k) lt is = more y (k, omega (arith, lt), is) e

pub each_passes : (xs : List Condition) (c : ℕ) (v : PartValue) → list_any (is_failed c v) xs ≡ false → PassesAt xs c v
each_passes [] c v h y m e = absurd (omega (arith, m.1))
each_passes (x ∷ xs) c v h y m e =
    let first : is_failed c v x ≡ false = elim (cases_Bool (is_failed c v x)) [ inl f ↦ absurd (let g : list_any (is_failed c v) (x ∷ xs) ≡ true = or_left (is_failed c v x) (list_any (is_failed c v) xs) f in cc) | inr f ↦ f ] in
    let later : list_any (is_failed c v) xs ≡ false = elim (cases_Bool (list_any (is_failed c v) xs)) [ inl f ↦ absurd (let g : list_any (is_failed c v) (x ∷ xs) ≡ true = or_right (is_failed c v x) (list_any (is_failed c v) xs) f in cc) | inr f ↦ f ] in
    by_place x xs c v y first e (each_passes xs c v later) m.0 m.1 m.2

-- a value at the end of a list
pub any_end : (test : PartValue → Bool) (xs : List PartValue) (v : PartValue) → list_any test (xs ++ v ∷ []) ≡ (list_any test xs || test v)
any_end test [] v = elim (cases_Bool (test v)) [ inl e ↦ (rw e refl) | inr e ↦ (rw e refl) ]
any_end test (x ∷ xs) v = elim (cases_Bool (test x)) [ inl e ↦ (rw e refl) | inr e ↦ (rw e (any_end test xs v)) ]

-- a set with one value more
pub record IsWithValue (old : ValueSet) (v : PartValue) (new : ValueSet) : Type 0 where
  pub domain : new.domain ≡ old.domain
  pub ascending : IsAscending new.members
  pub members : (w : PartValue) → is_member new w ≡ (is_member old w || same_part w v)

module _ (rule : Rule) (c : ℕ) (d : Domain) (old : List PartValue) (v : PartValue) (set : ValueSet) (h : ArePassed rule c d old set) where
  wider : (w : PartValue) → Origin rule c old w → Origin rule c (old ++ v ∷ []) w
  wider w o = record { was = o.was; there = any_end (same_part o.was) old v ∙ or_left (list_any (same_part o.was) old) (same_part o.was v) o.there; passes = o.passes; becomes = o.becomes }

  -- the value passes
  pub passed_one : (new : ValueSet) → list_any (is_failed c v) rule.conditions ≡ false → IsWithValue set (value_after rule.changes c v) new → ArePassed rule c d (old ++ v ∷ []) new
  passed_one new f n =
      let made = value_after rule.changes c v in
      record {
        domain = n.domain ∙ h.domain;
        ascending = n.ascending;
        from = λ w m. elim (or_cases (is_member set w) (same_part w made) (sym (n.members w) ∙ m)) [
          | inl before ↦ wider w (h.from w before)
          | inr is ↦
              (record {
                was = v;
                there = any_end (same_part v) old v ∙ or_right (list_any (same_part v) old) (same_part v v) (part_itself v);
                passes = each_passes rule.conditions c v f;
                becomes = sym (part_right w made is);
              })
        ];
        to = λ w m p. elim (or_cases (list_any (same_part w) old) (same_part w v) (sym (any_end (same_part w) old v) ∙ m)) [
          | inl before ↦ n.members (value_after rule.changes c w) ∙ or_left (is_member set (value_after rule.changes c w)) (same_part (value_after rule.changes c w) made) (h.to w before p)
          | inr last ↦
              (let is : w ≡ v = part_right w v last in
              subst (λ (u : PartValue). IsTrue (is_member new (value_after rule.changes c u))) (sym is)
              (n.members made ∙ or_right (is_member set made) (same_part made made) (part_itself made)))
        ];
      }

pub passed_none : (rule : Rule) (c : ℕ) (d : Domain) → ArePassed rule c d [] (empty_of d)
passed_none rule c d = record { domain = refl; ascending = ascending_none; from = λ v m. absurd (cc); to = λ v m p. absurd (cc) }
