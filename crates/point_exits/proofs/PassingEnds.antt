-- The ends of conditions, one condition after another.
use Rattle.std.proofs.Common.{◌≡◌, ℕ, ◌+◌, ◌<◌, ◌≤◌, List, [], ◌∷◌, ◌++◌, length, get_or, take, refl, sym, ap, subst, ◌∙◌, inl, inr}
use Rattle.std.specs.Prelude.{Contains}
use Rattle.std.proofs.lemmas.List.{take_more, take_all, Elements.{Contains-append_left, Contains-append_right, Contains-append_cases}}
use Rattle.osek_standard.specs.declared.point.Point.{Point}
use Rattle.osek_standard.proofs.Members.{among_contained, contained_among}
use Rattle.flow_model.specs.declared.test.{Condition.{Condition}}
use Rattle.numbered_sets.specs.{declared.numbered_entry.NumberedEntry.{NumberedEntry}, Numbers.{Numbers}, NumberedEntries.{numbers_at}}
use Rattle.numbered_sets.specs.{Passing.{IsSifted}, Pools.{Values, values_at}}
use Rattle.point_exits.specs.declared.group.NumberEnd.{NumberEnd}
use Rattle.point_exits.specs.Alternatives.{IsSiftedFor, IsPassingEnd, NonePasses, ArePassingEnds}

-- what a loop says of the numbers of a condition
pub sifted_for : (pool grown : List Values) (entry held : NumberedEntry) (y : Condition) (k : ℕ) (n m : Numbers)
    → grown ≡ pool → held ≡ entry → k ≡ y.component.0 → n ≡ m → IsSifted (values_at grown k) y.test (numbers_at held k) m → IsSiftedFor pool entry y n
sifted_for pool grown entry held y k n m pools entries at is h =
    subst (λ (q : List Values). IsSiftedFor q entry y n) pools
    (subst (λ (e : NumberedEntry). IsSiftedFor grown e y n) entries
    (subst (IsSiftedFor grown held y) (sym is) (subst (λ (c : ℕ). IsSifted (values_at grown c) y.test (numbers_at held c) m) at h)))

module _ (pool : List Values) (entry : NumberedEntry) (p : Point) (ys : List Condition) where
  pub no_condition : (xs : List NumberEnd) → xs ≡ [] → ArePassingEnds pool entry (take 0 ys) p xs
  no_condition xs none = record {
    each = λ x m. absurd (contained_among [] x (subst (λ (zs : List NumberEnd). Contains zs x) none m));
    some = λ y m. absurd (contained_among [] y m);
  }

  module _ (i : ℕ) (y : Condition) (lt : i < length ys) (at : get_or ys i y ≡ y) (xs : List NumberEnd) (h : ArePassingEnds pool entry (take i ys) p xs) where
    next : take (i + 1) ys ≡ take i ys ++ y ∷ []
    next = take_more ys i y lt ∙ ap (λ (z : Condition). take i ys ++ z ∷ []) at

    later : (z : Condition) → Contains (take i ys) z → Contains (take (i + 1) ys) z
    later z m = subst (λ (zs : List Condition). Contains zs z) (sym next) (Contains-append_left (take i ys) (y ∷ []) z m)

    last : Contains (take (i + 1) ys) y
    last = subst (λ (zs : List Condition). Contains zs y) (sym next) (Contains-append_right (take i ys) (y ∷ []) y (among_contained (y ∷ []) y (inl refl)))

    -- with an end for the next one
    pub end_more : (x : NumberEnd) (now : List NumberEnd) → now ≡ xs ++ x ∷ [] → IsPassingEnd pool entry p y x → ArePassingEnds pool entry (take (i + 1) ys) p now
    end_more x now added is = subst (ArePassingEnds pool entry (take (i + 1) ys) p) (sym added) (record {
      each = λ z m. elim (Contains-append_cases xs (x ∷ []) z m) [
        | inl old ↦ (let e = h.each z old in record { condition = e.condition; listed = later e.condition e.listed; is = e.is })
        | inr new ↦ elim (contained_among (x ∷ []) z new) [
          | inl same ↦ record { condition = y; listed = last; is = subst (IsPassingEnd pool entry p y) (sym same) is }
          | inr none ↦ absurd none
        ]
      ];
      some = λ z m. elim (Contains-append_cases (take i ys) (y ∷ []) z (subst (λ (zs : List Condition). Contains zs z) next m)) [
        | inl old ↦ elim (h.some z old) [
          | inl e ↦ inl (record { end = e.end; listed = Contains-append_left xs (x ∷ []) e.end e.listed; is = e.is })
          | inr none ↦ inr none
        ]
        | inr new ↦ elim (contained_among (y ∷ []) z new) [
          | inl same ↦ inl (record {
            end = x;
            listed = Contains-append_right xs (x ∷ []) x (among_contained (x ∷ []) x (inl refl));
            is = subst (λ (c : Condition). IsPassingEnd pool entry p c x) (sym same) is;
          })
          | inr none ↦ absurd none
        ]
      ];
    })

    -- and without, where no value passes it
    pub no_end : (now : List NumberEnd) → now ≡ xs → NonePasses pool entry y → ArePassingEnds pool entry (take (i + 1) ys) p now
    no_end now same none = subst (ArePassingEnds pool entry (take (i + 1) ys) p) (sym same) (record {
      each = λ z m. (let e = h.each z m in record { condition = e.condition; listed = later e.condition e.listed; is = e.is });
      some = λ z m. elim (Contains-append_cases (take i ys) (y ∷ []) z (subst (λ (zs : List Condition). Contains zs z) next m)) [
        | inl old ↦ h.some z old
        | inr new ↦ elim (contained_among (y ∷ []) z new) [
          | inl is ↦ inr (subst (NonePasses pool entry) (sym is) none)
          | inr nothing ↦ absurd nothing
        ]
      ];
    })

  pub all_asked : (i : ℕ) (xs : List NumberEnd) → length ys ≤ i → ArePassingEnds pool entry (take i ys) p xs → ArePassingEnds pool entry ys p xs
  all_asked i xs past h = subst (λ (zs : List Condition). ArePassingEnds pool entry zs p xs) (take_all i ys past) h
