-- The allowed part of an entry, set by set.
use Rattle.std.proofs.Common.{◌≡◌, ℕ, zero, suc, ◌+◌, ◌-◌, ◌<◌, Bool, true, false, ◌&&◌, ◌||◌, List, [], ◌∷◌, ◌++◌, length, get_or, take, map, All, refl, sym, ap, subst, ◌∙◌, inl, inr, arith}
use Rattle.std.specs.List.{list_any}
use Rattle.std.proofs.lemmas.{Bool.{cases_lt, and_parts}, List.{take_more, get_or_append_left, get_or-append_right, length-append}}
use Rattle.std.proofs.lemmas.{List.Elements.{All-contains, All-from_get_or, All-get_or, Contains-get_or}, Map.Views.{Contains-from_any, list_any-from_Contains}}
use Rattle.osek_standard.specs.declared.{app.App.{App}, point.Point.{Point}}
use Rattle.abstract_state.specs.declared.{value.{Domain.{Domain}, PartValue.{PartValue, TheVariants.{OfAlarm}}}, table.{ValueSet.{ValueSet}, PlainEntry.{PlainEntry}}}
use Rattle.abstract_state.specs.{ValueOrder.{same_part, IsAscending}, Domains.{IsWithin, IsSound, domains}, Tables.{is_member, empty_set, set_at}}
use Rattle.abstract_state.proofs.OrderLaws.{part_right, part_laws}
use Rattle.flow_rules.specs.Allowed.{may_be, IsPartOf, IsAllowedPart}
use Rattle.point_exits.proofs.Passing.{any_end}

passed_by : (a b t : Bool) → (b ≡ true → t ≡ false) → ((a || b) && t) ≡ (a && t)
passed_by true b t h = refl
passed_by false true t h = h refl
passed_by false false t h = refl

put_with : (a b t : Bool) → (b ≡ true → t ≡ true) → ((a && t) || b) ≡ ((a || b) && t)
put_with true true true h = refl
put_with true true false h = absurd (let e = h refl in cc)
put_with true false true h = refl
put_with true false false h = refl
put_with false true t h = sym (h refl)
put_with false false t h = refl

-- a value at the end of a list

-- the first values of a set that pass are put in
pub record IsPartUpTo (passes : PartValue → Bool) (set : ValueSet) (k : ℕ) (part : ValueSet) : Type 0 where
  pub domain : part.domain ≡ set.domain
  pub ascending : IsAscending part.members
  pub members : (w : PartValue) → is_member part w ≡ (list_any (same_part w) (take k set.members) && passes w)

module _ (passes : PartValue → Bool) (set : ValueSet) where
  module _ (k : ℕ) (part : ValueSet) (v : PartValue) (lt : k < length set.members) (is : get_or set.members k v ≡ v) (h : IsPartUpTo passes set k part) where
    more : (w : PartValue) → list_any (same_part w) (take (k + 1) set.members) ≡ (list_any (same_part w) (take k set.members) || same_part w v)
    more w = ap (list_any (same_part w)) (take_more set.members k v lt ∙ ap (λ (y : PartValue). take k set.members ++ y ∷ []) is) ∙ any_end (same_part w) (take k set.members) v

    its : (b : Bool) → passes v ≡ b → (w : PartValue) → same_part w v ≡ true → passes w ≡ b
    its b e w same = ap passes (part_right w v same) ∙ e

    pub part_passed : passes v ≡ false → IsPartUpTo passes set (k + 1) part
    part_passed e = record {
      domain = h.domain;
      ascending = h.ascending;
      members = λ w. h.members w ∙ sym (ap (λ (b : Bool). b && passes w) (more w) ∙ passed_by (list_any (same_part w) (take k set.members)) (same_part w v) (passes w) (its false e w));
    }

    pub part_put : passes v ≡ true → (new : ValueSet) → new.domain ≡ part.domain → IsAscending new.members → ((w : PartValue) → is_member new w ≡ (is_member part w || same_part w v)) → IsPartUpTo passes set (k + 1) new
    part_put e new same up m = record {
      domain = same ∙ h.domain;
      ascending = up;
      members = λ w. m w ∙ ap (λ (b : Bool). b || same_part w v) (h.members w)
          ∙ put_with (list_any (same_part w) (take k set.members)) (same_part w v) (passes w) (its true e w) ∙ sym (ap (λ (b : Bool). b && passes w) (more w));
    }

-- the first sets are done
pub record ArePartsUpTo (app : App) (p : Point) (entry : PlainEntry) (k : ℕ) (sets : List ValueSet) : Type 0 where
  pub size : length sets ≡ k
  pub each : (c : ℕ) → c < k → IsPartOf (may_be app p c) (set_at entry c) (get_or sets c empty_set)

module _ (app : App) (p : Point) (entry : PlainEntry) where
  pub parts_more : (k : ℕ) (sets : List ValueSet) (new : ValueSet) → ArePartsUpTo app p entry k sets → IsPartOf (may_be app p k) (set_at entry k) new → ArePartsUpTo app p entry (k + 1) (sets ++ new ∷ [])
  parts_more k sets new h last = record {
    size = (let long = length-append sets (new ∷ []) in omega (arith, long, h.size));
    each = λ c lt. elim (cases_lt c k) [
      | inl below ↦ subst (IsPartOf (may_be app p c) (set_at entry c)) (sym (get_or_append_left sets (new ∷ []) empty_set c (omega (arith, below, h.size)))) (h.each c below)
      | inr above ↦
          (let same : k ≡ c = omega (arith, above, lt) in
          let none_left : c - length sets ≡ 0 = omega (arith, h.size, same) in
          let last_is : get_or (new ∷ []) (c - length sets) empty_set ≡ new = ap (λ (i : ℕ). get_or (new ∷ []) i empty_set) none_left in
          let at : get_or (sets ++ new ∷ []) c empty_set ≡ new = get_or-append_right sets (new ∷ []) (length sets) c empty_set refl (omega (arith, h.size, same)) ∙ last_is in
          subst (IsPartOf (may_be app p c) (set_at entry c)) (sym at) (subst (λ (i : ℕ). IsPartOf (may_be app p i) (set_at entry i) new) same last))
    ];
  }

-- ---- it is a sound entry of the same domains

same_lists : (xs ys : List ValueSet) → length xs ≡ length ys → ((c : ℕ) → c < length ys → (get_or xs c empty_set).domain ≡ (get_or ys c empty_set).domain) → map (λ (set : ValueSet). set.domain) xs ≡ map (λ (set : ValueSet). set.domain) ys
same_lists [] [] e h = refl
same_lists [] (y ∷ ys) e h = absurd (omega (arith, e))
same_lists (x ∷ xs) [] e h = absurd (omega (arith, e))
same_lists (x ∷ xs) (y ∷ ys) e h =
    let first : x.domain ≡ y.domain = h zero (omega arith) in
    let rest = same_lists xs ys (omega (arith, e)) (λ c lt. h (suc c) (omega (arith, lt))) in
    ap (λ (d : Domain). d ∷ map (λ (set : ValueSet). set.domain) xs) first ∙ ap (λ (ds : List Domain). y.domain ∷ ds) rest

sound_part : (passes : PartValue → Bool) (set part : ValueSet) → IsSound set → IsPartOf passes set part → IsSound part
sound_part passes set part sound h = record {
  within = All-from_get_or (IsWithin part.domain) part.members (OfAlarm false) (λ k lt.
      (let v : PartValue = get_or part.members k (OfAlarm false) in
      let there : is_member part v ≡ true = list_any-from_Contains part_laws v part.members (Contains-get_or part.members k (OfAlarm false) lt) in
      let before : is_member set v ≡ true = (and_parts (is_member set v) (passes v) (sym (h.members v) ∙ there)).0 in
      subst (λ (d : Domain). IsWithin d v) (sym h.domain) (All-contains (IsWithin set.domain) set.members v sound.within (Contains-from_any part_right v set.members before))));
  ascending = h.ascending;
}

module _ (app : App) (p : Point) (entry part : PlainEntry) (h : IsAllowedPart app p entry part) where
  pub part_domains : domains part ≡ domains entry
  part_domains = same_lists part.sets entry.sets h.size (λ c lt. (h.each c lt).domain)

  pub part_sound : All IsSound entry.sets → All IsSound part.sets
  part_sound sound = All-from_get_or IsSound part.sets empty_set (λ c lt.
      (let there : c < length entry.sets = let same = h.size in omega (arith, lt, same) in
      sound_part (may_be app p c) (set_at entry c) (set_at part c) (All-get_or IsSound entry.sets c empty_set there sound) (h.each c there)))
