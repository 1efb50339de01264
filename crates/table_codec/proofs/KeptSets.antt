-- Entries whose empty sets are those of an entry before, set by set.
use Rattle.std.proofs.Common.{◌≡◌, ◌≢◌, ℕ, zero, suc, ◌+◌, ◌<◌, List, [], ◌∷◌, ◌++◌, length, map, get_or, set, refl, sym, ap, subst, ◌∙◌, inl, inr, arith, All, get_or-set_same, get_or-set_other}
use Rattle.std.proofs.{Math.{ListN.{get_or-eq_default}, Seq.{get_or-append_seam}}, lemmas.{Bool.{cases_eq}, List.{length-map, length-set, length_push, take_all, get_or_default, Elements.{All-nil}}}}
use Rattle.osek_standard.specs.declared.{app.App.{App}, point.Point.{Point}}
use Rattle.abstract_state.specs.declared.{value.{Domain.{Domain}, PartValue.{PartValue}}, table.{ValueSet.{ValueSet}, PlainEntry.{PlainEntry}}}
use Rattle.abstract_state.specs.{Components.{components, component_at, component_count}, Domains.{IsSound, IsWithin, domain_of}, Tables.{empty_set, set_at}}
use Rattle.abstract_state.proofs.OrderLaws.{ascending_none}
use Rattle.table_codec.specs.{declared.fault.Fault.{Fault}, Faults.{IsSetFault, IsEntryFault}, Kept.{members_or, set_or, sets_or, filled, no_row, IsKept, AreKept, AreNoneKept}, Sets.{IsReadSet, IsReadEntry}}
use Rattle.table_codec.proofs.ReadSoFar.{AreSetsSoFar, members, next_set}

abbrev entry_of : List ValueSet → PlainEntry
entry_of sets = record { sets = sets }

module _ (before : PlainEntry) where
  pub length_or : (c : ℕ) (sets : List ValueSet) → length (sets_or before c sets) ≡ length sets
  length_or c [] = refl
  length_or c (s ∷ sets) = ap suc (length_or (suc c) sets)

  pub domains_or : (c : ℕ) (sets : List ValueSet) → map (λ (s : ValueSet). s.domain) (sets_or before c sets) ≡ map (λ (s : ValueSet). s.domain) sets
  domains_or c [] = refl
  domains_or c (s ∷ sets) = ap (λ (ds : List Domain). s.domain ∷ ds) (domains_or (suc c) sets)

  or_push_from : (c n : ℕ) (sets : List ValueSet) (s : ValueSet) → n ≡ c + length sets → sets_or before c (sets ++ s ∷ []) ≡ sets_or before c sets ++ set_or (set_at before n) s ∷ []
  or_push_from c n [] s e = (let at : c ≡ n = omega (arith, e) in ap (λ (k : ℕ). set_or (set_at before k) s ∷ []) at)
  or_push_from c n (x ∷ sets) s e = ap (λ (xs : List ValueSet). set_or (set_at before c) x ∷ xs) (or_push_from (suc c) n sets s (omega (arith, e)))

  pub or_push : (n : ℕ) (sets : List ValueSet) (s : ValueSet) → length sets ≡ n → sets_or before 0 (sets ++ s ∷ []) ≡ sets_or before 0 sets ++ set_or (set_at before n) s ∷ []
  or_push n sets s e = or_push_from 0 n sets s (omega (arith, e))

  or_at_from : (c n k : ℕ) (sets : List ValueSet) (d : ValueSet) → k < length sets → n ≡ c + k → get_or (sets_or before c sets) k d ≡ set_or (set_at before n) (get_or sets k empty_set)
  or_at_from c n k [] d lt e = absurd (omega (arith, lt))
  or_at_from c n zero (s ∷ sets) d lt e = (let at : c ≡ n = omega (arith, e) in ap (λ (j : ℕ). set_or (set_at before j) s) at)
  or_at_from c n (suc k) (s ∷ sets) d lt e = or_at_from (suc c) n k sets d (omega (arith, lt)) (omega (arith, e))

  pub or_at : (k : ℕ) (sets : List ValueSet) (d : ValueSet) → k < length sets → get_or (sets_or before 0 sets) k d ≡ set_or (set_at before k) (get_or sets k empty_set)
  or_at k sets d lt = or_at_from 0 k k sets d lt (omega arith)

-- without an entry before, sets are what they are
members_alone : (vs : List PartValue) → members_or [] vs ≡ vs
members_alone [] = refl
members_alone (v ∷ vs) = refl

sets_alone : (c : ℕ) (sets : List ValueSet) → sets_or no_row.entry c sets ≡ sets
sets_alone c [] = refl
sets_alone c (s ∷ sets) = λ i. record { domain = s.domain; members = members_alone s.members i } ∷ sets_alone (suc c) sets i

pub filled_alone : (entry : PlainEntry) → filled no_row.entry entry ≡ entry
filled_alone entry = ap entry_of (sets_alone 0 entry.sets)

-- what an entry has itself is sound, if it is whole
sound_alone : (before : List PartValue) (d : Domain) (vs : List PartValue) → IsSound (record { domain = d; members = members_or before vs }) → IsSound (record { domain = d; members = vs })
sound_alone before d [] h = record { within = All-nil (IsWithin d); ascending = ascending_none }
sound_alone before d (v ∷ vs) h = h

pub sound_sets : (before entry : PlainEntry) → All IsSound (filled before entry).sets → All IsSound entry.sets
sound_sets before entry h = λ c d lt.
    let s = get_or entry.sets c empty_set in
    let whole : IsSound (set_or (set_at before c) s) = subst IsSound (or_at before c entry.sets d lt) (h c d (omega (arith, lt, length_or before 0 entry.sets))) in
    subst IsSound (get_or_default entry.sets c empty_set d lt) (sound_alone (set_at before c).members s.domain s.members whole)

push_other : {X : Type 0} (xs : List X) (y : X) (c : ℕ) (d : X) → c ≢ length xs → get_or (xs ++ y ∷ []) c d ≡ get_or xs c d
push_other [] y zero d differ = absurd (differ refl)
push_other [] y (suc c) d differ = refl
push_other (x ∷ xs) y zero d differ = refl
push_other (x ∷ xs) y (suc c) d differ = push_other xs y c d (λ e. differ (ap suc e))

module _ (app : App) (before : PlainEntry) where
  -- the bytes that are kept between two sets: those of the entry before for the sets to come
  pub record AreKeptSoFar (sets : List ValueSet) (kept : List (List ℕ)) : Type 0 where
    pub each : (c : ℕ) (none : List ℕ) → c < length kept → IsKept app (component_at app c) (get_or (sets_or before 0 sets) c (set_at before c)) (get_or kept c none)

  pub kept_begun : (kept : List (List ℕ)) → AreKept app before kept → AreKeptSoFar [] kept
  kept_begun kept h = record { each = λ c none lt. h.each c none lt }

  module _ (sets : List ValueSet) (kept : List (List ℕ)) (n : ℕ) (size : length sets ≡ n) (lt : n < length kept) (h : AreKeptSoFar sets kept) where
    pub kept_here : (none : List ℕ) → IsKept app (component_at app n) (set_at before n) (get_or kept n none)
    kept_here none =
        subst (λ (s : ValueSet). IsKept app (component_at app n) s (get_or kept n none))
        (get_or-eq_default (sets_or before 0 sets) (set_at before n) (omega (arith, size, length_or before 0 sets))) (h.each n none lt)

    pub kept_next : (s : ValueSet) (new : List ℕ) → IsKept app (component_at app n) (set_or (set_at before n) s) new → AreKeptSoFar (sets ++ s ∷ []) (set kept n new)
    kept_next s new is = record {
      each = λ c none below. elim (cases_eq c n) [
        | inl same ↦
            (let place : length (sets_or before 0 sets) ≡ n = omega (arith, size, length_or before 0 sets) in
            let set_there : get_or (sets_or before 0 (sets ++ s ∷ [])) n (set_at before n) ≡ set_or (set_at before n) s
            = ap (λ (xs : List ValueSet). get_or xs n (set_at before n)) (or_push before n sets s size)
            ∙ ap (λ (k : ℕ). get_or (sets_or before 0 sets ++ set_or (set_at before n) s ∷ []) k (set_at before n)) (sym place)
            ∙ get_or-append_seam (sets_or before 0 sets) (set_or (set_at before n) s) [] (set_at before n) in
            subst (λ (k : ℕ). IsKept app (component_at app k) (get_or (sets_or before 0 (sets ++ s ∷ [])) k (set_at before k)) (get_or (set kept n new) k none)) (sym same)
            (subst (IsKept app (component_at app n) (get_or (sets_or before 0 (sets ++ s ∷ [])) n (set_at before n))) (sym (get_or-set_same kept n new none lt))
            (subst (λ (x : ValueSet). IsKept app (component_at app n) x new) (sym set_there) is)))
        | inr differ ↦
            (let there : c < length kept = omega (arith, below, length-set kept n new) in
            let other : get_or (sets_or before 0 (sets ++ s ∷ [])) c (set_at before c) ≡ get_or (sets_or before 0 sets) c (set_at before c)
            = ap (λ (xs : List ValueSet). get_or xs c (set_at before c)) (or_push before n sets s size)
            ∙ push_other (sets_or before 0 sets) (set_or (set_at before n) s) c (set_at before c) (λ e. differ (e ∙ length_or before 0 sets ∙ size)) in
            subst (IsKept app (component_at app c) (get_or (sets_or before 0 (sets ++ s ∷ [])) c (set_at before c))) (sym (get_or-set_other kept n c new none differ))
            (subst (λ (x : ValueSet). IsKept app (component_at app c) x (get_or kept c none)) (sym other) (h.each c none there)))
      ];
    }

  pub kept_all : (sets : List ValueSet) (kept : List (List ℕ)) → length sets ≡ length kept → AreKeptSoFar sets kept → AreKept app (filled before (entry_of sets)) kept
  kept_all sets kept size h = record {
    each = λ c none lt.
        subst (λ (s : ValueSet). IsKept app (component_at app c) s (get_or kept c none))
        (get_or_default (sets_or before 0 sets) c (set_at before c) empty_set (omega (arith, lt, size, length_or before 0 sets)))
        (h.each c none lt);
  }

  module _ (p : Point) (bytes : List ℕ) where
    pub read_next : (sets : List ValueSet) (rest after : List ℕ) (n : ℕ) (s : ValueSet) → length sets ≡ n → n < component_count app → AreSetsSoFar app p bytes (sets_or before 0 sets) rest
        → IsReadSet app p (component_at app n) rest after (set_or (set_at before n) s) → AreSetsSoFar app p bytes (sets_or before 0 (sets ++ s ∷ [])) after
    read_next sets rest after n s size few h read =
        let place : n ≡ length (sets_or before 0 sets) = omega (arith, size, length_or before 0 sets) in
        subst (λ (xs : List ValueSet). AreSetsSoFar app p bytes xs after) (sym (or_push before n sets s size))
        (next_set app p bytes (sets_or before 0 sets) rest after (set_or (set_at before n) s) (omega (arith, few, place)) h
        (subst (λ (k : ℕ). IsReadSet app p (component_at app k) rest after (set_or (set_at before n) s)) place read))

    pub whole_entry : (sets : List ValueSet) (rest : List ℕ) → length sets ≡ component_count app → AreSetsSoFar app p bytes (sets_or before 0 sets) rest → IsReadEntry app p bytes rest (filled before (entry_of sets))
    whole_entry sets rest all h = record {
      good = h.good;
      domains = h.domains ∙ ap (map (domain_of app)) (take_all (length (sets_or before 0 sets)) (components app) (omega (arith, all, length_or before 0 sets)));
      are = h.are;
    }

    pub set_fault : (sets : List ValueSet) (rest : List ℕ) (n : ℕ) (f : Fault) → length sets ≡ n → n < component_count app → AreSetsSoFar app p bytes (sets_or before 0 sets) rest
        → IsSetFault app p (component_at app n) rest f → IsEntryFault app p bytes f
    set_fault sets rest n f size few h bad =
        let place : n ≡ length (members (sets_or before 0 sets)) = omega (arith, size, length_or before 0 sets, length-map (sets_or before 0 sets) (λ (x : ValueSet). x.members)) in
        record {
          sets = members (sets_or before 0 sets);
          rest = rest;
          few = omega (arith, few, place);
          good = h.good;
          are = h.are;
          next = subst (λ (k : ℕ). IsSetFault app p (component_at app k) rest f) place bad;
        }

pub none_kept : (app : App) (entry : PlainEntry) (count : ℕ) (kept : List (List ℕ)) → AreNoneKept count kept → AreKept app entry kept
none_kept app entry count kept h = record {
  each = λ c none lt some. absurd (omega (arith, some, ap (λ (bytes : List ℕ). length bytes) (h.none c none (omega (arith, lt, h.many)))));
}

pub one_more_none : (count : ℕ) (kept : List (List ℕ)) → AreNoneKept count kept → AreNoneKept (count + 1) (kept ++ [] ∷ [])
one_more_none count kept h = record {
  many = omega (arith, length_push kept [], h.many);
  none = λ c other lt. elim (cases_eq c (length kept)) [
    | inl same ↦ ap (λ (k : ℕ). get_or (kept ++ [] ∷ []) k other) same ∙ get_or-append_seam kept [] [] other
    | inr differ ↦ push_other kept [] c other differ ∙ h.none c other (omega (arith, lt, differ, h.many))
  ];
}
