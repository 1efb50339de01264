-- Bytes begin with the values of a component or have a fault of theirs, and likewise of a set.
use Rattle.std.proofs.Common.{◌≡◌, ◌⊎◌, ℕ, zero, suc, ◌+◌, ◌^◌, ◌<◌, List, [], ◌∷◌, ◌++◌, length, refl, sym, ap, subst, ◌∙◌, inl, inr, arith, append_assoc}
use Rattle.std.specs.{Int.{to_be_bytes, w32}, List.{flat_map}}
use Rattle.std.proofs.lemmas.{Bool.{cases_lt}, List.{length_push}}
use Rattle.osek_values.specs.declared.numbers.{TaskNo.{TaskNo}, SourceNo.{SourceNo}}
use Rattle.osek_standard.specs.{declared.{app.App.{App}, point.Point.{Point}}, Apps.{source_count}}
use Rattle.abstract_state.specs.declared.value.{Component.{Component}, PartValue.{PartValue, TheVariants.{OfEvent, OfAlarm}}}
use Rattle.abstract_state.specs.declared.value.Component.TheVariants as component
use Rattle.abstract_state.specs.{declared.table.ValueSet.{ValueSet}, ValueOrder.{IsAscending}, Components.{IsComponent}, Domains.{domain_of}}
use Rattle.table_codec.specs.{declared.fault.{Fault.{Fault}, TableRule.TheVariants.{K1, K3, K4}}, Spelling.{value_bytes}, Shapes.{shaped}, SourceShapes.{shaped_source}}
use Rattle.table_codec.specs.Faults.{fault_at, IsNextFault, bad_value, not_above, IsListedFault, bad_count, count_cut, count_none, bad_list, IsFlagsFault, IsSetFault}
use Rattle.table_codec.specs.{Values.{IsReadValue}, Sets.{IsFlagNumber, flagged, IsReadList, IsReadSet}}
use Rattle.table_codec.proofs.Decisions.{Decided, decide_ascending, AreBytes, bytes_behind, long_word}
use Rattle.table_codec.proofs.{SomeShapes.{some_shape, some_source_shape}, SomeValues.{ValueFound, value_found}, SomeSourceValues.{source_value_found}, FlagReads.{event_read, alarm_read}}
use Rattle.table_codec.proofs.ReadSoFar.{AreValuesSoFar, no_values, next_value}

-- ---- the values of a component, of which each next one is found

abbrev pub ListFound : App → Point → Component → List ℕ → Type 0
ListFound app p k bytes = ((vs : List PartValue) × (rest : List ℕ) × IsReadList app p k bytes rest vs) ⊎ ((f : Fault) × IsListedFault app p k bytes f)

module _ (app : App) (p : Point) (k : Component) (found : (bytes : List ℕ) → AreBytes bytes → ValueFound app p k bytes) (bytes : List ℕ) (count : ℕ) (some : 0 < count) (fits : count < 2 ^ 32) where
  values_from : (left : ℕ) (vs : List PartValue) (rest : List ℕ) → AreValuesSoFar app p k count bytes vs rest → count ≡ length vs + left → AreBytes rest → ListFound app p k bytes
  values_from zero vs rest h e all =
      let whole : length vs ≡ count = omega (arith, e) in
      inl (
        vs,
        rest,
        record {
          good = record { values = record { some = omega (arith, some, whole); allowed = h.allowed; ascending = h.ascending }; few = omega (arith, fits, whole) };
          are = h.are ∙ ap (λ (n : ℕ). to_be_bytes w32 n ++ (flat_map value_bytes vs ++ rest)) (sym whole) ∙ sym (append_assoc (to_be_bytes w32 (length vs)) (flat_map value_bytes vs) rest);
        },
      )
  values_from (suc left) vs rest h e all = by_next (found rest all) (λ more after k d l. values_from left more after k d l)
    where
      Goes : Type 0
      Goes = (more : List PartValue) (after : List ℕ) → AreValuesSoFar app p k count bytes more after → count ≡ length more + left → AreBytes after → ListFound app p k bytes

      bad : (f : Fault) → IsNextFault app p k vs rest f → ListFound app p k bytes
      bad f next = inr (f, bad_list (record { count = count; values = vs; rest = rest; few = omega (arith, e); fits = fits; allowed = h.allowed; ascending = h.ascending; are = h.are; next = next }))

      by_order : (v : PartValue) (after : List ℕ) → IsReadValue app p k rest after v → Decided (IsAscending (vs ++ v ∷ [])) → Goes → ListFound app p k bytes
      by_order v after read (inl above) goes =
          goes (vs ++ v ∷ []) after (next_value app p k count bytes vs rest after v h (record { allowed = read.allowed; above = above; are = read.are })) (omega (arith, e, length_push vs v))
          (bytes_behind rest (value_bytes v) after read.are all)
      by_order v after read (inr bars) goes = bad (fault_at K4 rest) (not_above v after read.allowed read.are bars refl)

      by_next : ValueFound app p k rest → Goes → ListFound app p k bytes
      by_next (inl read) goes = by_order read.0 read.1 read.2 (decide_ascending (vs ++ read.0 ∷ [])) goes
      by_next (inr fault) goes = bad fault.0 (bad_value fault.1)

module _ (app : App) (p : Point) (k : Component) (found : (bytes : List ℕ) → AreBytes bytes → ValueFound app p k bytes) where
  by_count : (bytes : List ℕ) (n : ℕ) (rest : List ℕ) → n < 2 ^ 32 → bytes ≡ to_be_bytes w32 n ++ rest → AreBytes rest → ListFound app p k bytes
  by_count bytes zero rest fits e all = inr (fault_at K3 bytes, bad_count (count_none rest e refl))
  by_count bytes (suc n) rest fits e all = values_from app p k found bytes (suc n) (omega arith) fits (suc n) [] rest (no_values app p k (suc n) bytes rest e) (omega arith) all

  list_from : (bytes : List ℕ) → AreBytes bytes → ListFound app p k bytes
  list_from [] all = inr (fault_at K1 [], bad_count (count_cut (omega arith) refl))
  list_from (a ∷ []) all = inr (fault_at K1 (a ∷ []), bad_count (count_cut (omega arith) refl))
  list_from (a ∷ b ∷ []) all = inr (fault_at K1 (a ∷ b ∷ []), bad_count (count_cut (omega arith) refl))
  list_from (a ∷ b ∷ c ∷ []) all = inr (fault_at K1 (a ∷ b ∷ c ∷ []), bad_count (count_cut (omega arith) refl))
  list_from (a ∷ b ∷ c ∷ d ∷ rest) all =
      let n = long_word a b c d (all 0) (all 1) (all 2) (all 3) in
      by_count (a ∷ b ∷ c ∷ d ∷ rest) n.0 rest n.1 (ap (λ (l : List ℕ). l ++ rest) (sym n.2)) (λ i. all (suc (suc (suc (suc i)))))

task_list : (app : App) (p : Point) (t : TaskNo) → t.0 < length app.tasks → (bytes : List ℕ) → AreBytes bytes → ListFound app p (component.Task t) bytes
task_list app p t known bytes all =
    let x = some_shape app t known p in
    subst (λ (q : Point). ListFound app q (component.Task t) bytes) x.2
    (subst (λ (u : TaskNo). ListFound app x.0.point (component.Task u) bytes) x.3 (list_from app x.0.point (shaped x.0) (value_found app x.0 x.1) bytes all))

source_list : (app : App) (p : Point) (k : SourceNo) → k.0 < source_count app → (bytes : List ℕ) → AreBytes bytes → ListFound app p (component.Source k) bytes
source_list app p k known bytes all =
    let x = some_source_shape app k known p in
    subst (λ (q : Point). ListFound app q (component.Source k) bytes) x.2
    (subst (λ (l : SourceNo). ListFound app x.0.point (component.Source l) bytes) x.3 (list_from app x.0.point (shaped_source x.0) (source_value_found app x.0 x.1) bytes all))

-- ---- a set

-- a byte of flags
flags_found : (bytes : List ℕ) → ((n : ℕ) × (rest : List ℕ) × IsFlagNumber n × (bytes ≡ n ∷ rest)) ⊎ ((f : Fault) × IsFlagsFault bytes f)
flags_found [] = inr (fault_at K1 [], refl)
flags_found (zero ∷ rest) = inr (fault_at K3 (zero ∷ rest), (inl refl, refl))
flags_found (suc n ∷ rest) = elim (cases_lt 3 (suc n)) [
  | inl more ↦ inr (fault_at K3 (suc n ∷ rest), (inr more, refl))
  | inr few ↦ inl (suc n, rest, (omega arith, few), refl)
]

abbrev pub SetFound : App → Point → Component → List ℕ → Type 0
SetFound app p k bytes = ((set : ValueSet) × (rest : List ℕ) × IsReadSet app p k bytes rest set) ⊎ ((f : Fault) × IsSetFault app p k bytes f)

module _ (app : App) (p : Point) where
  pub set_found : (k : Component) → IsComponent app k → (bytes : List ℕ) → AreBytes bytes → SetFound app p k bytes
  set_found (component.Task t) known bytes all = elim (task_list app p t known bytes all) [
    | inl h ↦ inl (record { domain = domain_of app (component.Task t); members = h.0 }, h.1, record { good = h.2.good; domain = refl; are = h.2.are })
    | inr bad ↦ inr bad
  ]
  set_found (component.Event t j) known bytes all = elim (flags_found bytes) [
    | inl h ↦ inl (record { domain = domain_of app (component.Event t j); members = flagged OfEvent h.0 }, h.1, event_read app p h.0 bytes h.1 (flagged OfEvent h.0) h.2 h.3 t j refl)
    | inr bad ↦ inr bad
  ]
  set_found (component.Alarm a) known bytes all = elim (flags_found bytes) [
    | inl h ↦ inl (record { domain = domain_of app (component.Alarm a); members = flagged OfAlarm h.0 }, h.1, alarm_read app p h.0 bytes h.1 (flagged OfAlarm h.0) h.2 h.3 a refl)
    | inr bad ↦ inr bad
  ]
  set_found (component.Source k) known bytes all = elim (source_list app p k known bytes all) [
    | inl h ↦ inl (record { domain = domain_of app (component.Source k); members = h.0 }, h.1, record { good = h.2.good; domain = refl; are = h.2.are })
    | inr bad ↦ inr bad
  ]
