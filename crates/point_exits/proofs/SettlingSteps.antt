-- Groups are settled one after another: who comes in by a decision is one task, or none.
use Rattle.std.proofs.Common.{◌≡◌, ◌≢◌, ℕ, ◌+◌, ◌<◌, ◌≤◌, Bool, true, false, List, [], length, get_or, set, refl, sym, ap, subst, ◌∙◌, inl, inr, arith, Some, None, get_or-set_same, get_or-set_other}
use Rattle.std.specs.{Prelude.{◌==◌, is_some, Contains}, declared.option.Option.{Option}}
use Rattle.std.proofs.{Math.{ListN.{get_or-map}, Logic.{∥∥₁_elim}}, lemmas.{Bool.{and_parts, cases_Bool, cases_eq, eq-eqb, false≢true, ne_eqb}, List.{get_or_default, length-map, length-set}}}
use Rattle.osek_values.specs.{Numbers.{task_no}, declared.numbers.TaskNo.{TaskNo}}
use Rattle.osek_standard.specs.{declared.{app.App.{App}, point.Point.{Point}}, Internal.{internal_of}}
use Rattle.abstract_state.specs.declared.value.PartValue.{PartValue}
use Rattle.flow_model.specs.declared.case.{Decision.{Decision}, Stay.{Stay}}
use Rattle.flow_model.specs.declared.change.Update.TheVariants as update
use Rattle.flow_model.specs.{Scheduling.{has_it_after, goes_inside}, Tests.{updated}}
use Rattle.flow_model.proofs.SettledValues.{goes_known, has_it_alone}
use Rattle.numbered_sets.specs.{declared.numbered_entry.NumberedEntry.{NumberedEntry}, Numbers.{Numbers}, NumberedEntries.{no_set, numbers_at}, Pools.{Values, values_at}, Made.{AreMade}}
use Rattle.point_exits.specs.declared.{insides.Insides.{Insides}, group.{NumberEnd.{NumberEnd}, Ends.{Ends}, ExitGroup.{ExitGroup}}}
use Rattle.point_exits.specs.declared.group.Ends.TheVariants as ends
use Rattle.point_exits.specs.{Levels.{AreNaming, inside_tasks}, Settling.{AreSettled, IsSettledEntry, IsSettledEnd, AreSettledEach, AreSettledEnds, IsSettledBy, IsSettledFor, IsSettledGroup, AreSettledFrom}}

-- ---- nobody comes in

module _ (goes : ℕ → Bool) (none : (c : ℕ) → goes c ≡ false) (pool : List Values) where
  same_numbers : (c : ℕ) (vs : List PartValue) (x : Numbers) → AreSettled (goes c) vs x x
  same_numbers c vs x = subst (λ (b : Bool). AreSettled b vs x x) (sym (none c)) refl

  same_ends : (xs : Ends) → AreSettledEnds goes pool xs xs
  same_ends (ends.At points) = refl
  same_ends (ends.With xs) = record {
    size = refl;
    each = λ i d lt. (let e = get_or xs i d in record { component = refl; target = refl; numbers = same_numbers e.component (values_at pool e.component) e.numbers });
  }

  pub settled_none : (g : ExitGroup) → IsSettledBy goes pool g g
  settled_none g = record {
    decision = refl;
    status = refl;
    entry = record { size = refl; each = λ c. same_numbers c (values_at pool c) (numbers_at g.entry c) };
    ends = same_ends g.ends;
  }

-- ---- one task comes in

pub task_listed : (insides : List Insides) (i : ℕ) (x : Insides) → i < length insides → ((d : Insides) → get_or insides i d ≡ x) → Contains (inside_tasks insides) x.task
task_listed insides i x lt is = (i, omega (arith, lt, length-map insides (λ (y : Insides). y.task)), get_or-map (λ (y : Insides). y.task) insides i x ∙ ap (λ (y : Insides). y.task) (is x))

module _ (app : App) (x : Stay) (d : Decision) where
  -- a task that comes in does so alone
  module _ (t : ℕ) (goes : goes_inside app x d t ≡ true) where
    alone : (c : ℕ) → goes_inside app x d c ≡ (c == t)
    alone c = elim (cases_eq c t) [
      | inl same ↦ ap (goes_inside app x d) same ∙ goes ∙ sym (eq-eqb c t same)
      | inr other ↦ elim (cases_Bool (goes_inside app x d c)) [
        | inl too ↦
            (let first = and_parts (has_it_after app x d c) (is_some (internal_of app c)) too in
            let second = and_parts (has_it_after app x d t) (is_some (internal_of app t)) goes in
            absurd (other (has_it_alone app c t (goes_known app x d c too) (goes_known app x d t goes) x d first.0 second.0)))
        | inr stays ↦ stays ∙ sym (ne_eqb c t other)
      ]
    ]

    pub goes_alone : goes_inside app x d ≡ λ c. c == t
    goes_alone = λ i c. alone c i

  module _ (insides : List Insides) (h : AreNaming app (length app.tasks) (inside_tasks insides)) where
    -- none of them has it
    pub none_goes : ((i : ℕ) (e : Insides) → i < length insides → has_it_after app x d (get_or insides i e).task.0 ≡ false) → (c : ℕ) → goes_inside app x d c ≡ false
    none_goes never c = elim (cases_Bool (goes_inside app x d c)) [
      | inr stays ↦ stays
      | inl goes ↦
          (let parts = and_parts (has_it_after app x d c) (is_some (internal_of app c)) goes in
          absurd (∥∥₁_elim (h.some c (goes_known app x d c goes) parts.1) (λ (a b : ⊥). absurd a) (λ m.
          let lt : m.0 < length insides = (let below = m.1 in omega (arith, below, length-map insides (λ (y : Insides). y.task))) in
          let some : Insides = record { task = task_no c; numbers = [] } in
          let is : (get_or insides m.0 some).task ≡ task_no c = sym (get_or-map (λ (y : Insides). y.task) insides m.0 some) ∙ m.2 in
          false≢true (sym (never m.0 some lt) ∙ ap (λ (t : TaskNo). has_it_after app x d t.0) is ∙ parts.0))))
    ]

-- ---- one end after another

module _ (goes : ℕ → Bool) (pool : List Values) (before : List NumberEnd) where
  pub record AreEndsUpTo (k : ℕ) (after : List NumberEnd) : Type 0 where
    pub size : length after ≡ length before
    pub done : (i : ℕ) (d : NumberEnd) → i < k → IsSettledEnd goes pool (get_or before i d) (get_or after i d)
    pub later : (i : ℕ) (d : NumberEnd) → k ≤ i → get_or after i d ≡ get_or before i d

  pub ends_begun : AreEndsUpTo 0 before
  ends_begun = record { size = refl; done = λ i d lt. absurd (omega (arith, lt)); later = λ i d past. refl }

  pub ends_ended : (k : ℕ) (after : List NumberEnd) → length before ≤ k → AreEndsUpTo k after → AreSettledEach goes pool before after
  ends_ended k after past h = record { size = h.size; each = λ i d lt. h.done i d (omega (arith, lt, past)) }

  pub ends_next : (k : ℕ) (after : List NumberEnd) (x y : NumberEnd) → k < length before → ((d : NumberEnd) → get_or after k d ≡ x) → AreEndsUpTo k after → IsSettledEnd goes pool x y → AreEndsUpTo (k + 1) (set after k y)
  ends_next k after x y lt at h is = record {
    size = length-set after k y ∙ h.size;
    done = λ i d below. elim (cases_eq i k) [
      | inl same ↦
          subst (λ (j : ℕ). IsSettledEnd goes pool (get_or before j d) (get_or (set after k y) j d)) (sym same)
          (subst (λ (e : NumberEnd). IsSettledEnd goes pool e (get_or (set after k y) k d)) (sym (at d) ∙ h.later k d (omega arith))
          (subst (IsSettledEnd goes pool x) (sym (get_or-set_same after k y d (omega (arith, lt, h.size)))) is))
      | inr other ↦ subst (IsSettledEnd goes pool (get_or before i d)) (sym (get_or-set_other after k i y d other)) (h.done i d (omega (arith, below, other)))
    ];
    later = λ i d above. get_or-set_other after k i y d (beyond i above) ∙ h.later i d (omega (arith, above));
  }
    where
      beyond : (i : ℕ) → k + 1 ≤ i → i ≢ k
      beyond i above same = omega (arith, above, same)

-- ---- the entry and the ends of one task

module _ (t : ℕ) (pool : List Values) where
  pub entry_brought : (entry after : NumberedEntry) → t < length entry.sets → after.sets ≡ set entry.sets t (numbers_at after t)
      → AreMade (updated update.Inside) (values_at pool t) (numbers_at entry t) (length (values_at pool t)) (numbers_at after t) → IsSettledEntry (λ c. c == t) pool entry after
  entry_brought entry after there rest made = record {
    size = ap length rest ∙ length-set entry.sets t (numbers_at after t);
    each = λ c. elim (cases_eq c t) [
      | inl same ↦
          subst (λ (k : ℕ). AreSettled (k == t) (values_at pool k) (numbers_at entry k) (numbers_at after k)) (sym same)
          (subst (λ (b : Bool). AreSettled b (values_at pool t) (numbers_at entry t) (numbers_at after t)) (sym (eq-eqb t t refl)) made)
      | inr other ↦
          subst (λ (b : Bool). AreSettled b (values_at pool c) (numbers_at entry c) (numbers_at after c)) (sym (ne_eqb c t other))
          (ap (λ (xs : List Numbers). get_or xs c no_set) rest ∙ get_or-set_other entry.sets t c (numbers_at after t) no_set other)
    ];
  }

  pub end_beside : (e : NumberEnd) → e.component ≢ t → IsSettledEnd (λ k. k == t) pool e e
  end_beside e other = record {
    component = refl;
    target = refl;
    numbers = subst (λ (b : Bool). AreSettled b (values_at pool e.component) e.numbers e.numbers) (sym (ne_eqb e.component t other)) refl;
  }

  pub end_there : (e : NumberEnd) (x : Numbers) → e.component ≡ t → AreMade (updated update.Inside) (values_at pool t) e.numbers (length (values_at pool t)) x → IsSettledEnd (λ k. k == t) pool e (record e { numbers = x })
  end_there e x same made = record {
    component = refl;
    target = refl;
    numbers =
        subst (λ (k : ℕ). AreSettled (k == t) (values_at pool k) e.numbers x) (sym same) (subst (λ (b : Bool). AreSettled b (values_at pool t) e.numbers x) (sym (eq-eqb t t refl)) made);
  }

  pub ends_at : (e : Ends) (points : List Point) → e ≡ ends.At points → AreSettledEnds (λ k. k == t) pool e e
  ends_at e points is = subst (λ (f : Ends). AreSettledEnds (λ k. k == t) pool f f) (sym is) refl

-- ---- one group after another

module _ (app : App) (pool : List Values) (x : Stay) (from : ℕ) (before : List ExitGroup) where
  pub record AreSettledUpTo (k : ℕ) (after : List ExitGroup) : Type 0 where
    pub size : length after ≡ length before
    pub first : (i : ℕ) (d : ExitGroup) → i < from → get_or after i d ≡ get_or before i d
    pub done : (i : ℕ) (d : ExitGroup) → from ≤ i → i < k → i < length before → IsSettledGroup app pool x (get_or before i d) (get_or after i d)
    pub later : (i : ℕ) (d : ExitGroup) → k ≤ i → get_or after i d ≡ get_or before i d

  pub settling_begun : AreSettledUpTo from before
  settling_begun = record { size = refl; first = λ i d lt. refl; done = λ i d past lt known. absurd (omega (arith, past, lt)); later = λ i d past. refl }

  pub settling_next : (k : ℕ) (after : List ExitGroup) (y : ExitGroup) → from ≤ k → k < length before → AreSettledUpTo k after → IsSettledGroup app pool x (get_or before k y) y → AreSettledUpTo (k + 1) (set after k y)
  settling_next k after y past lt h is = record {
    size = length-set after k y ∙ h.size;
    first = λ i d below. get_or-set_other after k i y d (apart i below) ∙ h.first i d below;
    done = λ i d above below known. elim (cases_eq i k) [
      | inl same ↦ subst (λ (j : ℕ). IsSettledGroup app pool x (get_or before j d) (get_or (set after k y) j d)) (sym same)
          (subst (λ (g : ExitGroup). IsSettledGroup app pool x g (get_or (set after k y) k d)) (get_or_default before k y d lt)
          (subst (IsSettledGroup app pool x (get_or before k y)) (sym (get_or-set_same after k y d (omega (arith, lt, h.size)))) is))
      | inr other ↦ subst (IsSettledGroup app pool x (get_or before i d)) (sym (get_or-set_other after k i y d other)) (h.done i d above (omega (arith, below, other)) known)
    ];
    later = λ i d above. get_or-set_other after k i y d (beyond i above) ∙ h.later i d (omega (arith, above));
  }
    where
      apart : (i : ℕ) → i < from → i ≢ k
      apart i below same = omega (arith, below, past, same)

      beyond : (i : ℕ) → k + 1 ≤ i → i ≢ k
      beyond i above same = omega (arith, above, same)

  pub settling_ended : (k : ℕ) (after : List ExitGroup) → length before ≤ k → AreSettledUpTo k after → AreSettledFrom app pool x from before after
  settling_ended k after past h = record { size = h.size; first = h.first; rest = λ i d above known. h.done i d above (omega (arith, known, past)) known }

  -- nobody names an INTERNAL resource
  group_itself : ((d : Decision) (c : ℕ) → goes_inside app x d c ≡ false) → (o : Option Decision) (g : ExitGroup) → IsSettledFor app pool x o g g
  group_itself none None g = refl
  group_itself none (Some d) g = settled_none (goes_inside app x d) (none d) pool g

  pub nobody_goes : ((d : Decision) (c : ℕ) → goes_inside app x d c ≡ false) → AreSettledFrom app pool x from before before
  nobody_goes none = record { size = refl; first = λ i d lt. refl; rest = λ i d above known. group_itself none (get_or before i d).decision (get_or before i d) }
