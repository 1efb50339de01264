-- What changes do to sets of numbers, one component after another.
use Rattle.std.proofs.Common.{◌≡◌, ◌≢◌, ℕ, suc, ◌+◌, ◌<◌, ◌≤◌, Bool, true, false, ◌||◌, List, [], ◌∷◌, ◌++◌, length, get_or, set, take, drop, refl, sym, ap, subst, ◌∙◌, inl, inr, arith, IsTrue, get_or-set_same, get_or-set_other}
use Rattle.std.specs.{Prelude.{◌==◌, if◌then◌else◌}, List.{list_any}}
use Rattle.std.proofs.lemmas.{Bool.{cases_Bool, cases_eq, eq-eqb, ne_eqb, true≢false}, List.{length-set, length-take, length-drop, get_or-take, get_or-drop, get_or_default, take_more, take_all, take-append-drop, Folds.{list_any-append}}}
use Rattle.abstract_state.specs.{declared.{value.{Domain.{Domain}, PartValue.{PartValue}}, table.ValueSet.{ValueSet}}, Domains.{IsWithin}, Tables.{set_at, is_member}}
use Rattle.flow_model.specs.{declared.{change.Change.{Change}, test.Condition.{Condition}, rule.Rule.{Rule}}, Tests.{PassesAt, updated, value_after}}
use Rattle.numbered_sets.specs.{declared.numbered_entry.NumberedEntry.{NumberedEntry}, Numbers.{Numbers}, NumberedEntries.{no_set, numbers_at}, Pools.{Values, values_at, IsLonger}}
use Rattle.numbered_sets.specs.Views.{plain_set, plain_entry, AreNumbersOf}
use Rattle.numbered_sets.proofs.{PlainLaws.{plain_set_at, length_plain}, NumberingLaws.{longer_onward}}
use Rattle.flow_model.proofs.ChangeLaws.{after_both, change_here}
use Rattle.point_exits.specs.{Applying.{KeepsDomain, IsPassedSet}, Changing.{names, is_named, AreInOrder, up_to, making, StaysWithin, AreAllPassed}}
use Rattle.point_exits.proofs.NumbersPassing.{passed_on, alike_there}

-- ---- what becomes of a value

-- changes that don't name a component
pub unnamed_stays : (xs : List Change) (c : ℕ) (v : PartValue) → list_any (names c) xs ≡ false → value_after xs c v ≡ v
unnamed_stays [] c v none = refl
unnamed_stays (x ∷ xs) c v none = elim (cases_Bool (x.component.0 == c)) [
  | inl e ↦ absurd (true≢false (sym (ap (λ (b : Bool). b || list_any (names c) xs) e) ∙ none))
  | inr e ↦ ap (λ (b : Bool). value_after xs c (if b then updated x.update v else v)) e ∙ unnamed_stays xs c v (sym (ap (λ (b : Bool). b || list_any (names c) xs) e) ∙ none)
]

-- none of some changes names a component
none_names : (c : ℕ) (ys : List Change) → ((i : ℕ) (d : Change) → i < length ys → (get_or ys i d).component.0 ≢ c) → list_any (names c) ys ≡ false
none_names c [] others = refl
none_names c (y ∷ ys) others =
    ap (λ (b : Bool). b || list_any (names c) ys) (ne_eqb y.component.0 c (others 0 y (omega arith)))
    ∙ none_names c ys (λ i d less. others (suc i) d (omega (arith, less)))

-- of changes in order no other one names the component of one
module _ (xs : List Change) (k c : ℕ) (lt : k < length xs) (order : AreInOrder xs) (named : (x : Change) → get_or xs k x ≡ x → x.component.0 ≡ c) where
  its : (d : Change) → (get_or xs k d).component.0 ≡ c
  its d = named (get_or xs k d) (get_or_default xs k (get_or xs k d) d lt)

  pub none_before : is_named xs k c ≡ false
  none_before = none_names c (take k xs) (λ i d less same.
      let early : i < k = omega (arith, less, length-take k xs) in
      let below = order.each i k d early lt in
      let there = ap (λ (y : Change). y.component.0) (get_or-take k xs i d early) in
      let here = its d in
      omega (arith, below, there, here, same))

  pub none_behind : list_any (names c) (drop (k + 1) xs) ≡ false
  none_behind = none_names c (drop (k + 1) xs) (λ i d less same.
      let late : k + 1 + i < length xs = omega (arith, less, length-drop (k + 1) xs) in
      let below = order.each k (k + 1 + i) d (omega arith) late in
      let there = ap (λ (y : Change). y.component.0) (get_or-drop (k + 1) xs i d) in
      let here = its d in
      omega (arith, below, there, here, same))

or_false : (b : Bool) → (b || false) ≡ b
or_false true = refl
or_false false = refl

module _ (xs : List Change) (k : ℕ) (x : Change) (lt : k < length xs) (at : get_or xs k x ≡ x) where
  next : take (k + 1) xs ≡ take k xs ++ x ∷ []
  next = take_more xs k x lt ∙ ap (λ (y : Change). take k xs ++ y ∷ []) at

  -- no other change names its component
  pub alone_there : (c : ℕ) (v : PartValue) → x.component.0 ≡ c → is_named xs k c ≡ false → list_any (names c) (drop (k + 1) xs) ≡ false → value_after xs c v ≡ updated x.update v
  alone_there c v here before rest =
      ap (λ (ys : List Change). value_after ys c v) (sym (take-append-drop (k + 1) xs))
      ∙ after_both (take (k + 1) xs) (drop (k + 1) xs) c v
      ∙ unnamed_stays (drop (k + 1) xs) c (value_after (take (k + 1) xs) c v) rest
      ∙ ap (λ (ys : List Change). value_after ys c v) next
      ∙ after_both (take k xs) (x ∷ []) c v
      ∙ change_here x [] c (value_after (take k xs) c v) here
      ∙ ap (updated x.update) (unnamed_stays (take k xs) c v before)

  named_next : (c : ℕ) → is_named xs (k + 1) c ≡ (is_named xs k c || ((x.component.0 == c) || false))
  named_next c = ap (list_any (names c)) next ∙ list_any-append (names c) (take k xs) (x ∷ [])

  -- its component is named now
  pub named_now : (c : ℕ) → x.component.0 ≡ c → is_named xs (k + 1) c ≡ true
  named_now c same = named_next c ∙ ap (λ (b : Bool). is_named xs k c || (b || false)) (eq-eqb x.component.0 c same) ∙ or_true (is_named xs k c)
    where
      or_true : (b : Bool) → (b || true) ≡ true
      or_true true = refl
      or_true false = refl

  -- another is as before, and so is one that was named
  pub named_as_before : (c : ℕ) → (x.component.0 ≡ c → is_named xs k c ≡ true) → is_named xs (k + 1) c ≡ is_named xs k c
  named_as_before c h = elim (cases_eq x.component.0 c) [
    | inl same ↦ named_now c same ∙ sym (h same)
    | inr other ↦ named_next c ∙ ap (λ (b : Bool). is_named xs k c || (b || false)) (ne_eqb x.component.0 c other) ∙ or_false (is_named xs k c)
  ]

-- ---- what becomes of a set

-- rules that make the same of a component
pub passed_alike : (r q : Rule) (before : List Values) (c : ℕ) (old : Numbers) (pool : List Values) (new : Numbers) → r.conditions ≡ q.conditions → ((v : PartValue) → value_after r.changes c v ≡ value_after q.changes c v)
    → IsPassedSet r before c old pool new → IsPassedSet q before c old pool new
passed_alike r q before c old pool new same alike h = record {
  domain = h.domain;
  known = h.known;
  passed = record {
    domain = h.passed.domain;
    ascending = h.passed.ascending;
    from = λ v m.
        (let o = h.passed.from v m in
        record { was = o.was; there = o.there; passes = subst (λ (xs : List Condition). PassesAt xs c o.was) same o.passes; becomes = sym (alike o.was) ∙ o.becomes });
    to = λ v m p. subst (λ (w : PartValue). IsTrue (is_member (plain_set (values_at pool c) new) w)) (alike v) (h.passed.to v m (subst (λ (xs : List Condition). PassesAt xs c v) (sym same) p));
  };
}

-- conditions, and then changes
pub passed_then : (rule : Rule) (before : List Values) (c : ℕ) (old : Numbers) (pool : List Values) (new : Numbers) (after : List Values) (last : Numbers)
    → IsPassedSet (record rule { changes = [] }) before c old pool new → IsPassedSet (making rule.changes) pool c new after last → IsPassedSet rule before c old after last
passed_then rule before c old pool new after last h k = record {
  domain = k.domain ∙ h.domain;
  known = k.known;
  passed = record {
    domain = k.passed.domain ∙ h.domain;
    ascending = k.passed.ascending;
    from = λ w m.
        (let o = k.passed.from w m in
        let p = h.passed.from o.was o.there in
        record { was = p.was; there = p.there; passes = p.passes; becomes = ap (value_after rule.changes c) p.becomes ∙ o.becomes });
    to = λ v m p. k.passed.to v (h.passed.to v m p) (λ y listed _. absurd (let none = listed.1 in omega (arith, none)));
  };
}

-- ---- what becomes of the sets of an entry

module _ (rule : Rule) (k : ℕ) (x : Change) (lt : k < length rule.changes) (at : get_or rule.changes k x ≡ x) (before : List Values) (was : NumberedEntry) (pool : List Values) (sets : List Numbers)
    (h : AreAllPassed (up_to rule k) before was (length was.sets) pool sets) where
  abbrev Passed : ℕ → Bool → List Values → Numbers → Type 0
  Passed c named now s = IsPassedSet (record rule { changes = if named then rule.changes else [] }) before c (numbers_at was c) now s

  -- of a component that the change doesn't name, or that was named before
  as_before : (c : ℕ) → c < length was.sets → (x.component.0 ≡ c → is_named rule.changes k c ≡ true) → IsPassedSet (up_to rule (k + 1) c) before c (numbers_at was c) pool (get_or sets c no_set)
  as_before c less named = subst (λ (b : Bool). Passed c b pool (get_or sets c no_set)) (sym (named_as_before rule.changes k x lt at c named)) (h.each c less)

  pub changed_none : is_named rule.changes k x.component.0 ≡ true → AreAllPassed (up_to rule (k + 1)) before was (length was.sets) pool sets
  changed_none named = record {
    longer = h.longer;
    size = h.size;
    each = λ c less. as_before c less (λ same. subst (λ (j : ℕ). is_named rule.changes k j ≡ true) same named);
  }

  pub changed_beyond : length was.sets ≤ x.component.0 → AreAllPassed (up_to rule (k + 1)) before was (length was.sets) pool sets
  changed_beyond beyond = record {
    longer = h.longer;
    size = h.size;
    each = λ c less. as_before c less (λ same. absurd (omega (arith, same, less, beyond)));
  }

  pub changed_one : (after : List Values) (s : Numbers) → IsLonger pool after → is_named rule.changes k x.component.0 ≡ false → x.component.0 < length was.sets
      → IsPassedSet (making rule.changes) pool x.component.0 (get_or sets x.component.0 no_set) after s → AreAllPassed (up_to rule (k + 1)) before was (length was.sets) after (set sets x.component.0 s)
  changed_one after s longer none known made = record {
    longer = longer_onward before pool after h.longer longer;
    size = length-set sets x.component.0 s ∙ h.size;
    each = λ c less. elim (cases_eq x.component.0 c) [
      | inl same ↦ subst (λ (j : ℕ). IsPassedSet (up_to rule (k + 1) j) before j (numbers_at was j) after (get_or (set sets x.component.0 s) j no_set)) same here
      | inr differ ↦
          subst (IsPassedSet (up_to rule (k + 1) c) before c (numbers_at was c) after) (sym (get_or-set_other sets x.component.0 c s no_set (λ e. differ (sym e))))
          (passed_on (up_to rule (k + 1) c) before c (numbers_at was c) pool after (get_or sets c no_set) longer (as_before c less (λ same. absurd (differ same))))
    ];
  }
    where
      untouched : Passed x.component.0 false pool (get_or sets x.component.0 no_set)
      untouched = subst (λ (b : Bool). Passed x.component.0 b pool (get_or sets x.component.0 no_set)) none (h.each x.component.0 known)

      whole : Passed x.component.0 true after s
      whole = passed_then rule before x.component.0 (numbers_at was x.component.0) pool (get_or sets x.component.0 no_set) after s untouched made

      here : IsPassedSet (up_to rule (k + 1) x.component.0) before x.component.0 (numbers_at was x.component.0) after (get_or (set sets x.component.0 s) x.component.0 no_set)
      here =
          subst (IsPassedSet (up_to rule (k + 1) x.component.0) before x.component.0 (numbers_at was x.component.0) after)
          (sym (get_or-set_same sets x.component.0 s no_set (omega (arith, known, h.size))))
          (subst (λ (b : Bool). Passed x.component.0 b after s) (sym (named_now rule.changes k x lt at x.component.0 refl)) whole)

-- the changes make values of their domain, where the rule does
pub stays_within : (rule : Rule) (before : List Values) (entry : NumberedEntry) (k : ℕ) (pool : List Values) (new : NumberedEntry) → AreNumbersOf before entry
    → ((c : ℕ) → c < length (plain_entry before entry).sets → KeepsDomain rule c (set_at (plain_entry before entry) c)) → AreAllPassed (up_to rule k) before entry (length entry.sets) pool new.sets → StaysWithin rule.changes k pool new
stays_within rule before entry k pool new known keeps h = record {
  each = λ x v at less none m.
      (let there : x.component.0 < length entry.sets = omega (arith, less, h.size) in
      let passed : IsPassedSet (record rule { changes = [] }) before x.component.0 (numbers_at entry x.component.0) pool (get_or new.sets x.component.0 no_set) =
      subst (λ (b : Bool). IsPassedSet (record rule { changes = if b then rule.changes else [] }) before x.component.0 (numbers_at entry x.component.0) pool (get_or new.sets x.component.0 no_set)) none (h.each x.component.0 there) in
      let o = passed.passed.from v m in
      let plain = plain_set_at before entry x.component.0 in
      let kept = keeps x.component.0 (let long = length_plain before 0 entry.sets in omega (arith, there, long)) in
      let within = kept.each o.was (ap (λ (s : ValueSet). is_member s o.was) plain ∙ o.there) o.passes in
      let domain = ap (λ (s : ValueSet). s.domain) plain ∙ alike_there before pool entry x.component.0 (numbers_at entry x.component.0) known h.longer refl in
      subst (λ (d : Domain). IsWithin d (value_after rule.changes x.component.0 v)) domain
      (subst (IsWithin (set_at (plain_entry before entry) x.component.0).domain) (ap (value_after rule.changes x.component.0) o.becomes) within));
}

-- all changes were made
pub all_changes : (rule : Rule) (k : ℕ) (before : List Values) (entry : NumberedEntry) (n : ℕ) (pool : List Values) (sets : List Numbers) → length rule.changes ≤ k → AreAllPassed (up_to rule k) before entry n pool sets → AreAllPassed (λ c. rule) before entry n pool sets
all_changes rule k before entry n pool sets whole h = record {
  longer = h.longer;
  size = h.size;
  each = λ c lt. by_name c (is_named rule.changes k c) refl (h.each c lt);
}
  where
    by_name : (c : ℕ) (named : Bool) → is_named rule.changes k c ≡ named → IsPassedSet (record rule { changes = if named then rule.changes else [] }) before c (numbers_at entry c) pool (get_or sets c no_set) →
        IsPassedSet rule before c (numbers_at entry c) pool (get_or sets c no_set)
    by_name c true e passed = passed
    by_name c false e passed =
        passed_alike (record rule { changes = [] }) rule before c (numbers_at entry c) pool (get_or sets c no_set) refl
        (λ v. sym (unnamed_stays rule.changes c v (ap (list_any (names c)) (sym (take_all k rule.changes whole)) ∙ e))) passed
