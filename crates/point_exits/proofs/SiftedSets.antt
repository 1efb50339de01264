-- What conditions leave of sets of numbers, and what a rule without changes makes of them.
use Rattle.std.proofs.Common.{◌≡◌, ℕ, ◌+◌, ◌<◌, ◌≤◌, Bool, true, false, not, ◌||◌, ◌&&◌, List, [], ◌∷◌, ◌++◌, length, get_or, set, refl, sym, ap, ap₂, subst, ◌∙◌, inl, inr, arith, get_or-set_other, IsTrue}
use Rattle.std.specs.{Prelude.{◌==◌}, List.{list_any}}
use Rattle.std.proofs.{Math.ListN.{get_or-eq_default}, lemmas.{Bool.{cases_eq, cases_lt, cases_order, and_parts, or_left, eq-eqb, false≢true}, List.{length-set, Folds.{list_any-append, list_any_at}}}}
use Rattle.abstract_state.specs.{declared.{value.PartValue.{PartValue}, table.ValueSet.{ValueSet}}, ValueOrder.{same_part}, Tables.{is_member}}
use Rattle.abstract_state.proofs.OrderLaws.{part_right}
use Rattle.flow_model.specs.declared.{test.{Test.{Test}, Condition.{Condition}}, rule.Rule.{Rule}}
use Rattle.flow_model.specs.declared.test.Test.TheVariants as test
use Rattle.flow_model.specs.{Tests.{passes, is_failed, PassesAt}, Rules.{HasNone}}
use Rattle.numbered_sets.specs.{declared.numbered_entry.NumberedEntry.{NumberedEntry}, Numbers.{Numbers, has_number}}
use Rattle.numbered_sets.specs.{NumberedEntries.{no_set, numbers_at, number_domains, AreFilled, HasEmptySet}, Pools.{Values, values_at, IsNumberOf}}
use Rattle.numbered_sets.specs.Views.{values_with, plain_set, plain_entry, AreNumbersOf}
use Rattle.numbered_sets.proofs.{PlainLaws.{ascending_in_order, member_of_plain, plain_set_at, length_plain}, ViewLaws.{false_unless}}
use Rattle.numbered_sets.proofs.{KnownNumbers.{found}, NumberingLaws.{longer_itself}, SiftLaws.{some_value}}
use Rattle.point_exits.proofs.Passing.{none_fails, each_passes}
use Rattle.point_exits.specs.{Passing.{AreTaken}, Applying.{IsPassedSet}, Changing.{up_to, AreAllPassed}, Sifting.{AreSifted, LeavesNone}}
use Rattle.point_exits.proofs.{NumbersPassing.{domains_alike}, SetValues.{no_member, some_left}}

both_pass : (a p q : Bool) → ((a && not p) && not q) ≡ (a && not (p || q))
both_pass true true q = refl
both_pass true false q = refl
both_pass false p q = refl

pub sifted_more : (pool : List Values) (xs : List Condition) (x : Condition) (a b e : NumberedEntry) → AreSifted pool xs a b → AreSifted pool (x ∷ []) b e → AreSifted pool (xs ++ x ∷ []) a e
sifted_more pool xs x a b e h k = record {
  as_many = k.as_many ∙ h.as_many;
  each = λ c lt.
      (let first = h.each c lt in
      let next = k.each c (omega (arith, lt, h.as_many)) in
      let vs = values_at pool c in
      record {
        domain = next.domain ∙ first.domain;
        fewer = λ n has. first.fewer n (next.fewer n has);
        values = λ v.
            next.values v
            ∙ ap (λ (m : Bool). m && not (list_any (is_failed c v) (x ∷ []))) (first.values v)
            ∙ both_pass (is_member (plain_set vs (numbers_at a c)) v) (list_any (is_failed c v) xs) (list_any (is_failed c v) (x ∷ []))
            ∙ ap (λ (f : Bool). is_member (plain_set vs (numbers_at a c)) v && not f) (sym (list_any-append (is_failed c v) xs (x ∷ [])));
      });
}

-- ---- what a rule takes

not_failed : (b : Bool) → not b ≡ true → b ≡ false
not_failed true e = absurd (cc)
not_failed false e = refl

module _ (pool : List Values) (rule : Rule) (entry new : NumberedEntry) (known : AreNumbersOf pool entry) (s : AreSifted pool rule.conditions entry new) where
  member_then : (c : ℕ) (v : PartValue) → c < length entry.sets → IsTrue (is_member (plain_set (values_at pool c) (numbers_at new c)) v)
      → IsTrue (is_member (plain_set (values_at pool c) (numbers_at entry c)) v) × PassesAt rule.conditions c v
  member_then c v lt m =
      let parts = and_parts (is_member (plain_set (values_at pool c) (numbers_at entry c)) v) (not (list_any (is_failed c v) rule.conditions)) (sym ((s.each c lt).values v) ∙ m) in
      (parts.0, each_passes rule.conditions c v (not_failed (list_any (is_failed c v) rule.conditions) parts.1))

  member_now : (c : ℕ) (v : PartValue) → c < length entry.sets → IsTrue (is_member (plain_set (values_at pool c) (numbers_at entry c)) v) → PassesAt rule.conditions c v
      → IsTrue (is_member (plain_set (values_at pool c) (numbers_at new c)) v)
  member_now c v lt m p = (s.each c lt).values v ∙ ap₂ (λ (a b : Bool). a && not b) m (none_fails rule.conditions c v p)

  pub known_sifted : (c : ℕ) → c < length entry.sets → (n : ℕ) → IsTrue (has_number (numbers_at new c) n) → n < length (values_at pool c)
  known_sifted c lt n has = known.known c n ((s.each c lt).fewer n has)

  sifted_passed : (c : ℕ) → c < length entry.sets → IsPassedSet (up_to rule 0 c) pool c (numbers_at entry c) pool (numbers_at new c)
  sifted_passed c lt = record {
    domain = (s.each c lt).domain;
    known = known_sifted c lt;
    passed = record {
      domain = (s.each c lt).domain;
      ascending = ascending_in_order (values_with (values_at pool c) (has_number (numbers_at new c)));
      from = λ v m. (let was = member_then c v lt m in record { was = v; there = was.0; passes = was.1; becomes = refl });
      to = λ v m p. member_now c v lt m p;
    };
  }

  -- without a change
  pub all_sifted : AreAllPassed (up_to rule 0) pool entry (length entry.sets) pool new.sets
  all_sifted = record { longer = longer_itself pool; size = s.as_many; each = sifted_passed }

  pub taken_of_filled : AreFilled new → AreTaken rule (plain_entry pool entry)
  taken_of_filled filled c lt =
      let less : c < length entry.sets = (let long = length_plain pool 0 entry.sets in omega (arith, lt, long)) in
      let some = some_value (values_at pool c) (numbers_at new c) (known_sifted c less) (filled.each c (omega (arith, less, s.as_many))) in
      let was = member_then c some.0 less some.1 in
      record { was = some.0; there = ap (λ (x : ValueSet). is_member x some.0) (plain_set_at pool entry c) ∙ was.0; passes = was.1 }

-- ---- what leaves no value

still_fails : (a b : Bool) → a ≡ true → (a && not b) ≡ false → b ≡ true
still_fails true true e h = refl
still_fails true false e h = sym h
still_fails false b e h = absurd (cc)

pub none_left : (pool : List Values) (xs : List Condition) (entry new : NumberedEntry) → AreSifted pool xs entry new → HasEmptySet new → LeavesNone pool xs entry
none_left pool xs entry new s empty =
    let c = empty.component in
    let less : empty.component < length entry.sets = (let there = empty.known in omega (arith, there, s.as_many)) in
    record {
      component = empty.component;
      known = less;
      none = λ v m.
          (let none : is_member (plain_set (values_at pool c) (numbers_at new c)) v ≡ false = no_member (values_at pool c) (numbers_at new c) empty.none v in
          still_fails (is_member (plain_set (values_at pool c) (numbers_at entry c)) v) (list_any (is_failed c v) xs) m (sym ((s.each c less).values v) ∙ none));
    }

pub leaves_more : (pool : List Values) (xs ys : List Condition) (entry : NumberedEntry) → LeavesNone pool xs entry → LeavesNone pool (xs ++ ys) entry
leaves_more pool xs ys entry h = record {
  component = h.component;
  known = h.known;
  none = λ v m. list_any-append (is_failed h.component v) xs ys ∙ or_left (list_any (is_failed h.component v) xs) (list_any (is_failed h.component v) ys) (h.none v m);
}

-- so do more conditions than one that leaves none
pub leaves_among : (pool : List Values) (xs : List Condition) (k : ℕ) (x : Condition) (entry : NumberedEntry) → k < length xs → get_or xs k x ≡ x → LeavesNone pool (x ∷ []) entry → LeavesNone pool xs entry
leaves_among pool xs k x entry lt is h = record {
  component = h.component;
  known = h.known;
  none = λ v m. list_any_at (is_failed h.component v) xs k x lt (ap (is_failed h.component v) is ∙ sym (or_none (is_failed h.component v x)) ∙ h.none v m);
}
  where
    or_none : (b : Bool) → (b || false) ≡ b
    or_none true = refl
    or_none false = refl

-- a condition that wants a value that isn't there
pub wants_missing : (pool : List Values) (x : Condition) (w : PartValue) (entry : NumberedEntry) → x.test ≡ test.Is w → x.component.0 < length entry.sets
    → is_member (plain_set (values_at pool x.component.0) (numbers_at entry x.component.0)) w ≡ false → LeavesNone pool (x ∷ []) entry
wants_missing pool x w entry is known missing = record {
  component = x.component.0;
  known = known;
  none = λ v m.
      (let other : same_part v w ≡ false =
      false_unless (same_part v w) ⊥ (λ same. (let there = ap (is_member (plain_set (values_at pool x.component.0) (numbers_at entry x.component.0))) (sym (part_right v w same)) ∙ m in absurd (cc))) (λ no. no) in
      ap₂ (λ (a b : Bool). (a && not b) || false) (eq-eqb x.component.0 x.component.0 refl) (ap (λ (t : Test). passes t v) is ∙ other));
}

-- ---- a set with one value alone, or none

module _ (pool : List Values) (entry : NumberedEntry) (x : Condition) (c : ℕ) (at : x.component.0 ≡ c) (lt : c < length entry.sets) where
  abbrev has : ℕ → Bool
  has n = has_number (numbers_at entry c) n

  abbrev IsThere : PartValue → Type 0
  IsThere v = IsTrue (is_member (plain_set (values_at pool c) (numbers_at entry c)) v)

  each_fails : ((v : PartValue) → IsThere v → passes x.test v ≡ false) → LeavesNone pool (x ∷ []) entry
  each_fails h = record { component = c; known = lt; none = λ v m. ap₂ (λ (a b : Bool). (a && not b) || false) (eq-eqb x.component.0 c at) (h v m) }

  -- it has no number below the first, which is past all values
  pub none_there : (first : ℕ) → length (values_at pool c) ≤ first → ((n : ℕ) → 0 ≤ n → n < first → has n ≡ false) → LeavesNone pool (x ∷ []) entry
  none_there first past none = each_fails (λ v m.
      (let f = found (values_at pool c) (has_number (numbers_at entry c)) v (sym (member_of_plain (values_at pool c) (numbers_at entry c) v) ∙ m) in
      let not : has f.number ≡ false = none f.number (omega arith) (omega (arith, f.known, past)) in
      absurd (false≢true (sym not ∙ f.there))))

  -- or that of one value alone, which fails
  pub alone_fails : (first : ℕ) (w : PartValue) → IsNumberOf (values_at pool c) w first → ((n : ℕ) → 0 ≤ n → n < first → has n ≡ false) → ((n : ℕ) → first + 1 ≤ n → n < length (values_at pool c) → has n ≡ false) → passes x.test w ≡ false
      → LeavesNone pool (x ∷ []) entry
  alone_fails first w is before behind fails = each_fails (λ v m.
      (let f = found (values_at pool c) (has_number (numbers_at entry c)) v (sym (member_of_plain (values_at pool c) (numbers_at entry c) v) ∙ m) in
      elim (cases_order f.number first) [
        | inl same ↦ (let its : v ≡ w = sym (f.is v) ∙ ap (λ (n : ℕ). get_or (values_at pool c) n v) same ∙ is.is v in ap (passes x.test) its ∙ fails)
        | inr (inl below) ↦ absurd (false≢true (sym (before f.number (omega arith) below) ∙ f.there))
        | inr (inr above) ↦ absurd (false≢true (sym (behind f.number (omega (arith, above)) f.known) ∙ f.there))
      ]))

pub none_taken : (pool : List Values) (rule : Rule) (entry : NumberedEntry) → LeavesNone pool rule.conditions entry → HasNone rule (plain_entry pool entry)
none_taken pool rule entry h = record {
  component = h.component;
  known = (let long = length_plain pool 0 entry.sets in let there = h.known in omega (arith, there, long));
  none = λ v m p.
      (let failed : list_any (is_failed h.component v) rule.conditions ≡ true = h.none v (sym (ap (λ (x : ValueSet). is_member x v) (plain_set_at pool entry h.component)) ∙ m) in
      let none : list_any (is_failed h.component v) rule.conditions ≡ false = none_fails rule.conditions h.component v p in
      absurd (cc));
}

-- a rule takes nothing where a set is empty
pub empty_takes_none : (pool : List Values) (rule : Rule) (entry : NumberedEntry) → HasEmptySet entry → HasNone rule (plain_entry pool entry)
empty_takes_none pool rule entry empty =
    let c = empty.component in
    none_taken pool rule entry (record {
      component = c;
      known = empty.known;
      none = λ v m. absurd (false≢true (sym (no_member (values_at pool c) (numbers_at entry c) empty.none v) ∙ m));
    })

-- an entry keeps a number of each component, where one set alone is changed and has one
pub filled_still : (entry new : NumberedEntry) (c : ℕ) → new.sets ≡ set entry.sets c (numbers_at new c) → (is_empty : Bool) → is_empty ≡ ((numbers_at new c).bits == 0)
    → not is_empty ≡ true → AreFilled entry → AreFilled new
filled_still entry new c is b at left h =
    let some : 0 < (numbers_at new c).bits = some_left (numbers_at new c) (sym at ∙ not_failed b left) in
    record {
      each = λ d lt. elim (cases_eq d c) [
        | inl same ↦ subst (λ (i : ℕ). 0 < (numbers_at new i).bits) (sym same) some
        | inr differ ↦
            (let long = ap (λ (xs : List Numbers). length xs) is ∙ length-set entry.sets c (numbers_at new c) in
            let as_it_was : numbers_at new d ≡ numbers_at entry d = ap (λ (xs : List Numbers). get_or xs d no_set) is ∙ get_or-set_other entry.sets c d (numbers_at new c) no_set differ in
            subst (λ (x : Numbers). 0 < x.bits) (sym as_it_was) (h.each d (omega (arith, lt, long))))
      ];
    }

-- what conditions leave has the domains that were there
pub sifted_domains : (pool : List Values) (xs : List Condition) (entry new : NumberedEntry) → AreSifted pool xs entry new → number_domains new ≡ number_domains entry
sifted_domains pool xs entry new s = domains_alike new.sets entry.sets s.as_many (λ c. elim (cases_lt c (length entry.sets)) [
  | inl lt ↦ (s.each c lt).domain
  | inr le ↦ ap (λ (x : Numbers). x.domain) (get_or-eq_default new.sets no_set (omega (arith, le, s.as_many)) ∙ sym (get_or-eq_default entry.sets no_set le))
])
