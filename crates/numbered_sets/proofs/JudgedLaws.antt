-- Tests that were asked of values: as a value more is asked, as values come in, and what they leave of a set.
use Rattle.std.proofs.Common.{◌≡◌, ℕ, ◌+◌, ◌^◌, ◌<◌, Bool, true, false, ◌||◌, List, [], ◌∷◌, ◌++◌, length, get_or, set, refl, sym, ap, ap₂, subst, ◌∙◌, inl, inr, arith}
use Rattle.std.proofs.lemmas.{Bool.{cases_eq, eq-eqb, ne_eqb}, List.{length-append, get_or_append_left, length-set, get_or-set_same, get_or-set_other, Elements.{Contains-get_or, Contains-push_cases}}}
use Rattle.bit_words.proofs.BitCounts.{has_either, has_one}
use Rattle.abstract_state.specs.declared.value.{PartValue.{PartValue}}
use Rattle.flow_model.specs.{declared.test.Test.{Test}, Tests.{passes}}
use Rattle.numbered_sets.specs.declared.judged.JudgedTest.{JudgedTest}
use Rattle.numbered_sets.specs.{Judging.{IsJudgedTest, AreJudgedTests, IsAskedAt}, Numbers.{Numbers, has_number, with_number, kept_numbers}, Passing.{IsSifted}, Pools.{IsExtended}}
use Rattle.numbered_sets.proofs.SiftLaws.{kept_by}

abbrev pub judged_test : Test → ℕ → Numbers → ℕ → JudgedTest
judged_test t k x s = record { test = t; judged = k; passing = x; spent = s }

module _ (vs : List PartValue) (x : JudgedTest) (next : x.judged < length vs) (h : IsJudgedTest vs x) where
  -- the next value passes
  pub judged_taken : ((d : PartValue) → passes x.test (get_or vs x.judged d) ≡ true) → IsJudgedTest vs (judged_test x.test (x.judged + 1) (with_number x.passing x.judged) x.spent)
  judged_taken passed = record {
    few = omega (arith, next);
    each = λ n d lt. elim (cases_eq n x.judged) [
      | inl last ↦
          has_either x.passing.bits (2 ^ x.judged) n ∙ ap (λ (b : Bool). has_number x.passing n || b) (has_one x.judged n ∙ eq-eqb n x.judged last) ∙ or_true (has_number x.passing n)
          ∙ sym (ap (λ j. passes x.test (get_or vs j d)) last ∙ passed d)
      | inr other ↦
          has_either x.passing.bits (2 ^ x.judged) n ∙ ap (λ (b : Bool). has_number x.passing n || b) (has_one x.judged n ∙ ne_eqb n x.judged other) ∙ or_false (has_number x.passing n)
          ∙ h.each n d (omega (arith, lt, other))
    ];
    past = λ n le.
        has_either x.passing.bits (2 ^ x.judged) n ∙ ap₂ (λ (a b : Bool). a || b) (h.past n (omega (arith, le))) (has_one x.judged n ∙ ne_eqb n x.judged (λ e. omega (arith, e, le)));
  }
    where
      or_true : (b : Bool) → (b || true) ≡ true
      or_true true = refl
      or_true false = refl

      or_false : (b : Bool) → (b || false) ≡ b
      or_false true = refl
      or_false false = refl

  -- it doesn't
  pub judged_left : ((d : PartValue) → passes x.test (get_or vs x.judged d) ≡ false) → IsJudgedTest vs (judged_test x.test (x.judged + 1) x.passing x.spent)
  judged_left failed = record {
    few = omega (arith, next);
    each = λ n d lt. elim (cases_eq n x.judged) [
      | inl last ↦ h.past n (omega (arith, last)) ∙ sym (ap (λ j. passes x.test (get_or vs j d)) last ∙ failed d)
      | inr other ↦ h.each n d (omega (arith, lt, other))
    ];
    past = λ n le. h.past n (omega (arith, le));
  }

-- values came in
pub judged_longer : (vs ws : List PartValue) (tests : List JudgedTest) → IsExtended vs ws → AreJudgedTests vs tests → AreJudgedTests ws tests
judged_longer vs ws tests grown h x m =
    let k = h x m in
    let long : length ws ≡ length vs + length grown.more = ap length grown.is ∙ length-append vs grown.more in
    record {
      few = omega (arith, k.few, long);
      each = λ n d lt.
          (let known : n < length vs = omega (arith, lt, k.few) in
          k.each n d lt ∙ ap (passes x.test) (sym (ap (λ (xs : List PartValue). get_or xs n d) grown.is ∙ get_or_append_left vs grown.more d n known)));
      past = k.past;
    }

-- a test more, of no value yet
pub judged_push : (vs : List PartValue) (tests : List JudgedTest) (x : JudgedTest) → AreJudgedTests vs tests → IsJudgedTest vs x → AreJudgedTests vs (tests ++ x ∷ [])
judged_push vs tests x h k y m = elim (Contains-push_cases tests x y m) [
  | inl old ↦ h y old
  | inr new ↦ subst (IsJudgedTest vs) new k
]

-- a test that was asked of more values
pub judged_put : (vs : List PartValue) (tests : List JudgedTest) (place : ℕ) (y : JudgedTest) → AreJudgedTests vs tests → IsJudgedTest vs y → AreJudgedTests vs (set tests place y)
judged_put vs tests place y h k x m =
    let known : m.0 < length tests = omega (arith, m.1, length-set tests place y) in
    elim (cases_eq m.0 place) [
      | inl same ↦
          (let at : get_or (set tests place y) place x ≡ x = subst (λ (n : ℕ). get_or (set tests place y) n x ≡ x) same m.2 in
          subst (IsJudgedTest vs) (sym (get_or-set_same tests place y x (omega (arith, known, same))) ∙ at) k)
      | inr other ↦ h x (m.0, known, sym (get_or-set_other tests place m.0 y x other) ∙ m.2)
    ]

-- the numbers of all values that pass
pub asked_sifted : (vs : List PartValue) (t : Test) (tests : List JudgedTest) (place : ℕ) → AreJudgedTests vs tests → IsAskedAt vs t tests place →
    (old : Numbers) (d : JudgedTest) → IsSifted vs t old (kept_numbers old (get_or tests place d).passing)
asked_sifted vs t tests place h asked old d =
    let it = get_or tests place d in
    let k = h it (Contains-get_or tests place d asked.at.known) in
    kept_by vs t old it.passing (λ n e lt. k.each n e (omega (arith, lt, asked.all d)) ∙ ap (λ (u : Test). passes u (get_or vs n e)) (asked.at.is d))
