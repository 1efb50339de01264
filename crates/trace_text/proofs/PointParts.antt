-- The parts of a point's word: the number of a block, and what its routine interrupted.
use Rattle.std.proofs.Common.{◌≡◌, ◌≢◌, ℕ, suc, ◌+◌, ◌-◌, ◌*◌, ◌<◌, ◌≤◌, ◌^◌, ◌⊎◌, Bool, true, false, List, [], ◌∷◌, length, drop, get_or, min, Option, Some, None, sym, ◌∙◌, ap, inl, inr, arith, add-one, rules}
use Rattle.std.specs.{Prelude.{codes}, Char.{is_ascii_digit}, Fmt.{decimal}, List.{list_all, position}, Str.{bytes_eq, Parse.{digits_value}}}
use Rattle.std.proofs.lemmas.{Bool.{cases_lt, true≢false}, Fmt.{decimal-digits_value, digits_value-decimal}, List.{Quantifiers.{position-Some}, Sums.{fails_before_first}}, Slice.Eq.{bytes_eq-Decides}, Str.Parse.{IsNumeralModel, numerals_by_fold}}
use Rattle.std.proofs.Math.Seq.{drop-cons}
use Rattle.osek_values.specs.{declared.numbers.TaskNo.{TaskNo}, Numbers.{task_no}}
use Rattle.osek_standard.specs.{declared.{app.App.{App}, objects.Task.{Task}}, Apps.{no_task}}
use Rattle.trace_text.specs.{PointTexts.{task_or_dash}, PointWords.{is_number}}
use Rattle.trace_text.proofs.{EventLaws.{same_bytes}, Parts.{none_found}, PointForms.{own, tested_number, number_tested, decimal_number}, PointsApart.{IsKnown, few}}

-- ---- the value of digits, read from the first one on

abbrev pub read_on : ℕ → List ℕ → ℕ
read_on n [] = n
read_on n (c ∷ cs) = read_on (n * 10 + (c - 48)) cs

read_model : IsNumeralModel (λ ds. list_all is_ascii_digit ds ≡ true) (read_on 0)
read_model = numerals_by_fold _ (search rules) read_on (search rules)

pub read_value : (ds : List ℕ) → list_all is_ascii_digit ds ≡ true → read_on 0 ds ≡ digits_value 10 ds
read_value ds h = read_model.same ds (read_model.to ds h)

at_least : (n : ℕ) (ds : List ℕ) → n ≤ read_on n ds
at_least n [] = omega arith
at_least n (c ∷ cs) = omega (arith, at_least (n * 10 + (c - 48)) cs)

small_or_large : (n m : ℕ) → m ≡ min n 65535 → (m ≡ n) ⊎ ((65535 ≤ m) × (65535 ≤ n))
small_or_large n m e = elim (cases_lt n 65535) [ inl h ↦ inl (omega (arith, h, e)) | inr h ↦ inr (omega (arith, h, e), h) ]

-- a value that is cut off stays so
pub cut_off : (n m : ℕ) (ds : List ℕ) → m ≡ min n 65535 → min (read_on m ds) 65535 ≡ min (read_on n ds) 65535
cut_off n m ds e = elim (small_or_large n m e) [
  | inl same ↦ ap (λ (k : ℕ). min (read_on k ds) 65535) same
  | inr large ↦ omega (arith, large.0, large.1, at_least m ds, at_least n ds)
]

-- one digit more
pub digit_read : (ds : List ℕ) (i v d m all : ℕ) → i < length ds → get_or ds i 0 ≡ d → m ≡ min (min (v * 10) 65535 + (d - 48)) 65535 → min (read_on v (drop i ds)) 65535 ≡ all → min (read_on m (drop (i + 1) ds)) 65535 ≡ all
digit_read ds i v d m all within at is before =
    let rest : drop i ds ≡ d ∷ drop (i + 1) ds = drop-cons ds i 0 within ∙ ap (λ (n : ℕ). n ∷ drop (suc i) ds) at ∙ ap (λ (n : ℕ). d ∷ drop n ds) (sym (add-one i)) in
    cut_off (v * 10 + (d - 48)) m (drop (i + 1) ds) (omega (arith, is)) ∙ ap (λ (l : List ℕ). min (read_on v l) 65535) (sym rest) ∙ before

-- ---- blocks

module _ (app : App) where
  pub no_number : (digits : List ℕ) → is_number digits ≡ false → (b : ℕ) → b < length app.blocks → decimal b ≢ digits
  no_number digits not b known same = true≢false (sym (number_tested (decimal b) (decimal_number b (few app b known))) ∙ ap is_number same ∙ not)

  pub no_block : (digits : List ℕ) (v : ℕ) → v ≡ min (digits_value 10 digits) 65535 → length app.blocks ≤ v → (b : ℕ) → b < length app.blocks → decimal b ≢ digits
  no_block digits v is high b known same =
      let value : digits_value 10 digits ≡ b = ap (digits_value 10) (sym same) ∙ digits_value-decimal own b (few app b known) in
      omega (arith, is, value, known, high)

  pub a_block : (digits : List ℕ) (v : ℕ) → is_number digits ≡ true → v ≡ min (digits_value 10 digits) 65535 → v < length app.blocks → decimal v ≡ digits
  a_block digits v form is known =
      let h = tested_number digits form in
      let most = app.valid.few_blocks in
      let value : digits_value 10 digits ≡ v = omega (arith, is, known, most) in
      let low : digits_value 10 digits < 2 ^ 64 = omega (arith, value, known, most) in
      ap decimal (sym value) ∙ decimal-digits_value own digits h.digits h.some h.plain low

  -- ---- what a routine interrupted

  abbrev pub has_name : List ℕ → Task → Bool
  has_name name x = bytes_eq x.name name

  pub a_task : (name : List ℕ) (k : ℕ) → position (has_name name) app.tasks ≡ Some k → IsKnown app (Some (task_no k)) × (task_or_dash app (Some (task_no k)) ≡ name)
  a_task name k e =
      let found = position-Some (has_name name) app.tasks k no_task e in
      (found.0, same_bytes (get_or app.tasks k no_task).name name found.1)

  pub no_task_named : (name : List ℕ) → bytes_eq name (codes "-") ≡ false → position (has_name name) app.tasks ≡ None → (x : Option TaskNo) → IsKnown app x → task_or_dash app x ≢ name
  no_task_named name other none None known same = true≢false (sym ((bytes_eq-Decides name (codes "-")).1 (sym same)) ∙ other)
  no_task_named name other none (Some t) known same =
      let end = none_found (has_name name) app.tasks none in
      let fails = fails_before_first (has_name name) app.tasks t.0 no_task (omega (arith, end, known)) in
      true≢false (sym ((bytes_eq-Decides (get_or app.tasks t.0 no_task).name name).1 same) ∙ fails)
