-- A line parted at a task's first place.
use Rattle.std.proofs.{Common.{◌≡◌, ◌≢◌, ℕ, ◌+◌, List, [], ◌∷◌, ◌++◌, length, refl, sym, ap, ◌∙◌, inl, inr, arith, nat_eq, Contains}}
use Rattle.std.proofs.{lemmas.Bool.{cases_Bool, eqb-true, eqb-false, eq-eqb, ne_eqb}}
use Rattle.osek_values.specs.{declared.numbers.TaskNo.{TaskNo}, Line.{place_in_line, without_first}, Numbers.{task_no}}
use Rattle.osek_standard.proofs.Members.{Among, among_contained, contained_among}
use Rattle.kernel_guarantees.specs.Properties.{HasNoPlace, IsParted}
use Rattle.kernel_guarantees.proofs.Lines.{place_behind, place_first}

-- the same, entry by entry
abbrev IsNotAmong : List TaskNo → ℕ → Type 0
IsNotAmong line t = (n : TaskNo) → Among n line → n.0 ≢ t

by_entries : (line : List TaskNo) (t : ℕ) → HasNoPlace line t → IsNotAmong line t
by_entries line t h n m = h n (among_contained line n m)

kept_entry : (n : TaskNo) (line : List TaskNo) (t : ℕ) → n.0 ≢ t → without_first (n ∷ line) t ≡ n ∷ without_first line t
kept_entry n line t other = rw (ne_eqb n.0 t other) refl

place_at : (before behind : List TaskNo) (t : ℕ) → IsNotAmong before t → place_in_line (before ++ task_no t ∷ behind) t ≡ length before
place_at [] behind t none = place_first (task_no t) behind
place_at (n ∷ before) behind t none =
    let deeper = place_at before behind t (λ m a. none m (inr a)) in
    omega (arith, place_behind n (before ++ task_no t ∷ behind) t (λ e. none n (inl refl) (sym e)), deeper)

left_of : (before behind : List TaskNo) (t : ℕ) → IsNotAmong before t → without_first (before ++ task_no t ∷ behind) t ≡ before ++ behind
left_of [] behind t none = rw (eq-eqb t t refl) refl
left_of (n ∷ before) behind t none =
    kept_entry n (before ++ task_no t ∷ behind) t (none n (inl refl)) ∙ ap (λ (l : List TaskNo). n ∷ l) (left_of before behind t (λ m a. none m (inr a)))

pub parted_place : (line before behind : List TaskNo) (t : ℕ) → IsParted line t before behind → place_in_line line t ≡ length before
parted_place line before behind t h = ap (λ (l : List TaskNo). place_in_line l t) h.is ∙ place_at before behind t (by_entries before t h.first)

pub parted_without : (line before behind : List TaskNo) (t : ℕ) → IsParted line t before behind → without_first line t ≡ before ++ behind
parted_without line before behind t h = ap (λ (l : List TaskNo). without_first l t) h.is ∙ left_of before behind t (by_entries before t h.first)

-- the parts of a line that has the task
abbrev HasParts : List TaskNo → ℕ → Type 0
HasParts line t = (before : List TaskNo) × (behind : List TaskNo) × IsParted line t before behind

none_before : (t : ℕ) → HasNoPlace [] t
none_before t n c = absurd (contained_among [] n c)

longer : (n : TaskNo) (line : List TaskNo) (t : ℕ) → n.0 ≢ t → HasParts line t → HasParts (n ∷ line) t
longer n line t other h = (
  n ∷ h.0,
  h.1,
  record {
    is = ap (λ (l : List TaskNo). n ∷ l) h.2.is;
    first = λ m c. elim (contained_among (n ∷ h.0) m c) [
      | inl e ↦ (λ f. other (ap (λ (k : TaskNo). k.0) (sym e) ∙ f))
      | inr a ↦ h.2.first m (among_contained h.0 m a)
    ];
  },
)

parts : (line : List TaskNo) (t : ℕ) → Among (task_no t) line → HasParts line t
parts [] t m = absurd m
parts (n ∷ line) t m = elim (cases_Bool (nat_eq n.0 t)) [
  | inl e ↦ ([], line, record { is = ap (λ (k : ℕ). task_no k ∷ line) (eqb-true n.0 t e); first = none_before t })
  | inr e ↦ (let other = eqb-false n.0 t e in elim m [
    | inl f ↦ absurd (other (ap (λ (k : TaskNo). k.0) (sym f)))
    | inr a ↦ longer n line t other (parts line t a)
  ])
]

pub some_parts : (line : List TaskNo) (t : ℕ) → Contains line (task_no t) → HasParts line t
some_parts line t c = parts line t (contained_among line (task_no t) c)

-- a task that has no place
past : (line : List TaskNo) (t : ℕ) → IsNotAmong line t → place_in_line line t ≡ length line + t
past [] t none = omega arith
past (n ∷ line) t none =
    let deeper = past line t (λ m a. none m (inr a)) in
    omega (arith, place_behind n line t (λ e. none n (inl refl) (sym e)), deeper)

whole : (line : List TaskNo) (t : ℕ) → IsNotAmong line t → without_first line t ≡ line
whole [] t none = refl
whole (n ∷ line) t none = kept_entry n line t (none n (inl refl)) ∙ ap (λ (l : List TaskNo). n ∷ l) (whole line t (λ m a. none m (inr a)))

pub no_place : (line : List TaskNo) (t : ℕ) → HasNoPlace line t → place_in_line line t ≡ length line + t
no_place line t none = past line t (by_entries line t none)

pub none_lost : (line : List TaskNo) (t : ℕ) → HasNoPlace line t → without_first line t ≡ line
none_lost line t none = whole line t (by_entries line t none)
