-- The values inside of the tasks that name an INTERNAL resource, as more are brought in.
use Rattle.std.proofs.Common.{◌≡◌, ◌≢◌, ℕ, ◌+◌, ◌<◌, ◌≤◌, Bool, true, false, List, [], ◌∷◌, ◌++◌, length, get_or, set, cond, refl, sym, ap, ap₂, subst, ◌∙◌, inl, inr, arith, IsTrue, get_or-set_same, get_or-set_other}
use Rattle.std.specs.{Prelude.{is_some}, List.{list_any}}
use Rattle.std.proofs.{Math.{ListN.{get_or-map}, Logic.{∥∥₁_map}, Seq.{get_or-append_seam}}, lemmas.Bool.{cases_eq, cases_lt, false≢true}}
use Rattle.std.proofs.lemmas.List.{length-append, length-map, length-set, get_or_append_left, get_or_default, map-append, map-set, set-get_or, Elements.{All-get_or, Contains-append_left, Contains-append_right, Contains-push_cases}}
use Rattle.osek_values.specs.{Numbers.{task_no}, declared.numbers.TaskNo.{TaskNo}}
use Rattle.osek_standard.specs.{declared.app.App.{App}, Internal.{internal_of}}
use Rattle.abstract_state.specs.declared.value.{Domain.{Domain}, Val.TheVariants.{Suspended, Live, Waiting}, PartValue.{PartValue, TheVariants.{OfTask, OfEvent, OfAlarm, OfSource}}}
use Rattle.abstract_state.specs.declared.value.Component.TheVariants as component
use Rattle.abstract_state.specs.{ValueOrder.{same_part}, Domains.{IsWithin, domain_of}}
use Rattle.flow_model.specs.declared.change.Update.TheVariants as update
use Rattle.flow_model.specs.Tests.{updated}
use Rattle.flow_model.proofs.SettledValues.{inside_already}
use Rattle.numbered_sets.specs.Pools.{Values, no_values, value_seen, with_value, seen_at, values_at, domain_at, AreNumbered, AreValues, IsNumberOf, IsExtended, IsLonger}
use Rattle.numbered_sets.proofs.{MadeLaws.{number_stays, number_was, one_value}, NumberingLaws.{longer_itself, longer_onward}, PoolLaws.{numbered_with}, ViewLaws.{extended_with, longer_with}}
use Rattle.abstract_state.specs.declared.value.Domain.TheVariants as domain
use Rattle.point_exits.specs.{declared.insides.Insides.{Insides}, Levels.{AreInside, AreNaming, AreInsides, AreNoInsides, inside_tasks}}

abbrev goes_in : PartValue → PartValue
goes_in v = updated update.Inside v

-- ---- a pool that grew

pub inside_longer : (vs ws : List PartValue) (x : Insides) → IsExtended vs ws → AreInside vs x → AreInside ws x
inside_longer vs ws x longer h = record {
  few = omega (arith, h.few, ap length longer.is, length-append vs longer.more);
  each = λ n v lt is. number_stays vs ws (goes_in v) (get_or x.numbers n 0) longer (h.each n v lt (number_was vs ws v n longer (omega (arith, lt, h.few)) is));
}

pub insides_longer : (app : App) (pool after : List Values) (insides : List Insides) → IsLonger pool after → AreInsides app pool insides → AreInsides app after insides
insides_longer app pool after insides longer h = record {
  tasks = h.tasks;
  each = λ i d lt. (let x = get_or insides i d in inside_longer (values_at pool x.task.0) (values_at after x.task.0) x (longer.values x.task.0) (h.each i d lt));
}

-- ---- the domain of a task that names one has its values inside too

within_task : (app : App) (t : ℕ) → is_some (internal_of app t) ≡ true → (v : PartValue) → IsWithin (domain_of app (component.Task (task_no t))) v → IsWithin (domain_of app (component.Task (task_no t))) (goes_in v)
within_task app t named (OfTask Suspended) h = h
within_task app t named (OfTask (Live x)) h = record { own = h.own; further = h.further; named = λ _. named; distinct = h.distinct; known = h.known }
within_task app t named (OfTask (Waiting b)) h = h
within_task app t named (OfEvent b) h = absurd h
within_task app t named (OfAlarm b) h = absurd h
within_task app t named (OfSource v) h = absurd h

pub inside_within : (app : App) (pool : List Values) (t : ℕ) → domain_at pool t ≡ domain_of app (component.Task (task_no t)) → is_some (internal_of app t) ≡ true → (v : PartValue) → IsWithin (domain_at pool t) v → IsWithin (domain_at pool t) (goes_in v)
inside_within app pool t is named v h =
    subst (λ (d : Domain). IsWithin d (goes_in v)) (sym is) (within_task app t named v (subst (λ (d : Domain). IsWithin d v) is h))

-- ---- one value more

pub record AreBroughtIn (before : List Values) (t came : ℕ) (pool : List Values) (x : Insides) : Type 0 where
  pub longer : IsLonger before pool
  pub others : (c : ℕ) → c ≢ t → values_at pool c ≡ values_at before c
  pub values : AreValues (seen_at pool t)
  pub inside : AreInside (values_at pool t) x
  pub rest : (n : ℕ) (v : PartValue) → came ≤ n → IsNumberOf (values_at pool t) v n → goes_in v ≡ v

pub none_brought : (before : List Values) (t : ℕ) (x : Insides) → AreValues (seen_at before t) → AreInside (values_at before t) x → AreBroughtIn before t (length (values_at before t)) before x
none_brought before t x values inside = record {
  longer = longer_itself before;
  others = λ c other. refl;
  values = values;
  inside = inside;
  rest = λ n v past is. absurd (omega (arith, past, is.known));
}

module _ (before pool after : List Values) (t came : ℕ) (x y : Insides) (v : PartValue) (m : ℕ) (h : AreBroughtIn before t came pool x) (lt : t < length pool) (is : IsNumberOf (values_at pool t) v (length x.numbers)) (within : IsWithin (domain_at pool t) (goes_in v))
    (grew : after ≡ set pool t (value_seen (seen_at pool t) (goes_in v))) (found : IsNumberOf (values_at after t) (goes_in v) m) (pushed : y.numbers ≡ x.numbers ++ m ∷ []) where
  seen_there : seen_at after t ≡ value_seen (seen_at pool t) (goes_in v)
  seen_there = ap (λ (p : List Values). seen_at p t) grew ∙ get_or-set_same pool t (value_seen (seen_at pool t) (goes_in v)) (no_values domain.Alarm) lt

  values_there : values_at after t ≡ with_value (values_at pool t) (goes_in v)
  values_there = ap (λ (s : Values). s.values) seen_there

  longer : IsExtended (values_at pool t) (values_at after t)
  longer = subst (IsExtended (values_at pool t)) (sym values_there) (extended_with (values_at pool t) (goes_in v))

  new_inside : (n : ℕ) (w : PartValue) → came ≤ n → (known : Bool) → list_any (same_part (goes_in v)) (values_at pool t) ≡ known
      → IsNumberOf (cond known (values_at pool t) (values_at pool t ++ goes_in v ∷ [])) w n → goes_in w ≡ w
  new_inside n w past true e has = h.rest n w past has
  new_inside n w past false e has = elim (cases_lt n (length (values_at pool t))) [
    | inl old ↦ h.rest n w past (record { known = old; is = λ d. sym (get_or_append_left (values_at pool t) (goes_in v ∷ []) d n old) ∙ has.is d })
    | inr new ↦
        (let last : n ≡ length (values_at pool t) = omega (arith, new, has.known, length-append (values_at pool t) (goes_in v ∷ [])) in
        let same : goes_in v ≡ w = sym (ap (λ (k : ℕ). get_or (values_at pool t ++ goes_in v ∷ []) k w) last ∙ get_or-append_seam (values_at pool t) (goes_in v) [] w) ∙ has.is w in
        ap goes_in (sym same) ∙ inside_already v ∙ same)
  ]

  its_number : (n : ℕ) (w : PartValue) → n < length y.numbers → IsNumberOf (values_at after t) w n → IsNumberOf (values_at after t) (goes_in w) (get_or y.numbers n 0)
  its_number n w below has = elim (cases_lt n (length x.numbers)) [
    | inl old ↦
        (let there : get_or y.numbers n 0 ≡ get_or x.numbers n 0 = ap (λ (ns : List ℕ). get_or ns n 0) pushed ∙ get_or_append_left x.numbers (m ∷ []) 0 n old in
        subst (IsNumberOf (values_at after t) (goes_in w)) (sym there)
        (number_stays (values_at pool t) (values_at after t) (goes_in w) (get_or x.numbers n 0) longer
        (h.inside.each n w old (number_was (values_at pool t) (values_at after t) w n longer (omega (arith, old, h.inside.few)) has))))
    | inr new ↦
        (let last : n ≡ length x.numbers = omega (arith, new, below, ap length pushed, length-append x.numbers (m ∷ [])) in
        let there : get_or y.numbers n 0 ≡ m = ap₂ (λ (ns : List ℕ) (k : ℕ). get_or ns k 0) pushed last ∙ get_or-append_seam x.numbers m [] 0 in
        let same : v ≡ w = one_value (values_at after t) v w n (subst (IsNumberOf (values_at after t) v) (sym last) (number_stays (values_at pool t) (values_at after t) v (length x.numbers) longer is)) has in
        subst (IsNumberOf (values_at after t) (goes_in w)) (sym there) (subst (λ (u : PartValue). IsNumberOf (values_at after t) (goes_in u) m) same found))
  ]

  pub brought_next : AreBroughtIn before t came after y
  brought_next = record {
    longer = longer_onward before pool after h.longer (subst (IsLonger pool) (sym grew) (longer_with pool t (goes_in v) lt));
    others = λ c other. ap (λ (p : List Values). values_at p c) grew ∙ ap (λ (s : Values). s.values) (get_or-set_other pool t c (value_seen (seen_at pool t) (goes_in v)) (no_values domain.Alarm) other) ∙ h.others c other;
    values = subst AreValues (sym seen_there) (numbered_with (domain_at pool t) (values_at pool t) (goes_in v) h.values within);
    inside = record {
      few = (let size = length-append x.numbers (m ∷ []) in let old = is.known in omega (arith, old, ap length pushed, size, ap length longer.is, length-append (values_at pool t) longer.more));
      each = its_number;
    };
    rest = λ n w past has. new_inside n w past (list_any (same_part (goes_in v)) (values_at pool t)) refl (subst (λ (us : List PartValue). IsNumberOf us w n) values_there has);
  }

pub value_within : (d : Domain) (vs : List PartValue) (v : PartValue) (n : ℕ) → AreNumbered d vs → IsNumberOf vs v n → IsWithin d v
value_within d vs v n numbered is = subst (IsWithin d) (is.is v) (All-get_or (IsWithin d) vs n v is.known numbered.within)

-- ---- the others are inside themselves

pub inside_itself : (vs : List PartValue) (x y : Insides) → AreInside vs x → length x.numbers < length vs → ((n : ℕ) (v : PartValue) → length x.numbers ≤ n → IsNumberOf vs v n → goes_in v ≡ v)
    → y.numbers ≡ x.numbers ++ length x.numbers ∷ [] → AreInside vs y
inside_itself vs x y h lt already pushed = record {
  few = (let size = length-append x.numbers (length x.numbers ∷ []) in omega (arith, lt, size, ap length pushed));
  each = λ n v below is. elim (cases_lt n (length x.numbers)) [
    | inl old ↦ subst (IsNumberOf vs (goes_in v)) (sym (ap (λ (ns : List ℕ). get_or ns n 0) pushed ∙ get_or_append_left x.numbers (length x.numbers ∷ []) 0 n old)) (h.each n v old is)
    | inr new ↦
        (let last : n ≡ length x.numbers = omega (arith, new, below, ap length pushed, length-append x.numbers (length x.numbers ∷ [])) in
        let there : get_or y.numbers n 0 ≡ n = ap₂ (λ (ns : List ℕ) (k : ℕ). get_or ns k 0) pushed last ∙ get_or-append_seam x.numbers (length x.numbers) [] 0 ∙ sym last in
        subst (IsNumberOf vs (goes_in v)) (sym there) (subst (λ (w : PartValue). IsNumberOf vs w n) (sym (already n v new is)) is))
  ];
}

-- ---- the tasks, one after another

pub none_named : (app : App) → AreNaming app 0 []
none_named app = record {
  each = λ t m. absurd (omega (arith, m.1));
  some = λ t lt named. absurd (omega (arith, lt));
  once = λ i j d e first known. absurd (omega (arith, known));
}

module _ (app : App) (n : ℕ) (tasks : List TaskNo) (h : AreNaming app n tasks) where
  pub named_skip : is_some (internal_of app n) ≡ false → AreNaming app (n + 1) tasks
  named_skip none = record {
    each = λ t m. (let x = h.each t m in let below = x.0 in (omega (arith, below), x.1));
    some = λ t lt named. elim (cases_lt t n) [
      | inl below ↦ h.some t below named
      | inr above ↦
          (let same : t ≡ n = omega (arith, lt, above) in
          absurd (false≢true (sym none ∙ ap (λ (k : ℕ). is_some (internal_of app k)) (sym same) ∙ named)))
    ];
    once = h.once;
  }

  pub named_next : (t : TaskNo) → t.0 ≡ n → is_some (internal_of app t.0) ≡ true → AreNaming app (n + 1) (tasks ++ t ∷ [])
  named_next t is named = record {
    each = λ u m. elim (Contains-push_cases tasks t u m) [
      | inl old ↦ (let x = h.each u old in let below = x.0 in (omega (arith, below), x.1))
      | inr same ↦ (let number = ap (λ (k : TaskNo). k.0) same in (omega (arith, number, is), subst (λ (k : TaskNo). IsTrue (is_some (internal_of app k.0))) same named))
    ];
    some = λ u lt names. elim (cases_lt u n) [
      | inl below ↦ ∥∥₁_map (h.some u below names) (Contains-append_left tasks (t ∷ []) (task_no u))
      | inr above ↦
          (let same : task_no u ≡ t = λ i. record { 0 = its_number u lt above i } in
          ∣ Contains-append_right tasks (t ∷ []) (task_no u) (0, omega arith, sym same) ∣₁)
    ];
    once = λ i j d e first known. elim (cases_lt j (length tasks)) [
      | inl below ↦
          subst (λ (x : TaskNo). x.0 ≢ (get_or (tasks ++ t ∷ []) j e).0) (sym (get_or_append_left tasks (t ∷ []) d i (omega (arith, first, below))))
          (subst (λ (x : TaskNo). (get_or tasks i d).0 ≢ x.0) (sym (get_or_append_left tasks (t ∷ []) e j below)) (h.once i j d e first below))
      | inr above ↦
          (let last : j ≡ length tasks = omega (arith, above, known, length-append tasks (t ∷ [])) in
          let there : get_or (tasks ++ t ∷ []) j e ≡ t = ap (λ (k : ℕ). get_or (tasks ++ t ∷ []) k e) last ∙ get_or-append_seam tasks t [] e in
          let before : get_or (tasks ++ t ∷ []) i d ≡ get_or tasks i d = get_or_append_left tasks (t ∷ []) d i (omega (arith, first, last)) in
          let below : (get_or tasks i d).0 < n = (h.each (get_or tasks i d) (i, omega (arith, first, last), get_or_default tasks i (get_or tasks i d) d (omega (arith, first, last)))).0 in
          λ same. (let number : (get_or tasks i d).0 ≡ t.0 = ap (λ (x : TaskNo). x.0) (sym before) ∙ same ∙ ap (λ (x : TaskNo). x.0) there in omega (arith, below, number, is)))
    ];
  }
    where
      its_number : (u : ℕ) → u < n + 1 → n ≤ u → u ≡ t.0
      its_number u lt above = omega (arith, lt, above, is)

-- ---- one task after another is renewed

module _ (pool after : List Values) (insides next : List Insides) (i : ℕ) (x : Insides) (lt : i < length insides) (write : next ≡ set insides i x) where
  pub same_tasks : (d : Insides) → x.task ≡ (get_or insides i d).task → inside_tasks next ≡ inside_tasks insides
  same_tasks d same =
      ap inside_tasks write
      ∙ map-set (λ (y : Insides). y.task) insides i x
      ∙ ap (set (inside_tasks insides) i) (same ∙ sym (get_or-map (λ (y : Insides). y.task) insides i d))
      ∙ set-get_or (inside_tasks insides) i d.task

  written : (d : Insides) → get_or next i d ≡ x
  written d = ap (λ (xs : List Insides). get_or xs i d) write ∙ get_or-set_same insides i x d lt

  beside : (k : ℕ) (d : Insides) → k ≢ i → get_or next k d ≡ get_or insides k d
  beside k d other = ap (λ (xs : List Insides). get_or xs k d) write ∙ get_or-set_other insides i k x d other

  module _ (app : App) (h : AreInsides app pool insides) (longer : IsLonger pool after) (task : (d : Insides) → x.task ≡ (get_or insides i d).task) (its : AreInside (values_at after x.task.0) x) where
    pub insides_next : AreInsides app after next
    insides_next = record {
      tasks = subst (AreNaming app (length app.tasks)) (sym (same_tasks x (task x))) h.tasks;
      each = λ k d below. elim (cases_eq k i) [
        | inl same ↦ subst (λ (y : Insides). AreInside (values_at after y.task.0) y) (sym (ap (λ (j : ℕ). get_or next j d) same ∙ written d)) its
        | inr other ↦
            (let size : length next ≡ length insides = ap length write ∙ length-set insides i x in
            let old = (insides_longer app pool after insides longer h).each k d (omega (arith, below, size)) in
            subst (λ (y : Insides). AreInside (values_at after y.task.0) y) (sym (beside k d other)) old)
      ];
    }

    -- those before it are still complete
    pub complete_next : length x.numbers ≡ length (values_at after x.task.0) → ((c : ℕ) → c ≢ x.task.0 → values_at after c ≡ values_at pool c)
        → ((k : ℕ) (d : Insides) → k < i → length (get_or insides k d).numbers ≡ length (values_at pool (get_or insides k d).task.0))
        → (k : ℕ) (d : Insides) → k < i + 1 → length (get_or next k d).numbers ≡ length (values_at after (get_or next k d).task.0)
    complete_next all others so_far k d below = elim (cases_eq k i) [
      | inl same ↦ subst (λ (y : Insides). length y.numbers ≡ length (values_at after y.task.0)) (sym (ap (λ (j : ℕ). get_or next j d) same ∙ written d)) all
      | inr other ↦
          (let first : k < i = omega (arith, below, other) in
          let y = get_or insides k d in
          let apart : y.task.0 ≢ x.task.0 = λ same. h.tasks.once k i d.task d.task first (omega (arith, lt, length-map insides (λ (z : Insides). z.task)))
          (ap (λ (z : TaskNo). z.0) (get_or-map (λ (z : Insides). z.task) insides k d) ∙ same ∙ ap (λ (z : TaskNo). z.0) (task d ∙ sym (get_or-map (λ (z : Insides). z.task) insides i d))) in
          subst (λ (z : Insides). length z.numbers ≡ length (values_at after z.task.0)) (sym (beside k d other))
          (so_far k d first ∙ ap length (sym (others y.task.0 apart))))
    ]

-- nothing was seen of the tasks yet
pub insides_begun : (app : App) (pool : List Values) (insides : List Insides) → AreNoInsides app insides → AreInsides app pool insides
insides_begun app pool insides h = record {
  tasks = h.tasks;
  each = λ i d lt. (let none : length (get_or insides i d).numbers ≡ 0 = ap length (h.none i d lt) in record {
    few = omega (arith, none);
    each = λ n v below is. absurd (omega (arith, below, none));
  });
}

pub none_more : (insides : List Insides) (x : Insides) → x.numbers ≡ [] → ((i : ℕ) (d : Insides) → i < length insides → (get_or insides i d).numbers ≡ [])
    → (i : ℕ) (d : Insides) → i < length (insides ++ x ∷ []) → (get_or (insides ++ x ∷ []) i d).numbers ≡ []
none_more insides x new h i d lt = elim (cases_lt i (length insides)) [
  | inl old ↦ ap (λ (y : Insides). y.numbers) (get_or_append_left insides (x ∷ []) d i old) ∙ h i d old
  | inr past ↦
      (let last : i ≡ length insides = omega (arith, lt, past, length-append insides (x ∷ [])) in
      ap (λ (k : ℕ). (get_or (insides ++ x ∷ []) k d).numbers) last ∙ ap (λ (y : Insides). y.numbers) (get_or-append_seam insides x [] d) ∙ new)
]

pub tasks_more : (insides : List Insides) (x : Insides) → inside_tasks (insides ++ x ∷ []) ≡ inside_tasks insides ++ x.task ∷ []
tasks_more insides x = map-append (λ (y : Insides). y.task) insides (x ∷ [])
