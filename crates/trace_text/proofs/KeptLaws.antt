-- The texts of the tasks as they were shown, one behind the other, and where each stands.
use Rattle.std.proofs.Common.{◌≡◌, ℕ, zero, suc, ◌+◌, ◌-◌, ◌*◌, ◌<◌, ◌≤◌, List, [], ◌∷◌, ◌++◌, length, take, drop, set, get_or, refl, sym, ◌∙◌, ap, subst}
use Rattle.std.proofs.Common.{inl, inr, arith, append_assoc, append-nil, add-one, length-append, get_or-set_same, get_or-set_other}
use Rattle.std.specs.List.{flat_map, enumerate_from, sum_by}
use Rattle.std.proofs.lemmas.{Bool.{cases_eq}, List.Sums.{sum_by-cons}}
use Rattle.std.proofs.lemmas.List.{take_at, drop_at, set_split, set-get_or, length-set, length-take, length-take-le, take-append-drop, take_more}
use Rattle.std.proofs.lemmas.List.{drop_more, drop_all, take_all, get_or-take, get_or_push, get_or_append_left, length_push}
use Rattle.osek_standard.specs.{declared.{app.App.{App}, objects.Task.{Task}, state.State.{State}}, Apps.{the_task, no_task}, TraceText.{task_text}}
use Rattle.trace_text.specs.declared.shown.{KeptTask.{KeptTask}}
use Rattle.trace_text.specs.LineParts.{shown_of, shown_text, tasks_text, not_shown, kept_text, kept_texts, kept_place, IsKept, ShowsAll}
use Rattle.trace_text.proofs.ShownLaws.{text_of_shown}

abbrev pub size_of : KeptTask → ℕ
size_of k = k.size

module _ (app : App) where
  abbrev pub AreKept : List KeptTask → Type 0
  AreKept ks = (t : ℕ) → t < length ks → IsKept app t (get_or ks t not_shown)

  -- the same from task n on
  abbrev pub AreFrom : ℕ → List KeptTask → Type 0
  AreFrom n ks = (t m : ℕ) → t < length ks → n + t ≡ m → IsKept app m (get_or ks t not_shown)

  pub all_from : (ks : List KeptTask) → AreKept ks → AreFrom 0 ks
  all_from ks h t m within e = let same : t ≡ m = omega (arith, e) in subst (λ (i : ℕ). IsKept app i (get_or ks t not_shown)) same (h t within)

  rest_from : (n : ℕ) (k : KeptTask) (ks : List KeptTask) → AreFrom n (k ∷ ks) → AreFrom (n + 1) ks
  rest_from n k ks h t m within e = h (suc t) m (omega (arith, within)) (omega (arith, e))

  front_from : (n j : ℕ) (ks : List KeptTask) → AreFrom n ks → AreFrom n (take j ks)
  front_from n j ks h t m within e =
      let size = length-take j ks in
      subst (IsKept app m) (sym (get_or-take j ks t not_shown (omega (arith, within, size)))) (h t m (omega (arith, within, size)) e)

  -- they are as long as is kept
  length_from : (n : ℕ) (ks : List KeptTask) → AreFrom n ks → length (kept_texts app n ks) ≡ sum_by size_of ks
  length_from n [] h = refl
  length_from n (k ∷ ks) h =
      let first : IsKept app n k = h 0 n (omega arith) (omega arith) in
      let rest = length_from (n + 1) ks (rest_from n k ks h) in
      omega (arith, length-append (kept_text app (n, k)) (kept_texts app (n + 1) ks), first.size, rest, sum_by-cons size_of k ks)

  few_from : (n : ℕ) (ks : List KeptTask) → AreFrom n ks → sum_by size_of ks ≤ length ks * 634
  few_from n [] h = omega arith
  few_from n (k ∷ ks) h =
      let first : IsKept app n k = h 0 n (omega arith) (omega arith) in
      omega (arith, first.most, few_from (n + 1) ks (rest_from n k ks h), sum_by-cons size_of k ks)

  pub kept_few : (ks : List KeptTask) → AreKept ks → length ks ≤ 16 → sum_by size_of ks ≤ 10144
  kept_few ks h few = omega (arith, few, few_from 0 ks (all_from ks h))

  append_from : (n m : ℕ) (xs ys : List KeptTask) → n + length xs ≡ m → kept_texts app n (xs ++ ys) ≡ kept_texts app n xs ++ kept_texts app m ys
  append_from n m [] ys e = let same : n ≡ m = omega (arith, e) in ap (λ (k : ℕ). kept_texts app k ys) same
  append_from n m (x ∷ xs) ys e =
      ap (λ (l : List ℕ). kept_text app (n, x) ++ l) (append_from (n + 1) m xs ys (omega (arith, e)))
      ∙ sym (append_assoc (kept_text app (n, x)) (kept_texts app (n + 1) xs) (kept_texts app m ys))

  pub push_texts : (ks : List KeptTask) (y : KeptTask) (i : ℕ) → length ks ≡ i → kept_texts app 0 (ks ++ y ∷ []) ≡ kept_texts app 0 ks ++ kept_text app (i, y)
  push_texts ks y i e = append_from 0 i ks (y ∷ []) (omega (arith, e)) ∙ ap (λ (l : List ℕ). kept_texts app 0 ks ++ l) (append-nil (kept_text app (i, y)))

  -- those before task j, and those from it on
  parted : (ks : List KeptTask) (j : ℕ) → j ≤ length ks → kept_texts app 0 ks ≡ kept_texts app 0 (take j ks) ++ kept_texts app j (drop j ks)
  parted ks j within =
      ap (kept_texts app 0) (sym (take-append-drop j ks)) ∙ append_from 0 j (take j ks) (drop j ks) (omega (arith, length-take-le j ks within))

  place_is : (ks : List KeptTask) (j : ℕ) → AreKept ks → length (kept_texts app 0 (take j ks)) ≡ kept_place ks j
  place_is ks j h = length_from 0 (take j ks) (front_from 0 j ks (all_from ks h))

  -- the text of task i begins at its place, and the next one at the next place
  module _ (ks : List KeptTask) (i : ℕ) (h : AreKept ks) (within : i < length ks) where
    abbrev pub texts_before : List ℕ
    texts_before = kept_texts app 0 (take i ks)

    abbrev pub texts_behind : List ℕ
    texts_behind = kept_texts app (i + 1) (drop (i + 1) ks)

    pub before_length : length texts_before ≡ kept_place ks i
    before_length = place_is ks i h

    front_is : take (kept_place ks i) (kept_texts app 0 ks) ≡ texts_before
    front_is =
        ap (take (kept_place ks i)) (parted ks i (omega (arith, within)))
        ∙ take_at texts_before (kept_texts app i (drop i ks)) (kept_place ks i) (place_is ks i h)

    back_is : drop (kept_place ks (i + 1)) (kept_texts app 0 ks) ≡ texts_behind
    back_is =
        ap (drop (kept_place ks (i + 1))) (parted ks (i + 1) (omega (arith, within)))
        ∙ drop_at (kept_texts app 0 (take (i + 1) ks)) texts_behind (kept_place ks (i + 1)) (place_is ks (i + 1) h)

    pub texts_set : (y : KeptTask) → kept_texts app 0 (set ks i y) ≡ texts_before ++ (kept_text app (i, y) ++ texts_behind)
    texts_set y =
        ap (kept_texts app 0) (set_split ks i y within) ∙ append_from 0 i (take i ks) (y ∷ drop (suc i) ks)
        (omega (arith, within, length-take-le i ks (omega (arith, within))))
        ∙ ap (λ (j : ℕ). texts_before ++ (kept_text app (i, y) ++ kept_texts app (i + 1) (drop j ks))) (sym (add-one i))

    pub texts_are : kept_texts app 0 ks ≡ texts_before ++ (kept_text app (i, get_or ks i not_shown) ++ texts_behind)
    texts_are = ap (kept_texts app 0) (sym (set-get_or ks i not_shown)) ∙ texts_set (get_or ks i not_shown)

    -- another text of task i is put between those before it and those behind it
    pub texts_anew : (y : KeptTask) (text : List ℕ) (at next : ℕ) → text ≡ kept_texts app 0 ks → at ≡ kept_place ks i → next ≡ kept_place ks (i + 1) →
        take at text ++ (kept_text app (i, y) ++ drop next text) ≡ kept_texts app 0 (set ks i y)
    texts_anew y text at next is here there =
        let front : take at text ≡ texts_before = ap (λ (n : ℕ). take n text) here ∙ ap (take (kept_place ks i)) is ∙ front_is in
        let back : drop next text ≡ texts_behind = ap (λ (n : ℕ). drop n text) there ∙ ap (drop (kept_place ks (i + 1))) is ∙ back_is in
        ap (λ (l : List ℕ). l ++ (kept_text app (i, y) ++ drop next text)) front ∙ ap (λ (l : List ℕ). texts_before ++ (kept_text app (i, y) ++ l)) back
        ∙ sym (texts_set y)

  pub kept_set : (ks : List KeptTask) (i : ℕ) (y : KeptTask) → AreKept ks → IsKept app i y → AreKept (set ks i y)
  kept_set ks i y h new t within =
      let size = length-set ks i y in
      elim (cases_eq t i) [
        | inl same ↦ (let here : i < length ks = omega (arith, within, size, same) in
            subst (λ (j : ℕ). IsKept app j (get_or (set ks i y) j not_shown)) (sym same)
            (subst (IsKept app i) (sym (get_or-set_same ks i y not_shown here)) new))
        | inr other ↦ subst (IsKept app t) (sym (get_or-set_other ks i t y not_shown other)) (h t (omega (arith, within, size)))
      ]

  -- the text of a task that is shown as it is in a state
  pub text_in : (s : State) (t : ℕ) (k : KeptTask) → k.shown ≡ shown_of s t → kept_text app (t, k) ≡ task_text app s (t, the_task app t)
  text_in s t k e = ap (shown_text app t (the_task app t)) e ∙ sym (text_of_shown app s t (the_task app t))

  -- what is kept of a text that was put at a place
  pub put_is : (s : State) (t : ℕ) (y : KeptTask) (old new : List ℕ) (at end : ℕ) → y.shown ≡ shown_of s t → y.size ≡ end - at → at ≤ length old →
      end ≤ length new →
      take end new ≡ take at old ++ task_text app s (t, the_task app t) → end ≤ at + 634 → IsKept app t y
  put_is s t y old new at end shown size low high text few =
      let whole = ap (λ (l : List ℕ). length l) text in
      let same = ap (λ (l : List ℕ). length l) (text_in s t y shown) in
      let parts = length-append (take at old) (task_text app s (t, the_task app t)) in
      record {
        size = omega (arith, size, whole, same, length-take-le at old low, length-take-le end new high, parts);
        most = omega (arith, size, few);
      }

  pub kept_push : (ks : List KeptTask) (y : KeptTask) → AreKept ks → IsKept app (length ks) y → AreKept (ks ++ y ∷ [])
  kept_push ks y h new t within = elim (cases_eq t (length ks)) [
    | inl same ↦ subst (λ (j : ℕ). IsKept app j (get_or (ks ++ y ∷ []) j not_shown)) (sym same)
        (subst (IsKept app (length ks)) (sym (get_or_push ks y not_shown (length ks) refl)) new)
    | inr other ↦ (let here : t < length ks = omega (arith, within, other, length_push ks y) in
        subst (IsKept app t) (sym (get_or_append_left ks (y ∷ []) not_shown t here)) (h t here))
  ]

  -- the texts so far, and those of the rest of the tasks in a state, are the whole
  module _ (s : State) where
    abbrev pub rest_text : ℕ → List ℕ
    rest_text t = flat_map (task_text app s) (enumerate_from t (drop t app.tasks))

    rest_more : (t : ℕ) → t < length app.tasks → rest_text t ≡ task_text app s (t, the_task app t) ++ rest_text (t + 1)
    rest_more t within = ap (λ (ds : List Task). flat_map (task_text app s) (enumerate_from t ds)) (drop_more app.tasks t no_task within)

    pub one_more : (t : ℕ) (text new : List ℕ) → t < length app.tasks → new ≡ text ++ task_text app s (t, the_task app t) →
        text ++ rest_text t ≡ tasks_text app s → new ++ rest_text (t + 1) ≡ tasks_text app s
    one_more t text new within is before =
        ap (λ (l : List ℕ). l ++ rest_text (t + 1)) is ∙ append_assoc text (task_text app s (t, the_task app t)) (rest_text (t + 1))
        ∙ ap (λ (l : List ℕ). text ++ l) (sym (rest_more t within)) ∙ before

    none_left : (t : ℕ) (text : List ℕ) → length app.tasks ≤ t → text ++ rest_text t ≡ tasks_text app s → text ≡ tasks_text app s
    none_left t text end before =
        sym (append-nil text) ∙ ap (λ (l : List ℕ). text ++ l) (sym (ap (λ (ds : List Task). flat_map (task_text app s) (enumerate_from t ds))
        (drop_all t app.tasks end))) ∙ before

    -- where the first n tasks are shown as they are, their texts and those of the rest are the whole
    shown_first : (ks : List KeptTask) (n : ℕ) → n ≤ length app.tasks → ShowsAll app s ks → kept_texts app 0 (take n ks) ++ rest_text n ≡ tasks_text app s
    shown_first ks zero within h = refl
    shown_first ks (suc n) within h =
        let known : n < length app.tasks = omega (arith, within) in
        let here : n < length ks = omega (arith, known, h.count) in
        let x = get_or ks n not_shown in
        let more : kept_texts app 0 (take (n + 1) ks) ≡ kept_texts app 0 (take n ks) ++ task_text app s (n, the_task app n) =
        ap (kept_texts app 0) (take_more ks n not_shown here) ∙ push_texts (take n ks) x n (length-take-le n ks (omega (arith, here)))
        ∙ ap (λ (l : List ℕ). kept_texts app 0 (take n ks) ++ l) (text_in s n x (h.each n known)) in
        subst (λ (m : ℕ). kept_texts app 0 (take m ks) ++ rest_text m ≡ tasks_text app s) (add-one n)
        (one_more n (kept_texts app 0 (take n ks)) (kept_texts app 0 (take (n + 1) ks)) known more (shown_first ks n (omega (arith, within)) h))

    -- and where all are, their texts are
    pub all_shown : (ks : List KeptTask) → ShowsAll app s ks → kept_texts app 0 ks ≡ tasks_text app s
    all_shown ks h =
        let n = length app.tasks in
        ap (kept_texts app 0) (sym (take_all n ks (omega (arith, h.count)))) ∙ none_left n (kept_texts app 0 (take n ks)) (omega arith) (shown_first ks n (omega arith) h)
