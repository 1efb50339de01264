-- What a line is put by, as its fields are when the text of one task changed.
use Rattle.std.proofs.Common.{◌≡◌, ℕ, ◌+◌, ◌-◌, ◌<◌, ◌≤◌, List, ◌++◌, length, take, drop, set, get_or, sum_by, refl, sym, ◌∙◌, ap, subst, arith}
use Rattle.std.proofs.{Math.Seq.{take-set-lt}, lemmas.List.{get_or_default, length-take-le}}
use Rattle.osek_values.specs.declared.status.Letter.{Letter}
use Rattle.osek_standard.specs.{declared.{app.App.{App}, state.State.{State}}, Apps.{the_task}, TraceText.{task_text}}
use Rattle.trace_text.specs.{declared.shown.KeptTask.{KeptTask}, Labels.{LabelTexts}}
use Rattle.trace_text.specs.LineParts.{LineTexts, ArePartsOf, IsKept, KeepsEvents, shown_of, shown_before, kept_with_letter, kept_place, not_shown}
use Rattle.trace_text.proofs.{ShownLaws.{letter_byte}, KeptLaws.{size_of, put_is, text_in}}
use Rattle.trace_text.proofs.PartsLaws.{next_within, total_set, put_between, parts_anew, few_anew, lettered, within_text, parts_lettered}

-- what stands at a place of the same list
read_at : (xs ks : List KeptTask) (i t : ℕ) (d : KeptTask) → xs ≡ ks → i ≡ t → t < length ks → get_or xs i d ≡ get_or ks t not_shown
read_at xs ks i t d same index within =
    ap (λ (zs : List KeptTask). get_or zs i d) same ∙ ap (λ (j : ℕ). get_or ks j d) index ∙ get_or_default ks t d not_shown within

-- where a text begins, by the same list and number
pub placed : (xs ks : List KeptTask) (i t at : ℕ) → at ≡ kept_place xs i → xs ≡ ks → i ≡ t → at ≡ kept_place ks t
placed xs ks i t at place same index = place ∙ ap (λ (zs : List KeptTask). kept_place zs i) same ∙ ap (kept_place ks) index

module _ (app : App) (labels : LabelTexts) (ks : List KeptTask) (old : List ℕ) (size : ℕ) (v : LineTexts) (t at : ℕ) where
  abbrev view : LineTexts
  view = record { labels = labels; kept = ks; tasks = take size old }

  -- what is known of them
  pub record Opened : Type 0 where
    pub is : view ≡ v
    pub parts : ArePartsOf app v
    pub whole : length v.kept ≡ length app.tasks
    pub known : t < length app.tasks
    pub place : at ≡ kept_place ks t
    pub all : size ≡ sum_by size_of ks

  module _ (o : Opened) where
    within : t < length ks
    within = let same = ap (λ (p : LineTexts). length p.kept) o.is in omega (arith, same, o.whole, o.known)

    few : length ks ≤ 16
    few = let same = ap (λ (p : LineTexts). length p.kept) o.is in omega (arith, same, o.whole, app.valid.few_tasks)

    parts : ArePartsOf app view
    parts = subst (ArePartsOf app) (sym o.is) o.parts

    -- the text of task t is put anew
    module _ (xs : List KeptTask) (i : ℕ) (d : KeptTask) (same : xs ≡ ks) (index : i ≡ t) where
      next_is : at + (get_or xs i d).size ≡ at + (get_or ks t not_shown).size
      next_is = ap (λ (k : KeptTask). at + k.size) (read_at xs ks i t d same index within)

      pub order : at + (get_or xs i d).size ≤ size
      order = omega (arith, next_is, o.place, o.all, next_within ks t within)

      module _ (s : State) (n : ℕ) (before made : List ℕ) (high : n ≤ length made) (most : n ≤ 634)
          (text : take n made ≡ take 0 before ++ task_text app s (t, the_task app t)) where
        abbrev now_kept : KeptTask
        now_kept = record { shown = shown_of s t; size = n }

        kept_now : IsKept app t now_kept
        kept_now = put_is app s t now_kept before made 0 n refl (omega arith) (omega arith) high text (omega (arith, most))

        pub total : at + (n + (size - (at + (get_or xs i d).size))) ≡ sum_by size_of (set ks t now_kept)
        total = total_set ks t now_kept size at (at + (get_or xs i d).size) within o.all o.place next_is

        pub total_few : at + (n + (size - (at + (get_or xs i d).size))) ≤ 10144
        total_few = omega (arith, total, few_anew app view parts t within now_kept kept_now few)

        pub anew : (y : KeptTask) (ls : List KeptTask) (j end last : ℕ) (joined new : List ℕ) → y ≡ now_kept → j ≡ t → ls ≡ set ks j y →
            take end joined ≡ take n made ++ drop (at + (get_or xs i d).size) (take size old) → take last new ≡ take at old ++ take end joined →
            ArePartsOf app (record { labels = labels; kept = ls; tasks = take last new })
        anew y ls j end last joined new y_is j_is ls_is joined_is new_is =
            let next = at + (get_or xs i d).size in
            let set_is : ls ≡ set ks t now_kept = ls_is ∙ ap (λ (m : ℕ). set ks m y) j_is ∙ ap (set ks t) y_is in
            let text_is = put_between old made joined new (task_text app s (t, the_task app t)) at next size n end last (omega arith) order text joined_is
            new_is in
            subst (λ (zs : List KeptTask). ArePartsOf app (record { labels = labels; kept = zs; tasks = take last new })) (sym set_is)
            (parts_anew app view parts t within now_kept (take last new) at next kept_now o.place next_is
            (text_is ∙ ap (λ (l : List ℕ). take at (take size old) ++ (l ++ drop next (take size old))) (sym (text_in app s t now_kept refl))))

    -- and its letter is
    pub with_other : (l : Letter) (ls : List KeptTask) (j n byte : ℕ) (name : List ℕ) → KeepsEvents app t (shown_before v.kept t) l → j ≡ t →
        ls ≡ set ks j (kept_with_letter (get_or ks j not_shown) l) → name ≡ (the_task app t).name → n ≡ at + length name + 2 → byte ≡ letter_byte l →
        size ≤ length old →
        ArePartsOf app (record { labels = labels; kept = ls; tasks = take size (set old n byte) })
    with_other l ls j n byte name keeps j_is ls_is name_is n_is byte_is fits =
        let same : KeepsEvents app t (get_or ks t not_shown).shown l = subst (λ (p : LineTexts). KeepsEvents app t (shown_before p.kept t) l) (sym o.is)
        keeps in
        let place : n ≡ at + length (the_task app t).name + 2 = omega (arith, n_is, ap (λ (x : List ℕ). length x) name_is) in
        let low : n < size = omega (arith, within_text app view parts t within l same at n o.place place, length-take-le size old fits) in
        let text : take size (set old n byte) ≡ set (take size old) n (letter_byte l) = take-set-lt size old n byte low
        ∙ ap (λ (b : ℕ). set (take size old) n b) byte_is in
        let set_is : ls ≡ set ks t (lettered app view parts t within l same) = ls_is
        ∙ ap (λ (m : ℕ). set ks m (kept_with_letter (get_or ks m not_shown) l)) j_is in
        subst (λ (zs : List KeptTask). ArePartsOf app (record { labels = labels; kept = zs; tasks = take size (set old n byte) })) (sym set_is)
        (parts_lettered app view parts t within l same at n (take size (set old n byte)) o.place place text)
