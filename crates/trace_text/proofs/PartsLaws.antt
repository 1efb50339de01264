-- What a line is put by, after the text of one task changed.
use Rattle.std.proofs.Common.{◌≡◌, ℕ, ◌+◌, ◌-◌, ◌<◌, ◌≤◌, List, ◌++◌, length, take, drop, set, get_or, sym, ◌∙◌, ap, arith}
use Rattle.std.specs.List.{sum_by}
use Rattle.std.proofs.{lemmas.{List.{take-take, length-set}, List.Sums.{sum_by_more, sum_by_more_le, sum_by-set}}}
use Rattle.osek_values.specs.declared.status.Letter.{Letter}
use Rattle.osek_standard.specs.{declared.app.App.{App}, Apps.{the_task}}
use Rattle.trace_text.specs.declared.shown.{KeptTask.{KeptTask}}
use Rattle.trace_text.specs.LineParts.{LineTexts, ArePartsOf, IsKept, KeepsEvents, kept_with_letter, kept_text, kept_place, not_shown}
use Rattle.trace_text.proofs.ShownLaws.{letter_byte, letter_length, letter_put, letter_within}
use Rattle.trace_text.proofs.KeptLaws.{size_of, kept_few, kept_set, texts_before, texts_behind, before_length, texts_are, texts_set, texts_anew}

-- the next text begins behind the text of task i
pub place_next : (ks : List KeptTask) (i : ℕ) → i < length ks → kept_place ks (i + 1) ≡ kept_place ks i + (get_or ks i not_shown).size
place_next ks i within = sum_by_more size_of ks i not_shown within

pub next_within : (ks : List KeptTask) (i : ℕ) → i < length ks → kept_place ks i + (get_or ks i not_shown).size ≤ sum_by size_of ks
next_within ks i within = sum_by_more_le size_of ks i not_shown within

-- how long all are with another text of task i
pub total_set : (ks : List KeptTask) (i : ℕ) (y : KeptTask) (size at next : ℕ) → i < length ks → size ≡ sum_by size_of ks → at ≡ kept_place ks i →
    next ≡ at + (get_or ks i not_shown).size →
    at + (y.size + (size - next)) ≡ sum_by size_of (set ks i y)
total_set ks i y size at next within all here there = omega (arith, all, here, there, next_within ks i within, sum_by-set size_of ks i y not_shown within)

-- a text that is put between what stood before it and what stood behind the one before
pub put_between : (old made joined new text : List ℕ) (at next size count end total : ℕ) → at ≤ next → next ≤ size →
    take count made ≡ text → take end joined ≡ take count made ++ drop next (take size old) → take total new ≡ take at old ++ take end joined →
    take total new ≡ take at (take size old) ++ (text ++ drop next (take size old))
put_between old made joined new text at next size count end total below within made_is joined_is new_is =
    new_is ∙ ap (λ (l : List ℕ). l ++ take end joined) (sym (take-take at size old (omega (arith, below, within))))
    ∙ ap (λ (l : List ℕ). take at (take size old) ++ l) (joined_is ∙ ap (λ (l : List ℕ). l ++ drop next (take size old)) made_is)

module _ (app : App) (p : LineTexts) (parts : ArePartsOf app p) (i : ℕ) (within : i < length p.kept) where
  abbrev kept_i : KeptTask
  kept_i = get_or p.kept i not_shown

  pub parts_anew : (y : KeptTask) (text : List ℕ) (at next : ℕ) → IsKept app i y → at ≡ kept_place p.kept i → next ≡ at + (get_or p.kept i not_shown).size →
      text ≡ take at p.tasks ++ (kept_text app (i, y) ++ drop next p.tasks) → ArePartsOf app (record { labels = p.labels; kept = set p.kept i y; tasks = text })
  parts_anew y text at next is here there text_is = record {
    labelled = parts.labelled;
    kept = kept_set app p.kept i y parts.kept is;
    text = text_is ∙ texts_anew app p.kept i parts.kept within y p.tasks at next parts.text here (omega (arith, here, there, place_next p.kept i within));
  }

  pub few_anew : (y : KeptTask) → IsKept app i y → length p.kept ≤ 16 → sum_by size_of (set p.kept i y) ≤ 10144
  few_anew y is few = kept_few app (set p.kept i y) (kept_set app p.kept i y parts.kept is) (omega (arith, few, length-set p.kept i y))

  module _ (l : Letter) (same : KeepsEvents app i kept_i.shown l) where
    abbrev pub lettered : KeptTask
    lettered = kept_with_letter kept_i l

    pub lettered_is : IsKept app i lettered
    lettered_is =
        let old = parts.kept i within in
        record { size = old.size ∙ sym (letter_length app i (the_task app i) kept_i.shown l same); most = old.most }

    text_parts : p.tasks ≡ texts_before app p.kept i parts.kept within ++ (kept_text app (i, kept_i) ++ texts_behind app p.kept i parts.kept within)
    text_parts = parts.text ∙ texts_are app p.kept i parts.kept within

    letter_at : (at n : ℕ) → at ≡ kept_place p.kept i → n ≡ at + length (the_task app i).name + 2 →
        n ≡ length (texts_before app p.kept i parts.kept within) + length (the_task app i).name + 2
    letter_at at n here there = omega (arith, here, there, before_length app p.kept i parts.kept within)

    -- the letter stands within the text
    pub within_text : (at n : ℕ) → at ≡ kept_place p.kept i → n ≡ at + length (the_task app i).name + 2 → n < length p.tasks
    within_text at n here there =
        let last = letter_within app i (the_task app i) kept_i.shown l same (texts_before app p.kept i parts.kept within)
        (texts_behind app p.kept i parts.kept within) n (letter_at at n here there) in
        omega (arith, last, ap (λ (t : List ℕ). length t) text_parts)

    pub parts_lettered : (at n : ℕ) (text : List ℕ) → at ≡ kept_place p.kept i → n ≡ at + length (the_task app i).name + 2 →
        text ≡ set p.tasks n (letter_byte l) →
        ArePartsOf app (record { labels = p.labels; kept = set p.kept i lettered; tasks = text })
    parts_lettered at n text here there is = record {
      labelled = parts.labelled;
      kept = kept_set app p.kept i lettered parts.kept lettered_is;
      text = is ∙ ap (λ (t : List ℕ). set t n (letter_byte l)) text_parts
          ∙ letter_put app i (the_task app i) kept_i.shown l same (texts_before app p.kept i parts.kept within)
          (texts_behind app p.kept i parts.kept within) n (letter_at at n here there)
          ∙ sym (texts_set app p.kept i parts.kept within lettered);
    }
