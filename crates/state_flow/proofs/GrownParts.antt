-- The new numbers of a component with all numbers of the others, a component after the other.
use Rattle.std.proofs.Common.{◌≡◌, ◌⊎◌, ℕ, ◌+◌, ◌<◌, ◌≤◌, Bool, true, false, ◌&&◌, not, Option, Some, List, [], ◌∷◌, ◌++◌, length, get_or, set, IsTrue, refl, sym, ap, ap₂, subst, ◌∙◌, inl, inr, arith, get_or-set_same, get_or-set_other}
use Rattle.std.specs.Prelude.{◌==◌, Contains}
use Rattle.std.proofs.lemmas.{Bool.{cases_eq, and_parts, eq-eqb, eqb-true}, List.{length-set, Elements.{Contains-push, Contains-push_cases}}}
use Rattle.osek_standard.specs.declared.point.Point.{Point}
use Rattle.osek_standard.proofs.Members.{among_left, among_contained, contained_among}
use Rattle.bit_words.proofs.OtherWords.{has_alone}
use Rattle.numbered_sets.specs.declared.{numbered_entry.NumberedEntry.{NumberedEntry}, table.NumberedRow.{NumberedRow}}
use Rattle.numbered_sets.specs.{Numbers.{Numbers, has_number, other_numbers}, NumberedEntries.{no_set, numbers_at, AreFilled}}
use Rattle.numbered_sets.proofs.KnownNumbers.{no_bit_of_none}
use Rattle.point_exits.proofs.NumbersPassing.{domains_alike}
use Rattle.state_flow.specs.Parts.{IsChoiceOf, HasChoice, IsPartRow, AreRowsBeside}

-- what the test for new numbers says
pub has_new : (m : ℕ) (b : Bool) → b ≡ (m == 0) → b ≡ false → m ≡ 0 → ⊥
has_new m b is not_so none = absurd (let so : b ≡ true = is ∙ eq-eqb m 0 none in cc)

pub has_none : (m : ℕ) (b : Bool) → b ≡ (m == 0) → b ≡ true → m ≡ 0
has_none m b is so = eqb-true m 0 (sym is ∙ so)

true_or_false : (b : Bool) → (b ≡ true) ⊎ (b ≡ false)
true_or_false true = inl refl
true_or_false false = inr refl

abbrev row_with : Point → NumberedEntry → NumberedRow
row_with point entry = record { point = point; entry = entry }

module _ (point : Point) (entry : NumberedEntry) where
  -- all numbers
  pub whole_beside : AreFilled entry → (row : NumberedRow) → row.point ≡ point → row.entry ≡ entry → (before : Option NumberedEntry) → AreRowsBeside point entry before (row ∷ [])
  whole_beside filled row at is before = record {
    parts = λ other m. subst (IsPartRow point entry) (row_is other m) (subst (λ (e : NumberedEntry). IsPartRow point entry (record row { entry = e })) (sym is) (record { at = at; domains = refl; below = record { each = λ c n h. h }; filled = filled }));
    all = λ choice chosen. inr (record { row = row; among = Contains-push [] row; chosen = subst (λ (e : NumberedEntry). IsChoiceOf e choice) (sym is) chosen });
  }
    where
      row_is : (other : NumberedRow) → Contains (row ∷ []) other → row ≡ other
      row_is other h = elim (Contains-push_cases [] row other h) [ inl none ↦ absurd (omega (arith, none.1)) | inr same ↦ same ]

  module _ (before : NumberedEntry) where
    -- what holds once so many components were looked at
    pub record AreRowsBelow (done : ℕ) (rows : List NumberedRow) : Type 0 where
      pub parts : (row : NumberedRow) → Contains rows row → IsPartRow point entry row
      pub all : (choice : ℕ → ℕ) → IsChoiceOf entry choice → ((c : ℕ) → c < done → IsTrue (has_number (numbers_at before c) (choice c))) ⊎ HasChoice rows choice

    pub all_below : (done : ℕ) (rows : List NumberedRow) → length before.sets ≤ done → AreRowsBelow done rows → AreRowsBeside point entry (Some before) rows
    all_below done rows long h = record {
      parts = h.parts;
      all = λ choice chosen. elim (h.all choice chosen) [
        | inl old ↦ inl (record { entry = before; is = refl; chosen = record { each = λ c lt. old c (omega (arith, lt, long)) } })
        | inr new ↦ inr new
      ];
    }

    module _ (c : ℕ) (known : c < length entry.sets) where
      -- so it is with one component more
      next_below : (choice : ℕ → ℕ) → ((k : ℕ) → k < c → IsTrue (has_number (numbers_at before k) (choice k))) → IsTrue (has_number (numbers_at before c) (choice c)) → (k : ℕ) → k < c + 1 → IsTrue (has_number (numbers_at before k) (choice k))
      next_below choice earlier this k lt = elim (cases_eq k c) [
        | inl same ↦ subst (λ (j : ℕ). IsTrue (has_number (numbers_at before j) (choice j))) (sym same) this
        | inr other ↦ earlier k (omega (arith, lt, other))
      ]

      -- it has no new number
      pub not_grown : (rows : List NumberedRow) → (other_numbers (numbers_at entry c) (numbers_at before c)).bits ≡ 0 → AreRowsBelow c rows → AreRowsBelow (c + 1) rows
      not_grown rows none h = record {
        parts = h.parts;
        all = λ choice chosen. elim (h.all choice chosen) [
          | inl earlier ↦ inl (next_below choice earlier (there (choice c) (chosen.each c known)))
          | inr new ↦ inr new
        ];
      }
        where
          there : (n : ℕ) → IsTrue (has_number (numbers_at entry c) n) → IsTrue (has_number (numbers_at before c) n)
          there n has = elim (true_or_false (has_number (numbers_at before c) n)) [
            | inl old ↦ old
            | inr new ↦ absurd (no_bit_of_none n (sym (ap (λ (m : ℕ). has_number (record { domain = (numbers_at entry c).domain; bits = m }) n) none)
                ∙ has_alone (numbers_at entry c).bits (numbers_at before c).bits n ∙ ap₂ (λ (a b : Bool). a && not b) has new))
          ]

      module _ (part : NumberedEntry) (is : part.sets ≡ set entry.sets c (other_numbers (numbers_at entry c) (numbers_at before c))) where
        here : numbers_at part c ≡ other_numbers (numbers_at entry c) (numbers_at before c)
        here = ap (λ (xs : List Numbers). get_or xs c no_set) is ∙ get_or-set_same entry.sets c (other_numbers (numbers_at entry c) (numbers_at before c)) no_set known

        beside : (k : ℕ) → (k ≡ c → ⊥) → numbers_at part k ≡ numbers_at entry k
        beside k differ = ap (λ (xs : List Numbers). get_or xs k no_set) is ∙ get_or-set_other entry.sets c k (other_numbers (numbers_at entry c) (numbers_at before c)) no_set differ

        long : length part.sets ≡ length entry.sets
        long = ap (λ (xs : List Numbers). length xs) is ∙ length-set entry.sets c (other_numbers (numbers_at entry c) (numbers_at before c))

        new_here : (n : ℕ) → has_number (numbers_at part c) n ≡ (has_number (numbers_at entry c) n && not (has_number (numbers_at before c) n))
        new_here n = ap (λ (x : Numbers). has_number x n) here ∙ has_alone (numbers_at entry c).bits (numbers_at before c).bits n

        at_place : (P : ℕ → Type 0) (k : ℕ) → P c → ((k ≡ c → ⊥) → P k) → P k
        at_place P k this other = elim (cases_eq k c) [ inl same ↦ subst P (sym same) this | inr differ ↦ other differ ]

        part_row : AreFilled entry → ((other_numbers (numbers_at entry c) (numbers_at before c)).bits ≡ 0 → ⊥) → IsPartRow point entry (row_with point part)
        part_row filled some = record {
          at = refl;
          domains = domains_alike part.sets entry.sets long (λ k. at_place (λ (j : ℕ). (numbers_at part j).domain ≡ (numbers_at entry j).domain) k (ap (λ (x : Numbers). x.domain) here) (λ differ. ap (λ (x : Numbers). x.domain) (beside k differ)));
          below = record {
            each = λ k n. at_place (λ (j : ℕ). IsTrue (has_number (numbers_at part j) n) → IsTrue (has_number (numbers_at entry j) n)) k
                (λ has. (and_parts (has_number (numbers_at entry c) n) (not (has_number (numbers_at before c) n)) (sym (new_here n) ∙ has)).0)
                (λ differ has. ap (λ (x : Numbers). has_number x n) (sym (beside k differ)) ∙ has);
          };
          filled = record {
            each = λ k lt. at_place (λ (j : ℕ). j < length entry.sets → 0 < (numbers_at part j).bits) k
                (λ below. subst (λ (x : Numbers). 0 < x.bits) (sym here) (omega (arith, some)))
                (λ differ below. subst (λ (x : Numbers). 0 < x.bits) (sym (beside k differ)) (filled.each k below))
                (omega (arith, lt, long));
          };
        }

        part_choice : (choice : ℕ → ℕ) → IsChoiceOf entry choice → has_number (numbers_at before c) (choice c) ≡ false → IsChoiceOf part choice
        part_choice choice chosen new = record {
          each = λ k lt. at_place (λ (j : ℕ). j < length entry.sets → IsTrue (has_number (numbers_at part j) (choice j))) k
              (λ below. new_here (choice c) ∙ ap₂ (λ (a b : Bool). a && not b) (chosen.each c below) new)
              (λ differ below. ap (λ (x : Numbers). has_number x (choice k)) (beside k differ) ∙ chosen.each k below)
              (omega (arith, lt, long));
        }

        -- it has
        pub grown : AreFilled entry → (rows : List NumberedRow) → ((other_numbers (numbers_at entry c) (numbers_at before c)).bits ≡ 0 → ⊥) → AreRowsBelow c rows → AreRowsBelow (c + 1) (rows ++ row_with point part ∷ [])
        grown filled rows some h = record {
          parts = λ row m. elim (Contains-push_cases rows (row_with point part) row m) [ inl earlier ↦ h.parts row earlier | inr same ↦ subst (IsPartRow point entry) same (part_row filled some) ];
          all = λ choice chosen. elim (h.all choice chosen) [
            | inl earlier ↦ elim (true_or_false (has_number (numbers_at before c) (choice c))) [
              | inl old ↦ inl (next_below choice earlier old)
              | inr new ↦ inr (record { row = row_with point part; among = Contains-push rows (row_with point part); chosen = part_choice choice chosen new })
            ]
            | inr has ↦ inr (record { row = has.row; among = among_contained (rows ++ row_with point part ∷ []) has.row (among_left has.row rows (row_with point part ∷ []) (contained_among rows has.row has.among)); chosen = has.chosen })
          ];
        }
