-- Numbers of slots by column and row.
use Rattle.std.proofs.Common.{◌≡◌, ◌≢◌, ℕ, ◌+◌, ◌*◌, ◌/◌, ◌%◌, ◌<◌, List, [], ◌∷◌, ◌++◌, length, get_or, set, sym, ap, ap₂, subst, ◌∙◌, inl, inr, arith}
use Rattle.std.proofs.{Math.Seq.{get_or-append_seam}, lemmas.{Bool.{cases_eq, cases_lt}, Nat.{div-add-mod', div-mul-add, mod-mul-add}}}
use Rattle.std.proofs.lemmas.List.{length-append, get_or_append_left, get_or-set_same, get_or-set_other}
use Rattle.numbered_sets.specs.Slots.{IsNumberOfSlot, IsUnused, none, number_in, AreNumbersBySlot, AreSameNumbers, IsRoomAt}

-- a column with other numbers
numbers_there : (columns : List (List ℕ)) (column : ℕ) (numbers : List ℕ) → column < length columns → (r : ℕ) → number_in (set columns column numbers) column r ≡ get_or numbers r none
numbers_there columns column numbers known r = ap (λ (ns : List ℕ). get_or ns r none) (get_or-set_same columns column numbers [] known)

numbers_elsewhere : (columns : List (List ℕ)) (column c : ℕ) (numbers : List ℕ) → c ≢ column → (r : ℕ) → number_in (set columns column numbers) c r ≡ number_in columns c r
numbers_elsewhere columns column c numbers differ r = ap (λ (ns : List ℕ). get_or ns r none) (get_or-set_other columns column c numbers [] differ)

pub numbers_stay : (width : ℕ) (used : List ℕ) (columns after : List (List ℕ)) → AreSameNumbers columns after → AreNumbersBySlot width used columns → AreNumbersBySlot width used after
numbers_stay width used columns after same h = record {
  wide = h.wide;
  few = h.few;
  each = λ n d lt. same.each (get_or used n d % width) (get_or used n d / width) ∙ h.each n d lt;
  only = λ c r lt some. subst (IsNumberOfSlot used (r * width + c)) (sym (same.each c r)) (h.only c r lt (λ e. some (same.each c r ∙ e)));
}

-- ---- what was found

pub unused_at : (width : ℕ) (used : List ℕ) (columns : List (List ℕ)) (column row : ℕ) → AreNumbersBySlot width used columns → column < width → number_in columns column row ≡ none → IsUnused used (row * width + column)
unused_at width used columns column row h lt is = record {
  each = λ n d known e.
      (let left : get_or used n d % width ≡ column = ap (λ (s : ℕ). s % width) e ∙ mod-mul-add row width column lt in
      let often : get_or used n d / width ≡ row = ap (λ (s : ℕ). s / width) e ∙ div-mul-add row width column lt in
      let number : none ≡ n = sym is ∙ sym (ap₂ (number_in columns) left often) ∙ h.each n d known in
      omega (arith, number, known, h.few));
}

-- ---- a slot gets the next number

pub place_stays : (used more : List ℕ) (s n : ℕ) → IsNumberOfSlot used s n → IsNumberOfSlot (used ++ more) s n
place_stays used more s n h = record { known = omega (arith, h.known, length-append used more); is = λ d. get_or_append_left used more d n h.known ∙ h.is d }

pub last_place : (used : List ℕ) (s : ℕ) → IsNumberOfSlot (used ++ s ∷ []) s (length used)
last_place used s = record { known = omega (arith, length-append used (s ∷ [])); is = λ d. get_or-append_seam used s [] d }

module _ (width : ℕ) (used : List ℕ) (columns : List (List ℕ)) (slot : ℕ) (h : AreNumbersBySlot width used columns) (unused : IsUnused used slot) (few : length used < none) (room : IsRoomAt columns (slot % width) (slot / width)) where
  abbrev pub with_number : List (List ℕ)
  with_number = set columns (slot % width) (set (get_or columns (slot % width) []) (slot / width) (length used))

  put_there : number_in with_number (slot % width) (slot / width) ≡ length used
  put_there =
      numbers_there columns (slot % width) (set (get_or columns (slot % width) []) (slot / width) (length used)) room.wide (slot / width)
      ∙ get_or-set_same (get_or columns (slot % width) []) (slot / width) (length used) none room.long

  others_stay : (c r : ℕ) → (c ≡ slot % width → r ≡ slot / width → ⊥) → number_in with_number c r ≡ number_in columns c r
  others_stay c r differ = elim (cases_eq c (slot % width)) [
    | inl here ↦
        subst (λ (k : ℕ). number_in with_number k r ≡ number_in columns k r) (sym here)
        (numbers_there columns (slot % width) (set (get_or columns (slot % width) []) (slot / width) (length used)) room.wide r
        ∙ get_or-set_other (get_or columns (slot % width) []) (slot / width) r (length used) none (differ here))
    | inr elsewhere ↦ numbers_elsewhere columns (slot % width) c (set (get_or columns (slot % width) []) (slot / width) (length used)) elsewhere r
  ]

  same_slot : (s : ℕ) → s % width ≡ slot % width → s / width ≡ slot / width → s ≡ slot
  same_slot s left often = sym (div-add-mod' s width) ∙ ap₂ (λ (r c : ℕ). r * width + c) often left ∙ div-add-mod' slot width

  number_of_each : (n d : ℕ) → n < length (used ++ slot ∷ []) → number_in with_number (get_or (used ++ slot ∷ []) n d % width) (get_or (used ++ slot ∷ []) n d / width) ≡ n
  number_of_each n d lt = elim (cases_lt n (length used)) [
    | inl before ↦
        subst (λ (s : ℕ). number_in with_number (s % width) (s / width) ≡ n) (sym (get_or_append_left used (slot ∷ []) d n before))
        (others_stay (get_or used n d % width) (get_or used n d / width) (λ left often. unused.each n d before (same_slot (get_or used n d) left often)) ∙ h.each n d before)
    | inr le ↦
        (let last : n ≡ length used = omega (arith, lt, le, length-append used (slot ∷ [])) in
        subst (λ (s : ℕ). number_in with_number (s % width) (s / width) ≡ n) (sym (ap (λ (k : ℕ). get_or (used ++ slot ∷ []) k d) last ∙ get_or-append_seam used slot [] d)) (put_there ∙ sym last))
  ]

  place_of_each : (c r : ℕ) → c < width → number_in with_number c r ≢ none → IsNumberOfSlot (used ++ slot ∷ []) (r * width + c) (number_in with_number c r)
  place_of_each c r lt some = elim (cases_eq c (slot % width)) [
    | inl here ↦ elim (cases_eq r (slot / width)) [
      | inl there ↦
          (let its : r * width + c ≡ slot = ap₂ (λ (x y : ℕ). x * width + y) there here ∙ div-add-mod' slot width in
          let number : number_in with_number c r ≡ length used = ap₂ (number_in with_number) here there ∙ put_there in
          subst (λ (s : ℕ). IsNumberOfSlot (used ++ slot ∷ []) s (number_in with_number c r)) (sym its) (subst (IsNumberOfSlot (used ++ slot ∷ []) slot) (sym number) (last_place used slot)))
      | inr differ ↦ stays (λ same also. differ also)
    ]
    | inr differ ↦ stays (λ same also. differ same)
  ]
    where
      stays : (c ≡ slot % width → r ≡ slot / width → ⊥) → IsNumberOfSlot (used ++ slot ∷ []) (r * width + c) (number_in with_number c r)
      stays differ =
          (let same = others_stay c r differ in
          subst (IsNumberOfSlot (used ++ slot ∷ []) (r * width + c)) (sym same) (place_stays used (slot ∷ []) (r * width + c) (number_in columns c r) (h.only c r lt (λ e. some (same ∙ e)))))

  pub numbers_with : AreNumbersBySlot width (used ++ slot ∷ []) with_number
  numbers_with = record { wide = h.wide; few = omega (arith, few, length-append used (slot ∷ [])); each = number_of_each; only = place_of_each }
