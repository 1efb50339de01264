-- What updates make of loads, by number: as more is known, and as more loads come in.
use Rattle.std.proofs.Common.{◌≡◌, ℕ, ◌+◌, ◌<◌, List, [], ◌∷◌, ◌++◌, length, get_or, set, sym, ap, subst, ◌∙◌, inl, inr, arith}
use Rattle.std.proofs.{Math.Seq.{get_or-append_seam}, lemmas.{Bool.{cases_eq}, List.{length-append, get_or_append_left, get_or_past, length-set, get_or-set_same, get_or-set_other, Elements.{Contains-push_cases}}}}
use Rattle.flow_model.specs.declared.change.Update.{Update}
use Rattle.numbered_sets.specs.{declared.{loads.Load.{Load}, load_updates.LoadsAfter.{LoadsAfter}}, Slots.{none, no_load, AreMoreLoads}}
use Rattle.numbered_sets.specs.LoadUpdates.{load_after, IsNumberAfter, AreNumbersAfter, AreLoadUpdates, HasUpdateAt}

-- ---- of one update

module _ (loads : List Load) (u : Update) where
  pub none_noted : AreNumbersAfter loads u []
  none_noted = record { each = λ k some. absurd (some (get_or_past [] k none (omega arith))) }

  pub numbers_stay : (numbers after : List ℕ) → ((k : ℕ) → get_or after k none ≡ get_or numbers k none) → AreNumbersAfter loads u numbers → AreNumbersAfter loads u after
  numbers_stay numbers after same h = record { each = λ k some. subst (IsNumberAfter loads u k) (sym (same k)) (h.each k (λ e. some (same k ∙ e))) }

  pub number_noted : (numbers : List ℕ) (k m : ℕ) → k < length numbers → IsNumberAfter loads u k m → AreNumbersAfter loads u numbers → AreNumbersAfter loads u (set numbers k m)
  number_noted numbers k m room new h = record {
    each = λ j some. elim (cases_eq j k) [
      | inl same ↦
          (let at : get_or (set numbers k m) j none ≡ m = ap (λ (i : ℕ). get_or (set numbers k m) i none) same ∙ get_or-set_same numbers k m none room in
          subst (IsNumberAfter loads u j) (sym at) (subst (λ (i : ℕ). IsNumberAfter loads u i m) (sym same) new))
      | inr other ↦
          (let at : get_or (set numbers k m) j none ≡ get_or numbers j none = get_or-set_other numbers k j m none other in
          subst (IsNumberAfter loads u j) (sym at) (h.each j (λ e. some (at ∙ e))))
    ];
  }

-- another update that makes the same of each load
module _ (loads : List Load) (u w : Update) (alike : (x : Load) → load_after u x ≡ load_after w x) where
  pub number_alike : (k m : ℕ) → IsNumberAfter loads u k m → IsNumberAfter loads w k m
  number_alike k m h = record { known = h.known; there = h.there; is = h.is ∙ alike (get_or loads k no_load) }

  pub numbers_alike : (numbers : List ℕ) → AreNumbersAfter loads u numbers → AreNumbersAfter loads w numbers
  numbers_alike numbers h = record { each = λ k some. number_alike k (get_or numbers k none) (h.each k some) }

-- loads came in
number_longer : (loads after : List Load) (u : Update) (k m : ℕ) → AreMoreLoads loads after → IsNumberAfter loads u k m → IsNumberAfter after u k m
number_longer loads after u k m grown h =
    let long : length after ≡ length loads + length grown.more = ap length grown.is ∙ length-append loads grown.more in
    let stays : (j : ℕ) → j < length loads → get_or after j no_load ≡ get_or loads j no_load = λ j lt.
    ap (λ (xs : List Load). get_or xs j no_load) grown.is ∙ get_or_append_left loads grown.more no_load j lt in
    record { known = omega (arith, h.known, long); there = omega (arith, h.there, long); is = stays m h.there ∙ h.is ∙ ap (load_after u) (sym (stays k h.known)) }

-- ---- of several updates

pub updates_longer : (loads after : List Load) (known : List LoadsAfter) → AreMoreLoads loads after → AreLoadUpdates loads known → AreLoadUpdates after known
updates_longer loads after known grown h x m =
    let k = h x m in
    record { each = λ j some. number_longer loads after x.update j (get_or x.numbers j none) grown (k.each j some) }

pub updates_push : (loads : List Load) (known : List LoadsAfter) (x : LoadsAfter) → AreLoadUpdates loads known → AreNumbersAfter loads x.update x.numbers → AreLoadUpdates loads (known ++ x ∷ [])
updates_push loads known x h k y m = elim (Contains-push_cases known x y m) [
  | inl old ↦ h y old
  | inr new ↦ subst (λ (z : LoadsAfter). AreNumbersAfter loads z.update z.numbers) new k
]

pub updates_put : (loads : List Load) (known : List LoadsAfter) (place : ℕ) (y : LoadsAfter) → AreLoadUpdates loads known → AreNumbersAfter loads y.update y.numbers → AreLoadUpdates loads (set known place y)
updates_put loads known place y h k x m =
    let there : m.0 < length known = omega (arith, m.1, length-set known place y) in
    elim (cases_eq m.0 place) [
      | inl same ↦
          (let at : get_or (set known place y) place x ≡ x = subst (λ (n : ℕ). get_or (set known place y) n x ≡ x) same m.2 in
          subst (λ (z : LoadsAfter). AreNumbersAfter loads z.update z.numbers) (sym (get_or-set_same known place y x (omega (arith, there, same))) ∙ at) k)
      | inr other ↦ h x (m.0, there, sym (get_or-set_other known place m.0 y x other) ∙ m.2)
    ]

pub update_found : (u : Update) (known : List LoadsAfter) (place : ℕ) (x : LoadsAfter) → place < length known → ((d : LoadsAfter) → get_or known place d ≡ x) → ((y : Load) → load_after x.update y ≡ load_after u y) → HasUpdateAt u known place
update_found u known place x lt at alike = record { known = lt; is = λ d y. ap (λ (z : LoadsAfter). load_after z.update y) (at d) ∙ alike y }

pub update_pushed : (u : Update) (known : List LoadsAfter) (place : ℕ) (x : LoadsAfter) → place ≡ length known → x.update ≡ u → HasUpdateAt u (known ++ x ∷ []) place
update_pushed u known place x last is =
    update_found u (known ++ x ∷ []) place x (omega (arith, last, length-append known (x ∷ []))) (λ d. ap (λ (k : ℕ). get_or (known ++ x ∷ []) k d) last ∙ get_or-append_seam known x [] d) (λ y. ap (λ (w : Update). load_after w y) is)
