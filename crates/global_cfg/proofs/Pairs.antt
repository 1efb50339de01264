-- Two lists in a row of which each two elements are related, in their order.
use Rattle.std.proofs.Common.{◌-◌, ◌<◌, List, ◌++◌, length, get_or, refl, sym, subst, inl, inr, arith, length-append}
use Rattle.std.specs.{Prelude.{Contains}, List.{AllPairs}}
use Rattle.std.proofs.lemmas.{Bool.{cases_lt}, List.{get_or_append_left, get_or-append_right, Elements.{Contains-get_or}}}

-- two lists of which each element of the first is related to each of the second
pub pairs_append : {X : Type 0} (R : X → X → Type 0) (xs ys : List X) → AllPairs R xs → AllPairs R ys → ((x y : X) → Contains xs x → Contains ys y → R x y) → AllPairs R (xs ++ ys)
pairs_append {X = X} R xs ys first second across i j d lt below = elim (cases_lt j (length xs)) [
  | inl left ↦
      (let less : i < length xs = omega (arith, lt, left) in
      subst (λ (x : X). R x (get_or (xs ++ ys) j d)) (sym (get_or_append_left xs ys d i less))
      (subst (R (get_or xs i d)) (sym (get_or_append_left xs ys d j left)) (first i j d lt left)))
  | inr right ↦
      (let there : j - length xs < length ys = omega (arith, right, below, length-append xs ys) in
      subst (R (get_or (xs ++ ys) i d)) (sym (get_or-append_right xs ys (length xs) j d refl right)) (elim (cases_lt i (length xs)) [
        | inl less ↦
            subst (λ (x : X). R x (get_or ys (j - length xs) d)) (sym (get_or_append_left xs ys d i less))
            (across (get_or xs i d) (get_or ys (j - length xs) d) (Contains-get_or xs i d less) (Contains-get_or ys (j - length xs) d there))
        | inr more ↦
            subst (λ (x : X). R x (get_or ys (j - length xs) d)) (sym (get_or-append_right xs ys (length xs) i d refl more))
            (second (i - length xs) (j - length xs) d (omega (arith, lt, more, right)) there)
      ]))
]
