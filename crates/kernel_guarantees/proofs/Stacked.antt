-- What follows from the stack of the tasks that are underway.
use Rattle.std.proofs.{Common.{◌≡◌, ◌≢◌, ℕ, ◌<◌, ◌≤◌, Bool, true, false, not, ◌&&◌, ◌||◌, List, [], ◌∷◌, length, refl, sym, subst, inl, inr, arith, nat_eq}, lemmas.Bool.{cases_Bool, false≢true, ne_eqb}}
use Rattle.osek_values.specs.declared.numbers.{ResNo.{ResNo}}
use Rattle.osek_standard.specs.declared.{app.App.{App}, state.State.{State}}
use Rattle.osek_standard.specs.{Apps.{is_extended}, TaskStates.{is_live}, States.{task_state}, Internal.{occupied}, Line.{turn}}
use Rattle.osek_standard.specs.Priority.{IsBest, base_priority, ceiling, current_priority, highest}
use Rattle.osek_standard.proofs.Greatest.{greatest_from}
use Rattle.kernel_guarantees.specs.Underway.{IsStacked, has_begun, is_current, is_first, is_underway}

and_first : (b c : Bool) → (b && c) ≡ true → b ≡ true
and_first true c e = refl
and_first false c e = absurd (false≢true e)

and_rest : (b c : Bool) → b ≡ true → (b && c) ≡ false → c ≡ false
and_rest true c h e = e
and_rest false c h e = absurd (false≢true h)

module _ (app : App) where
  -- the greatest of the base and some ceilings is at least each of them
  base_or_more : (p : ℕ) (resources : List ResNo) → p ≤ highest app p resources
  unfolding highest
  base_or_more p resources = greatest_from (λ (r : ResNo). ceiling app r.0) p resources

  pub none_is_base : (p : ℕ) (resources : List ResNo) (b : Bool) → (not (nat_eq (length resources) 0) || b) ≡ false → highest app p resources ≡ p
  unfolding highest
  none_is_base p [] b e = refl
  none_is_base p (r ∷ resources) b e =
      let some : nat_eq (length (r ∷ resources)) 0 ≡ false = ne_eqb (length (r ∷ resources)) 0 (λ f. omega (arith, f)) in
      absurd (false≢true (sym (subst (λ (c : Bool). (not c || b) ≡ false) some e)))

  module _ (s : State) where
    abbrev pub cur : ℕ → ℕ
    cur t = current_priority app s t

    abbrev pub base : ℕ → ℕ
    base t = base_priority app t

    pub own : (t : ℕ) → base t ≤ cur t
    own t = base_or_more (base t) (occupied app t (task_state s t))

    pub under_is_live : (t : ℕ) → is_underway app s t ≡ true → is_live (task_state s t) ≡ true
    under_is_live t e = and_first (is_live (task_state s t)) (has_begun app t (task_state s t)) e

    pub plain : (t : ℕ) → is_live (task_state s t) ≡ true → is_underway app s t ≡ false → cur t ≡ base t
    plain t live e = none_is_base (base t) (occupied app t (task_state s t)) (not (is_extended app t) && not (is_first app t (task_state s t)))
        (and_rest (is_live (task_state s t)) (has_begun app t (task_state s t)) live e)

    module _ (stacked : IsStacked app s) where
      -- who is best and hasn't the processor has a base above all that another has that is underway and ready
      pub winner_above : (x u : ℕ) → IsBest app s x → is_current s x ≡ false → u ≢ x → is_underway app s u ≡ true → is_current s u ≡ false → cur u < base x
      winner_above x u best free other under ready =
          let live = under_is_live u under in
          elim (cases_Bool (is_underway app s x)) [
            | inl e ↦ elim (stacked.apart x u (λ f. other (sym f)) e under) [
              | inl h ↦ absurd (elim (best.others u live other) [
                | inl lower ↦ omega (arith, h, lower, own u)
                | inr tie ↦ omega (arith, h, tie.0, own u)
              ])
              | inr h ↦ h
            ]
            | inr e ↦ (let same : cur x ≡ base x = plain x best.live e in elim (best.others u live other) [
              | inl lower ↦ omega (arith, lower, same)
              | inr tie ↦ absurd (let first : turn s u < turn s x = stacked.ahead u x other under ready best.live free tie.0 in omega (arith, first, tie.1))
            ])
          ]

      -- one task of a base below a number at most has a current priority of that or more
      raised_is_under : (t p : ℕ) → is_live (task_state s t) ≡ true → base t < p → p ≤ cur t → is_underway app s t ≡ true
      raised_is_under t p live low high = elim (cases_Bool (is_underway app s t)) [
        | inl e ↦ e
        | inr e ↦ absurd (let same : cur t ≡ base t = plain t live e in omega (arith, low, high, same))
      ]

      pub one_raised : (p t u : ℕ) → t ≢ u → is_live (task_state s t) ≡ true → is_live (task_state s u) ≡ true → base t < p → p ≤ cur t → base u < p → p ≤ cur u → ⊥
      one_raised p t u other live also low high low2 high2 =
          elim (stacked.apart t u other (raised_is_under t p live low high) (raised_is_under u p also low2 high2)) [
            | inl h ↦ omega (arith, h, low2, high)
            | inr h ↦ omega (arith, h, low, high2)
          ]

      -- two tasks of one priority aren't underway together
      pub one_of_a_priority : (t u : ℕ) → t ≢ u → is_underway app s t ≡ true → is_underway app s u ≡ true → base t ≢ base u
      one_of_a_priority t u other under also same = elim (stacked.apart t u other under also) [
        | inl h ↦ omega (arith, h, same, own t)
        | inr h ↦ omega (arith, h, same, own u)
      ]
