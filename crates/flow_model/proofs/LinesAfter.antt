-- How the line goes on after an effect.
use Rattle.std.proofs.Common.{◌≡◌, ℕ, ◌<◌, true, false, List, [], ◌∷◌, ◌++◌, None, Some, refl, sym, ap, subst, ◌∙◌, inl, inr, arith}
use Rattle.std.proofs.lemmas.{Bool.{cases_eq, eq-eqb, false≢true}, List.{append-nil}}
use Rattle.std.specs.{Prelude.{IfSome}, declared.option.Option.{Option}}
use Rattle.osek_values.specs.declared.numbers.TaskNo.{TaskNo}
use Rattle.osek_standard.specs.{declared.{state.State.{State}, task_state.Activity.{Activity}}, TaskStates.{is_live_activity}, States.{is_that_task, task_of}, Line.{places, places_due}}
use Rattle.osek_standard.specs.declared.task_state.Activity.TheVariants as activity
use Rattle.osek_standard.proofs.PlaceLaws.{places_in, other_last}
use Rattle.flow_model.specs.Effects.{IsLineAfter}

-- a Live task that waits for the processor has a place due
pub some_due : (o : Option TaskNo) (t : ℕ) (a : Activity) → is_live_activity a ≡ true → is_that_task o t ≡ false → 0 < places_due o t a
some_due o t activity.Suspended live e = absurd (cc)
some_due o t (activity.Live x) live e = rw e (omega arith)
some_due o t (activity.Waiting b) live e = absurd (cc)

-- the line stays
pub line_stays : (before after : State) → after.line ≡ before.line → IsLineAfter None before after
line_stays before after e = record {
  more = [];
  is = e ∙ sym (append-nil before.line);
  new = tt;
  old = λ t other waits some. subst (λ (l : List TaskNo). 0 < places_in l t) e some;
}

-- a task that had no place is put last
pub line_with_last : (before after : State) (t : TaskNo) → after.line ≡ before.line ++ t ∷ [] → places before t.0 ≡ 0 → IsLineAfter (Some t) before after
line_with_last before after t e none = record {
  more = t ∷ [];
  is = e;
  new = (refl, none);
  old = λ u other waits some. subst (λ (n : ℕ). 0 < n)
      (ap (λ (l : List TaskNo). places_in l u) e ∙ other_last u t before.line (λ same. false≢true (sym other ∙ eq-eqb t.0 u (sym same)))) some;
}

-- a task that had a place, or that has the processor, gets one more
pub line_with_more : (before after : State) (t : TaskNo) → after.line ≡ before.line ++ t ∷ [] → (is_that_task (task_of after.processor) t.0 ≡ false → 0 < places before t.0) → IsLineAfter None before after
line_with_more before after t e had = record {
  more = t ∷ [];
  is = e;
  new = tt;
  old = λ u other waits some. elim (cases_eq u t.0) [
    | inl same ↦ subst (λ (v : ℕ). 0 < places before v) (sym same) (had (subst (λ (v : ℕ). is_that_task (task_of after.processor) v ≡ false) same waits))
    | inr differs ↦ subst (λ (n : ℕ). 0 < n) (ap (λ (l : List TaskNo). places_in l u) e ∙ other_last u t before.line differs) some
  ];
}

-- from a state with the same line
pub line_from : (last : Option TaskNo) (before between after : State) → between.line ≡ before.line → IsLineAfter last between after → IsLineAfter last before after
line_from last before between after e h = record {
  more = h.more;
  is = h.is ∙ ap (λ (l : List TaskNo). l ++ h.more) e;
  new = subst (λ (l : List TaskNo). IfSome last (λ (t : TaskNo). (h.more ≡ t ∷ []) × (places_in l t.0 ≡ 0))) e h.new;
  old = λ t other waits some. subst (λ (l : List TaskNo). 0 < places_in l t) e (h.old t other waits some);
}
