-- Access never waits: what a call of GetResource answers, and of the tasks in one group.
use Rattle.std.proofs.Common.{◌≡◌, ℕ, ◌≤◌, Bool, true, false, ◌||◌, nat_eq, refl, sym, subst, ap, ◌∙◌, inl, inr, Some, None, IfSome}
use Rattle.std.proofs.lemmas.Bool.{cases_Bool, cases_eq, eq-eqb, false≢true}
use Rattle.std.specs.{Prelude.{if◌then◌else◌}, List.{cons_option}, declared.option.Option.{Option}}
use Rattle.osek_values.specs.declared.numbers.{BlockNo.{BlockNo}, ResNo.{ResNo}, TaskNo.{TaskNo}}
use Rattle.osek_values.specs.declared.status.Status.TheVariants as status
use Rattle.osek_standard.specs.declared.{app.App.{App}, block.Kind.{Kind}, state.{State.{State}, Processor.{Processor}}}
use Rattle.osek_standard.specs.{Apps.{the_block}, TaskStates.{held, holds, is_inside}, States.{caller, here, task_state}, Internal.{internal_of}}
use Rattle.osek_standard.specs.{Priority.{base_priority, ceiling}, Effects.{effect, effect_at, effect_by, moved_to, place_at}, Services.{get_resource, get_resource_by}, Well.{IsActive, Well}}
use Rattle.osek_standard.specs.declared.state.Processor.TheVariants as processor
use Rattle.osek_standard.proofs.{Callers.{block_here, moved_processor}, EffectKeeps.{moved_to_keeps}, MoveKeeps.{here_own}}
use Rattle.kernel_guarantees.specs.{Conditions.{HasGroups}, Resources.{IsAtGetResource, Occupies, OfTask}, Underway.{IsStacked}}
use Rattle.kernel_guarantees.proofs.{Ceilings.{ceilings_apart, is_given}, StackSteps.{moved_shrinks}, StackedDeeds.{moving}}

module _ (app : App) (s : State) (w : Well app s) (stacked : IsStacked app s) where
  -- a call of GetResource by a task that is at or under the ceiling is refused only where it holds the resource
  module _ (c : TaskNo) (r : ResNo) (choice : Bool) (runs : s.processor ≡ processor.Running c) (calls : IsAtGetResource app s r)
      (low : base_priority app c.0 ≤ ceiling app r.0) (mine : holds (held (task_state s c.0)) r.0 ≡ false) where
    abbrev next : BlockNo
    next = (the_block app (here s).block.0).next

    abbrev on : State
    on = moved_to s next

    on_well : Well app on
    on_well = let active = subst IsActive (sym runs) tt in moved_to_keeps app s w next (block_here app s s.processor (here s).block.0 w.processor (here_own app s w active)).next

    not_mine : holds (held (task_state on c.0)) r.0 ≡ false
    not_mine = elim (cases_Bool (holds (held (task_state on c.0)) r.0)) [
      | inl e ↦ absurd (false≢true (sym mine ∙ moved_shrinks s (place_at next 0) s.processor (OfTask c.0) r.0 e))
      | inr e ↦ e
    ]

    given : (get_resource app on c.0 r).status ≡ Some status.Ok
    given = is_given app on (moving app s stacked (place_at next 0) s.processor refl) on_well c (moved_processor s (place_at next 0) s.processor ∙ runs) r.0 low not_mine r refl

    pub access_is_given : (effect app s choice).notes.status ≡ Some status.Ok
    unfolding effect
    access_is_given =
        let called : (get_resource_by app on (caller s.processor) r).status ≡ Some status.Ok
        = subst (λ (p : Processor). (get_resource_by app on (caller p) r).status ≡ Some status.Ok) (sym runs) given in
        let at_kind : (effect_at app s choice (here s) (the_block app (here s).block.0) (the_block app (here s).block.0).kind).notes.status ≡ Some status.Ok
        = subst (λ (k : Kind). (effect_at app s choice (here s) (the_block app (here s).block.0) k).notes.status ≡ Some status.Ok) (sym calls) called in
        subst (λ (p : Processor). (effect_by app s choice p).notes.status ≡ Some status.Ok) (sym runs) at_kind

  -- one at most of the tasks in one group is inside
  module _ (groups : HasGroups app) where
    inside_has : (t : ℕ) (r : ResNo) → is_inside (task_state s t) ≡ true → internal_of app t ≡ Some r → Occupies app s t r.0
    inside_has t r inside names =
        let x = task_state s t in
        let first : (nat_eq r.0 r.0 || holds (held x) r.0) ≡ true = ap (λ (b : Bool). b || holds (held x) r.0) (eq-eqb r.0 r.0 refl) in
        let plain : holds (cons_option (if true then internal_of app t else None) (held x)) r.0 ≡ true
        = subst (λ (o : Option ResNo). holds (cons_option o (held x)) r.0 ≡ true) (sym names) first in
        subst (λ (b : Bool). holds (cons_option (if b then internal_of app t else None) (held x)) r.0 ≡ true) (sym inside) plain

    at_most_ceiling : (t : ℕ) (r : ResNo) → internal_of app t ≡ Some r → base_priority app t ≤ ceiling app r.0
    at_most_ceiling t r names = subst (λ (o : Option ResNo). IfSome o (λ (q : ResNo). base_priority app t ≤ ceiling app q.0)) names (groups t)

    pub one_inside : (t u : ℕ) (r : ResNo) → internal_of app t ≡ Some r → internal_of app u ≡ Some r → is_inside (task_state s t) ≡ true → is_inside (task_state s u) ≡ true → t ≡ u
    one_inside t u r names also inside within = elim (cases_eq t u) [
      | inl same ↦ same
      | inr other ↦ absurd (ceilings_apart app s stacked t u r.0 r.0 other (inside_has t r inside names) (inside_has u r within also) (at_most_ceiling t r names) (at_most_ceiling u r also) refl)
    ]
