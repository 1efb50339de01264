-- What a finding denies never comes along a run of states in a table.
use Rattle.std.proofs.Common.{◌<◌, List, [], ◌∷◌, length, sym, subst}
use Rattle.std.specs.{Prelude.{All}, List.{AllByRecursion}, declared.option.Option.{Option}}
use Rattle.std.proofs.lemmas.List.Elements.{All-from_recursion}
use Rattle.osek_values.specs.declared.{event.Event.{Event}, numbers.ModeNo.{ModeNo}}
use Rattle.osek_standard.specs.{declared.{app.App.{App}, state.State.{State}}, Dispatch.{Stepped}, Kernel.{start, step, steps, run}}
use Rattle.image_model.specs.{declared.image.Image.{Image}, ImageTrace.{after, image_steps, image_run}}
use Rattle.abstract_state.specs.Tables.{Sets, In, Inductive}
use Rattle.dictated_forms.specs.Forms.{Fits}
use Rattle.dictated_forms.proofs.ImageLaws.{fitting_step}
use Rattle.flow_report.specs.{declared.finding.Finding.{Finding}, Findings.{Denies, HoldsOf}}
use Rattle.flow_report.specs.declared.finding.Finding.TheVariants as finding

module _ (app : App) (table : Sets) (ind : Inductive app table) where
  not_of_step : (f : Finding) → HoldsOf app table f → (s : State) (e : Event) → In app table s → Denies app f (step app s e) → ⊥
  not_of_step (finding.Suspended t) h s e i d = h (step app s e).state (ind.step s e i) d
  not_of_step (finding.Unarmed a) h s e i d = h (step app s e).state (ind.step s e i) d
  not_of_step (finding.Unset t m) h s e i d = h (step app s e).state (ind.step s e i) d
  not_of_step (finding.Silent k) h s e i d = h.steps s e i d
  not_of_step (finding.Free b) h s e i d = h.1 (step app s e).state (ind.step s e i) d
  not_of_step (finding.Dead b) h s e i d = h (step app s e).state (ind.step s e i) d

  not_of_start : (f : Finding) → HoldsOf app table f → (m : ModeNo) → m.0 < length app.modes → Denies app f (start app m) → ⊥
  not_of_start (finding.Suspended t) h m lt d = h (start app m).state (ind.start m lt) d
  not_of_start (finding.Unarmed a) h m lt d = h (start app m).state (ind.start m lt) d
  not_of_start (finding.Unset t k) h m lt d = h (start app m).state (ind.start m lt) d
  not_of_start (finding.Silent k) h m lt d = h.starts m lt d
  not_of_start (finding.Free b) h m lt d = h.1 (start app m).state (ind.start m lt) d
  not_of_start (finding.Dead b) h m lt d = h (start app m).state (ind.start m lt) d

  module _ (f : Finding) (holds : HoldsOf app table f) where
    not_from : (s : State) (es : List Event) → In app table s → AllByRecursion (λ x. Denies app f x → ⊥) (steps app s es)
    not_from s [] i = tt
    not_from s (e ∷ es) i = (not_of_step f holds s e i, not_from (step app s e).state es (ind.step s e i))

    pub never_comes : (mode : ModeNo) (es : List Event) → mode.0 < length app.modes → All (λ x. Denies app f x → ⊥) (run app mode es)
    unfolding run
    never_comes mode es there = All-from_recursion (λ x. Denies app f x → ⊥) (run app mode es) (not_of_start f holds mode there, not_from (start app mode).state es (ind.start mode there))

module _ (i : Image) (table : Sets) (ind : Inductive i.app table) (fits : Fits table i) (f : Finding) (holds : HoldsOf i.app table f) where
  image_from : (s : State) (es : List Event) → In i.app table s → AllByRecursion (λ x. Denies i.app f x → ⊥) (image_steps i s es).steps
  image_from s [] inside = tt
  image_from s (e ∷ es) inside =
      subst (λ (o : Option Stepped). AllByRecursion (λ x. Denies i.app f x → ⊥) (after o (λ t. image_steps i t es)).steps) (sym (fitting_step i table fits s e inside))
      (not_of_step i.app table ind f holds s e inside, image_from (step i.app s e).state es (ind.step s e inside))

  pub never_comes_of : (mode : ModeNo) (es : List Event) → mode.0 < length i.app.modes → All (λ x. Denies i.app f x → ⊥) (image_run i mode es).steps
  unfolding image_run
  never_comes_of mode es there =
      All-from_recursion (λ x. Denies i.app f x → ⊥) (image_run i mode es).steps
      (not_of_start i.app table ind f holds mode there, image_from (start i.app mode).state es (ind.start mode there))
