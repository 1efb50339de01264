-- The record of each run is quiet over an inductive table.
use Rattle.std.proofs.Common.{◌≡◌, ◌≢◌, ◌⊎◌, ◌<◌, List, [], ◌∷◌, length, map, Some, None, Bool, true, false, refl, sym, ap, ◌∙◌, inl, inr}
use Rattle.std.proofs.lemmas.Bool.{true≢false}
use Rattle.osek_values.specs.declared.{event.Event.{Event}, numbers.ModeNo.{ModeNo}}
use Rattle.osek_standard.specs.declared.{app.App.{App}, state.State.{State}, point.Point.{Point}}
use Rattle.osek_standard.specs.{Dispatch.{Stepped}, Kernel.{start, step, steps, run}, Points.{point_of}}
use Rattle.abstract_state.specs.Tables.{Sets, In, Inductive, same_point}
use Rattle.abstract_state.proofs.EqualityLaws.{point_right, point_itself}
use Rattle.flow_watch.specs.Records.{MayCome, IsQuiet, record_of}

same_or_not : (p q : Point) (b : Bool) → same_point p q ≡ b → (p ≡ q) ⊎ (p ≢ q)
same_or_not p q true e = inl (point_right p q e)
same_or_not p q false e = inr (λ same. true≢false (sym (point_itself p) ∙ ap (same_point p) same ∙ e))

module _ (app : App) (table : Sets) (inductive : Inductive app table) where
  may_come : (s : State) (e : Event) → In app table s → MayCome app table (Some (point_of s)) (point_of (step app s e).state)
  may_come s e h =
      let p = point_of s in
      let q = point_of (step app s e).state in
      elim (same_or_not p q (same_point p q) refl) [
        | inl same ↦ inl (sym same)
        | inr other ↦ inr (record { from = s; event = e; inside = h; begins = refl; ends = refl; moves = inl other })
      ]

  quiet_from : (s : State) (es : List Event) → In app table s → IsQuiet app table (Some (point_of s)) (map (λ (x : Stepped). point_of x.state) (steps app s es))
  quiet_from s [] h = tt
  quiet_from s (e ∷ es) h = (may_come s e h, quiet_from (step app s e).state es (inductive.step s e h))

  pub quiet_run : (mode : ModeNo) (es : List Event) → mode.0 < length app.modes → IsQuiet app table None (record_of app mode es)
  unfolding run
  quiet_run mode es there = ((inductive.start mode there).entry, quiet_from (start app mode).state es (inductive.start mode there))
