-- After ShutdownOS no routine is left: what that makes of the components.
use Rattle.std.proofs.Common.{◌≡◌, ℕ, ◌<◌, List, refl, sym, ap, ◌∙◌, arith}
use Rattle.std.specs.{Prelude.{⊤}, List.{range_with_len}}
use Rattle.osek_values.specs.{Numbers.{source_no}, declared.numbers.SourceNo.{SourceNo}}
use Rattle.osek_standard.specs.declared.{app.App.{App}, state.{State.{State}, Source.{Source}, Processor.{Processor}}}
use Rattle.osek_standard.specs.declared.state.Processor.TheVariants as processor
use Rattle.osek_standard.specs.{Apps.{source_count}, Effects.{halted_by}, Well.{Well, AreOut, IsActive}}
use Rattle.osek_standard.proofs.Members.{among_map, among_range, map_among, range_among}
use Rattle.abstract_state.specs.declared.value.{Component.{Component}, PartValue.{PartValue, TheVariants.{OfSource}}}
use Rattle.abstract_state.specs.declared.value.SourceVal.TheVariants as source_val
use Rattle.abstract_state.specs.declared.value.Component.TheVariants as component
use Rattle.abstract_state.specs.Components.{component_at, component_count, component_number, part_of, source_value, IsComponent}
use Rattle.abstract_state.proofs.{ComponentLaws.{component_known, component_numbered}, Numbers.{component_here}}
use Rattle.flow_model.specs.{declared.change.Change.{Change}, Tests.{updated, value_after}, Changes.{source_change}}
use Rattle.flow_model.proofs.ChangeLaws.{elsewhere, made}
use Rattle.flow_effects.specs.Moves.{all_ended}

abbrev pub IsNoSource : Component → Type 0
IsNoSource (component.Task t) = ⊤
IsNoSource (component.Event t k) = ⊤
IsNoSource (component.Alarm a) = ⊤
IsNoSource (component.Source k) = ⊥

-- what a halt leaves
pub halted_out : (app : App) (s : State) (p : Processor) → IsActive p → Well app (halted_by s p) → AreOut app (halted_by s p)
halted_out app s processor.Halted active w = absurd active
halted_out app s processor.Idle active w = absurd active
halted_out app s (processor.Running t) active w = w.processor
halted_out app s (processor.Interrupted k over) active w = w.processor

module _ (app : App) (s u : State) (out : AreOut app u) (same : (k : Component) → IsNoSource k → part_of u k ≡ part_of s k) (c : ℕ) (lt : c < component_count app) where
  abbrev ending : ℕ → Change
  ending k = source_change app k source_val.Out

  abbrev sources : List ℕ
  sources = range_with_len 0 (source_count app)

  other_part : (k : Component) → component_at app c ≡ k → ((j : SourceNo) → k ≡ component.Source j → ⊥) → (v : PartValue) → value_after (all_ended app) c v ≡ v
  other_part k at other v = elsewhere (all_ended app) c v (λ x m e.
      let back = map_among ending x sources m in
      let low = range_among 0 (source_count app) back.0 back.1 in
      let number : component_number app (component.Source (source_no back.0)) ≡ c = ap (λ (y : Change). y.component.0) (sym back.2) ∙ e in
      other (source_no back.0) (sym at ∙ ap (component_at app) (sym number) ∙ component_here app (component.Source (source_no back.0)) (omega (arith, low.1))))

  part_by : (k : Component) → component_at app c ≡ k → IsComponent app k → part_of u k ≡ value_after (all_ended app) c (part_of s k)
  part_by (component.Task t) at is = same (component.Task t) tt ∙ sym (other_part (component.Task t) at (λ j e. absurd (cc)) (part_of s (component.Task t)))
  part_by (component.Event t j) at is = same (component.Event t j) tt ∙ sym (other_part (component.Event t j) at (λ i e. absurd (cc)) (part_of s (component.Event t j)))
  part_by (component.Alarm a) at is = same (component.Alarm a) tt ∙ sym (other_part (component.Alarm a) at (λ j e. absurd (cc)) (part_of s (component.Alarm a)))
  part_by (component.Source k) at is =
      ap (λ (x : Source). OfSource (source_value x)) (out k.0)
      ∙ sym (made (all_ended app) c (part_of s (component.Source k)) (OfSource source_val.Out) (ending k.0)
      (among_map ending k.0 sources (among_range 0 (source_count app) k.0 (omega arith) (omega (arith, is))))
      (ap (component_number app) (sym at) ∙ component_numbered app c lt)
      (λ y m there w. let back = map_among ending y sources m in ap (λ (z : Change). updated z.update w) back.2))

  -- each component, where only the routines changed
  pub ended_part : part_of u (component_at app c) ≡ value_after (all_ended app) c (part_of s (component_at app c))
  ended_part = part_by (component_at app c) refl (component_known app c lt)
