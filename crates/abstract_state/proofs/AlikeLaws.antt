-- What a table keeps of a state decides whether the state is in it.
use Rattle.std.proofs.Common.{◌≡◌, ℕ, ◌<◌, Bool, true, false, refl, sym, ap, subst, ◌∙◌, IsTrue}
use Rattle.osek_values.specs.{Numbers.{block_no}, declared.{numbers.BlockNo.{BlockNo}, mask.Mask.{Mask}}, Bits.{has_bit}}
use Rattle.osek_standard.specs.declared.{app.App.{App}, state.{State.{State}, Processor.{Processor}, Source.{Source}}}
use Rattle.osek_standard.specs.declared.state.Source.TheVariants as source
use Rattle.osek_standard.specs.declared.state.Processor.TheVariants as processor
use Rattle.osek_standard.specs.declared.task_state.Activity.{Activity}
use Rattle.osek_standard.specs.declared.task_state.Activity.TheVariants as activity
use Rattle.osek_standard.specs.{TaskStates.{is_inside_in}, States.{task_of, task_state, source_state, place_in, place_by, place_of_source, is_that_task}, Well.{Well}, declared.point.Point.{Point}}
use Rattle.abstract_state.specs.declared.value.{Val.{Val, TheVariants.{Suspended, Live, Waiting}}, SourceVal.{SourceVal}, Component.{Component}, PartValue.TheVariants.{OfTask, OfEvent, OfAlarm, OfSource}}
use Rattle.abstract_state.specs.declared.value.SourceVal.TheVariants as source_val
use Rattle.abstract_state.specs.declared.value.Component.TheVariants as component
use Rattle.osek_standard.specs.Points.{point_at, point_of}
use Rattle.abstract_state.specs.{Components.{component_at, component_count, value_in, source_value, part_of, abstract_of}, Alike.{IsAlike}, Regular.{IsRegular}, Tables.{Sets, In}}

pub in_by_components : (app : App) (table : Sets) (s u : State) → Well app u → IsRegular app u → point_of s ≡ point_of u → ((c : ℕ) → c < component_count app → abstract_of app s c ≡ abstract_of app u c) → In app table s → In app table u
in_by_components app table s u w regular p parts h = record {
  well = w;
  regular = regular;
  entry = subst (λ (q : Point). IsTrue (table.entry q)) p h.entry;
  within = λ c lt.
      subst (λ v. IsTrue (table.has (point_of u) c v)) (parts c lt)
      (subst (λ (q : Point). IsTrue (table.has q c (abstract_of app s c))) p (h.within c lt));
}

abbrev pub block_in : Val → BlockNo
block_in Suspended = block_no 0
block_in (Live x) = x.block
block_in (Waiting b) = b

-- a task's block is seen from what a table keeps of it
block_of_value : (x : Activity) → (place_in x).block ≡ block_in (value_in x)
block_of_value activity.Suspended = refl
block_of_value (activity.Live x) = refl
block_of_value (activity.Waiting b) = refl

same_block : (x y : Activity) → value_in x ≡ value_in y → (place_in x).block ≡ (place_in y).block
same_block x y e = block_of_value x ∙ ap block_in e ∙ sym (block_of_value y)

abbrev pub block_of_source : SourceVal → BlockNo
block_of_source source_val.Out = block_no 0
block_of_source (source_val.In x) = x.block

-- and a routine's from what it keeps of the source
block_of_routine : (x : Source) → (place_of_source x).block ≡ block_of_source (source_value x)
block_of_routine source.Out = refl
block_of_routine (source.In x) = refl

same_routine_block : (x y : Source) → source_value x ≡ source_value y → (place_of_source x).block ≡ (place_of_source y).block
same_routine_block x y e = block_of_routine x ∙ ap block_of_source e ∙ sym (block_of_routine y)

abbrev pub inside_in : Val → Bool
inside_in Suspended = false
inside_in (Live x) = x.inside
inside_in (Waiting b) = false

-- and so is a task's flag
pub inside_of_value : (x : Activity) → is_inside_in x ≡ inside_in (value_in x)
inside_of_value activity.Suspended = refl
inside_of_value (activity.Live x) = refl
inside_of_value (activity.Waiting b) = refl

same_inside : (x y : Activity) → value_in x ≡ value_in y → is_inside_in x ≡ is_inside_in y
same_inside x y e = inside_of_value x ∙ ap inside_in e ∙ sym (inside_of_value y)

module _ (s u : State) (alike : IsAlike s u) where
  same_point_at : (p : Processor) → point_at (place_by s p).block p ≡ point_at (place_by u p).block p
  same_point_at processor.Halted = refl
  same_point_at processor.Idle = refl
  same_point_at (processor.Running t) = ap (λ (b : BlockNo). point_at b (processor.Running t)) (same_block (task_state s t.0).activity (task_state u t.0).activity (alike.tasks t.0))
  same_point_at (processor.Interrupted k over) = ap (λ (b : BlockNo). point_at b (processor.Interrupted k over)) (same_routine_block (source_state s k.0) (source_state u k.0) (alike.sources k.0))

  pub alike_point : point_of s ≡ point_of u
  alike_point = same_point_at s.processor ∙ ap (λ (p : Processor). point_at (place_by u p).block p) alike.processor

  pub alike_part : (c : Component) → part_of s c ≡ part_of u c
  alike_part (component.Task t) = ap OfTask (alike.tasks t.0)
  alike_part (component.Event t k) = ap (λ (m : Mask). OfEvent (has_bit m.0 k.0)) (alike.events t.0)
  alike_part (component.Alarm a) = ap OfAlarm (alike.alarms a.0)
  alike_part (component.Source k) = ap OfSource (alike.sources k.0)

-- the same tasks are inside
alike_regular : (app : App) (s u : State) → IsAlike s u → IsRegular app s → IsRegular app u
alike_regular app s u alike h = record {
  inside = record {
    named = λ t f. h.inside.named t (same_inside (task_state s t).activity (task_state u t).activity (alike.tasks t) ∙ f);
    current = λ t f.
        sym (same_inside (task_state s t).activity (task_state u t).activity (alike.tasks t))
        ∙ h.inside.current t (subst (λ (p : Processor). is_that_task (task_of p) t ≡ true) (sym alike.processor) f);
  };
}

pub in_alike : (app : App) (table : Sets) (s u : State) → Well app u → IsAlike s u → In app table s → In app table u
in_alike app table s u w alike h = in_by_components app table s u w (alike_regular app s u alike h.regular) (alike_point s u alike) (λ c lt. alike_part s u alike (component_at app c)) h
